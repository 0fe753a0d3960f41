use Rattle.std.proofs.Common.{refl}
use Rattle.std.proofs.lemmas.List.Elements.{Contains-get_or}
use Rattle.dnsv_derivations.proofs.lemmas.AnswerLemmas.{first_lowest, long, none_there}
use Rattle.dnsv_derivations.proofs.derivations.lowest_secured.Goals as goal

pub returns-then-is_empty : goal.returns-then-is_empty
returns-then-is_empty c = λ s secured.
    none_there c.secured-numbers.result.now c.is_empty.result c.is_empty.ensures c.if-is_empty.true s ((c.secured-numbers.ensures.members s).1 secured)

pub returns : goal.returns
returns c =
    let numbers = c.secured-numbers.result.now in (
      refl,
      record {
        secured = (c.secured-numbers.ensures.members _).0
            (Contains-get_or numbers 0 _ (long numbers c.is_empty.result c.is_empty.ensures c.if-is_empty.false));
        lowest = λ t secured. first_lowest numbers _ t c.secured-numbers.ensures.rising ((c.secured-numbers.ensures.members t).1 secured);
      },
    )
