use Rattle.dnsv_derivations.proofs.lemmas.AnswerLemmas.{not_none, some_there}
use Rattle.dnsv_derivations.proofs.derivations.ways.by_ds.has_secured.Goals as goal

pub returns : goal.returns
returns c = (
  λ is.
      let there = some_there c.secured.result.now c.is_empty.result c.is_empty.ensures is in
      (there.0, (c.secured.ensures.members there.0).0 there.1),
  λ has. not_none c.secured.result.now c.is_empty.result has.0 c.is_empty.ensures ((c.secured.ensures.members has.0).1 has.1),
)
