use Rattle.std.proofs.Common.{[], subst, sym}
use Rattle.std.specs.Option.{option_map_or}
use Rattle.dnsv_derivations.specs.Explained.{Explained, IsTodo}
use Rattle.dnsv_derivations.proofs.evidence.Evidence.todo_of.Goals as goal

pub returns : goal.returns
returns c = λ good.
    let number = c.in_ok-number_among.field-0 in
    let Of : Explained → Type 0 = λ all. IsTodo all.todo good.entry number in
    subst Of c.self.view_is
    (subst (λ todo. IsTodo (option_map_or (λ entries. entries.now) todo []) good.entry number) (sym c.in-Some.is)
    (c.in_ok-number_among.ensures good.entry good.is))
