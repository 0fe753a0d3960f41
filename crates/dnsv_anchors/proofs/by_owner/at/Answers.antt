use Rattle.std.proofs.Common.{sym, ap, ◌∙◌}
use Rattle.std.specs.Option.{option_copied}
use Rattle.dnsv_anchors.specs.ByOwner.{values_at}
use Rattle.dnsv_anchors.proofs.ByOwnerLemmas.{values_of, values_found}
use Rattle.dnsv_anchors.proofs.by_owner.at.Goals as goal

pub returns-in-Some : goal.returns-in-Some
returns-in-Some g c =
    c.deref.ensures.value ∙ ap (λ o. values_of (option_copied o)) (sym c.in-Some.is) ∙ ap values_of c.get.ensures.value
    ∙ values_found c.args.by_owner.now (record { 0 = c.copied.result }) ∙ ap (values_at c.args.by_owner.now) c.copied.ensures

pub returns-in-None : goal.returns-in-None
returns-in-None g c =
    ap (λ o. values_of (option_copied o)) (sym c.in-None.is) ∙ ap values_of c.get.ensures.value
    ∙ values_found c.args.by_owner.now (record { 0 = c.copied.result }) ∙ ap (values_at c.args.by_owner.now) c.copied.ensures
