use Rattle.std.proofs.Common.{◌≡◌, ℕ, ◌≤◌, List, length, map, not, ap, sym, subst, ◌∙◌}
use Rattle.std.specs.List.{AllByRecursion}
use Rattle.std.specs.Prelude.{OnOk}
use Rattle.dnsv_canonical.specs.CanonicalRdata.{canonical_form}
use Rattle.dnsv_canonical.specs.SignedRecords.{AddsSigned}
use Rattle.dnsv_canonical.proofs.SignedLemmas.{forms_short, kept_forms, not_some}
use Rattle.dnsv_canonical.proofs.signed.push_canonical.Goals as goal

pub returns-then-is_none : goal.returns-then-is_none
returns-then-is_none c =
    subst (λ forms. OnOk c.push_in_order.result (AddsSigned c.args.front.now forms c.args.octets.now.items c.push_in_order.new.octets.items))
    (sym (kept_forms c.args.rtype.0 (map (λ r. r.now) c.args.received.now) (sym c.octets_around_names.ensures ∙ not_some c.octets_around_names.result (c.is_none.ensures ∙ ap not c.if-is_none.true))))
    c.push_in_order.ensures

pub push_in_order-requires-2 : goal.push_in_order-requires-2
push_in_order-requires-2 c =
    let slices_are : map (λ r. r.now) c.as_slice-2.result.now ≡ map (canonical_form c.args.rtype.0) (map (λ r. r.now) c.args.received.now) =
    ap (map (λ r. r.now)) c.as_slice-2.ensures.value ∙ c.in_ok-slices.ensures ∙ ap (map (λ form. form.items)) c.as_slice.ensures.value ∙ c.in_ok-forms.ensures in
    subst (AllByRecursion (λ (rdata : List ℕ). length rdata ≤ 65535)) (sym slices_are) (forms_short c.args.rtype.0 (map (λ r. r.now) c.args.received.now) c.requires)

pub returns : goal.returns
returns c =
    let slices_are : map (λ r. r.now) c.as_slice-2.result.now ≡ map (canonical_form c.args.rtype.0) (map (λ r. r.now) c.args.received.now) =
    ap (map (λ r. r.now)) c.as_slice-2.ensures.value ∙ c.in_ok-slices.ensures ∙ ap (map (λ form. form.items)) c.as_slice.ensures.value ∙ c.in_ok-forms.ensures in
    subst (λ forms. OnOk c.push_in_order-2.result (AddsSigned c.args.front.now forms c.args.octets.now.items c.push_in_order-2.new.octets.items)) slices_are c.push_in_order-2.ensures
