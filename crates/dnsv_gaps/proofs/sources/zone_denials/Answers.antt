use Rattle.std.proofs.Common.{◌↔◌, ℕ, List, subst, sym}
use Rattle.std.specs.List.Sorted.{IsStrictlySortedBy}
use Rattle.std.specs.Ordering.{nat_cmp}
use Rattle.std.specs.Prelude.{Contains}
use Rattle.dnsv_names.specs.Name.{rightmost}
use Rattle.dnsv_gaps.specs.Asking.{asking}
use Rattle.dnsv_gaps.specs.Denials.{IsDenialNumber}
use Rattle.dnsv_gaps.proofs.sources.zone_denials.Goals as goal

pub denials_with-requires-clause-order : goal.denials_with-requires-clause-order
denials_with-requires-clause-order c =
    subst (IsStrictlySortedBy nat_cmp) (sym c.deref.ensures.value) c.in_ok-numbers.ensures.order

pub denials_with-requires-clause-members : goal.denials_with-requires-clause-members
denials_with-requires-clause-members c =
    let a = asking c.args.question.now in
    let zone = rightmost c.args.question.now.name.now c.args.labels in
    subst (λ (ns : List ℕ). (k : ℕ) → Contains ns k ↔ IsDenialNumber a zone k) (sym c.deref.ensures.value) c.in_ok-numbers.ensures.members
