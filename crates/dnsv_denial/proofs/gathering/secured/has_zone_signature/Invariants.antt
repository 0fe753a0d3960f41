-- none of the signatures so far is the zone's
use Rattle.std.proofs.Common.{◌≡◌, ℕ, ◌<◌}
use Rattle.std.specs.Prelude.{Some, slice_get}
use Rattle.dnsv_denial.specs.gathering.Evidence.{HasZoneSignature}
use Rattle.dnsv_denial.proofs.gathering.secured.has_zone_signature.Given as goal

abbrev pub invariant-loop-number : goal.invariant-loop-number
invariant-loop-number l =
    (k s : ℕ) → k < l.number-index → slice_get l.secured k ≡ Some s → ¬ HasZoneSignature (λ t. t ≡ s) l.rrset l.zone
