use Rattle.dnsv_verifier.specs.Asking.{AddsJust}
use Rattle.dnsv_compact.specs.Signed.{ComesOfFirst, IsSignedBy}
use Rattle.dnsv_compact.proofs.signed.add_rrset.Given as goal

-- those of the signatures so far
abbrev pub invariant-loop-place : goal.invariant-loop-place
invariant-loop-place l =
    AddsJust (ComesOfFirst (λ signature rrsig signed. IsSignedBy l.range.from l.range.to l.number l.rrset signature rrsig signed) l.signatures l.place)
    l.initial.signed.items l.signed.items
