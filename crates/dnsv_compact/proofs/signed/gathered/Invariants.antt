use Rattle.std.proofs.Common.{[]}
use Rattle.dnsv_verifier.specs.Asking.{AddsJust}
use Rattle.dnsv_compact.specs.Signed.{ComesOfFirst, IsSignedAmong}
use Rattle.dnsv_compact.proofs.signed.gathered.Given as goal

-- those of the RRsets so far
abbrev pub invariant-loop-place : goal.invariant-loop-place
invariant-loop-place l = AddsJust (ComesOfFirst (IsSignedAmong l.range.from l.range.to) l.rrsets l.place) [] l.signed.items
