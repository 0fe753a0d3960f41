use Rattle.std.proofs.Common.{[], take}
use Rattle.dnsv_verifier.specs.Asking.{AddsJust, AreMadeAt, ComesOfSome, IsMadeIn}
use Rattle.dnsv_verifier.proofs.ask.made.made_signatures.Given as goal

-- those of the RRsets so far
abbrev pub invariant-loop-place : goal.invariant-loop-place
invariant-loop-place l = record {
  adds : AddsJust (ComesOfSome (IsMadeIn l.sought.range.from l.sought.range.to l.sought.keys.now) (take l.place l.rrsets)) [] l.made.signatures.items;
  numbers : AreMadeAt l.rrsets l.made.numbers.items l.made.signatures.items;
}
