use Rattle.std.proofs.Common.{List}
use Rattle.std.specs.List.{AllZip}
use Rattle.dnsv_canonical.specs.Rrsets.{ReceivedRrset}
use Rattle.dnsv_verifier.specs.Asking.{AreMadeAt}
use Rattle.dnsv_verifier.specs.Numbers.{ArePlaces, IsPartNumber, PartLists}
use Rattle.dnsv_verifier.proofs.ask.places.places_of.Given as goal

-- so it is with the places so far
abbrev pub invariant-loop-place : goal.invariant-loop-place
invariant-loop-place l =
    (rrsets : List ReceivedRrset) (parts : PartLists) → AreMadeAt rrsets l.made.numbers.items l.made.signatures.items
    → AllZip (IsPartNumber parts) l.made.signatures.items l.found → ArePlaces rrsets parts l.places.items
