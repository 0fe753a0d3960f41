use Rattle.std.proofs.Common.{ℕ, List, take}
use Rattle.dnsv_canonical.specs.Rrsets.{ReceivedRrset}
use Rattle.dnsv_compact.specs.CompactList.{AreInPlaces}
use Rattle.dnsv_compact.specs.Signed.{AreSignedIn}
use Rattle.dnsv_compact.proofs.list.places_of.Given as goal

-- the places of the entries so far
abbrev pub invariant-loop-place : goal.invariant-loop-place
invariant-loop-place l =
    (from to : ℕ) (rrsets : List ReceivedRrset) → AreSignedIn from to rrsets l.signed → AreInPlaces from to rrsets l.keys (take l.place l.entries) l.places.items
