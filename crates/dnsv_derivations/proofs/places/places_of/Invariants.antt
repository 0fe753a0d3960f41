use Rattle.std.proofs.Common.{take}
use Rattle.dnsv_derivations.specs.Places.{ArePlacedBy}
use Rattle.dnsv_derivations.proofs.places.places_of.Given as goal

abbrev pub invariant-loop-number : goal.invariant-loop-number
invariant-loop-number l = ArePlacedBy l.rrsets (take l.number-index l.numbers) l.places.items
