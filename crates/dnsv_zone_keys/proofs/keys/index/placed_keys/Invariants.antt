use Rattle.dnsv_zone_keys.proofs.lemmas.IndexLemmas.{AreIndexedTo}
use Rattle.dnsv_zone_keys.proofs.keys.index.placed_keys.Given as goal

-- the keys of the zones so far
abbrev pub invariant-loop-place : goal.invariant-loop-place
invariant-loop-place l = AreIndexedTo l.capture.rrsets l.place l.keys.items
