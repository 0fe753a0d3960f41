-- the reaches so far
use Rattle.dnsv_proof_forms.proofs.lemmas.records.HashPlaceLemmas.{AreReachesTo}
use Rattle.dnsv_proof_forms.proofs.records.hash_places.reaches_of.Given as goal

abbrev pub invariant-loop-each : goal.invariant-loop-each
invariant-loop-each l = AreReachesTo l.places l.each-index l.reach l.reaches.items
