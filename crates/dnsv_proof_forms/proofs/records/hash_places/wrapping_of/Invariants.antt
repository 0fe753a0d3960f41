-- those of the places so far that wrap
use Rattle.dnsv_proof_forms.proofs.lemmas.records.HashPlaceLemmas.{AreWrappingTo}
use Rattle.dnsv_proof_forms.proofs.records.hash_places.wrapping_of.Given as goal

abbrev pub invariant-loop-each : goal.invariant-loop-each
invariant-loop-each l = AreWrappingTo l.places l.each-index l.wrapping.items
