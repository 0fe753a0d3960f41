-- the places of the records so far
use Rattle.dnsv_proof_forms.proofs.lemmas.records.HashPlaceLemmas.{ArePlacesTo}
use Rattle.dnsv_proof_forms.proofs.records.hash_places.hash_places.Given as goal

abbrev pub invariant-loop-place : goal.invariant-loop-place
invariant-loop-place l = ArePlacesTo l.entries l.place l.places.items
