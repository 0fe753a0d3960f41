-- all of the records so far that say the word
use Rattle.dnsv_proof_forms.proofs.lemmas.words.AllPlacesLemmas.{AreAllTo}
use Rattle.dnsv_proof_forms.proofs.words.search.all_to_say.Given as goal

abbrev pub invariant-loop-place : goal.invariant-loop-place
invariant-loop-place g l = AreAllTo (g.W.Word.says l.word) l.entries l.place l.places.items
