-- those of the places so far are added
use Rattle.dnsv_proof_forms.proofs.lemmas.words.AllPlacesLemmas.{AddsTo}
use Rattle.dnsv_proof_forms.proofs.words.all_among.add_among.Given as goal

abbrev pub invariant-loop-each : goal.invariant-loop-each
invariant-loop-each g l = AddsTo (g.W.Word.says l.word) l.entries l.places l.fn.said.items l.each-index l.said.items
