-- the first among the places so far
use Rattle.dnsv_proof_forms.proofs.lemmas.words.FirstAmongLemmas.{FirstTo}
use Rattle.dnsv_proof_forms.proofs.words.first_among.first_among.Given as goal

abbrev pub invariant-loop-each : goal.invariant-loop-each
invariant-loop-each g l = FirstTo (g.W.Word.says l.word) l.entries l.places l.each-index l.found
