use Rattle.dnsv_derivations.proofs.lemmas.TodoLemmas.{NoneYet}
use Rattle.dnsv_verifier.specs.Admissible.{entry_over}
use Rattle.dnsv_derivations.proofs.todo.number_of.Given as goal

-- none so far is the entry
abbrev pub invariant-loop-place : goal.invariant-loop-place
invariant-loop-place l = NoneYet l.entries (entry_over l.rrsig l.octets l.key) l.place
