-- none of the records so far says the word
use Rattle.std.proofs.Common.{◌≡◌, ℕ, ◌<◌}
use Rattle.std.specs.Prelude.{Some, slice_get}
use Rattle.dnsv_proof_forms.proofs.words.search.first_to_say.Given as goal

abbrev pub invariant-loop-place : goal.invariant-loop-place
invariant-loop-place g l =
    (k : ℕ) (entry : _) → k < l.place → slice_get l.entries k ≡ Some entry → ¬ g.W.Word.says l.word entry
