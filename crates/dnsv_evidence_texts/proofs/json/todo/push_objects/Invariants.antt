use Rattle.std.specs.Prelude.{[], ◌∷◌, string_bytes, true}
use Rattle.dnsv_evidence_texts.specs.Todo.{todo_json}
use Rattle.dnsv_lines.proofs.JsonLemmas.{Parted}
use Rattle.dnsv_evidence_texts.proofs.json.todo.push_objects.Given as goal

abbrev pub invariant-loop-place : goal.invariant-loop-place
invariant-loop-place l = Parted (λ entry. todo_json entry ∷ []) l.entries l.place true (string_bytes l.fn.text) l.first (string_bytes l.text)
