use Rattle.std.specs.Prelude.{string_bytes}
use Rattle.dnsv_evidence_texts.specs.Todo.{todo_line}
use Rattle.dnsv_lines.proofs.JsonLemmas.{Joined}
use Rattle.dnsv_evidence_texts.proofs.todo.push_entries.Given as goal

abbrev pub invariant-loop-place : goal.invariant-loop-place
invariant-loop-place l = Joined todo_line l.entries l.place (string_bytes l.fn.text) (string_bytes l.text)
