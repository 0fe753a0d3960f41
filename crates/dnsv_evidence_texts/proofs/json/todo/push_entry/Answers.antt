use Rattle.std.proofs.Common.{string_bytes}
use Rattle.dnsv_evidence_texts.specs.Todo.{todo_json}
use Rattle.dnsv_lines.proofs.JsonLemmas.{one_written}
use Rattle.dnsv_evidence_texts.proofs.json.todo.push_entry.Goals as goal

pub returns-clause-text : goal.returns-clause-text
returns-clause-text c =
    one_written c.args.first.now (string_bytes c.args.text.now) (string_bytes c.push_comma.new.text) (string_bytes c.push_members.new.text)
    (todo_json c.args.entry.now) c.in_ok-push_comma.ensures.text c.in_ok-push_members.ensures
