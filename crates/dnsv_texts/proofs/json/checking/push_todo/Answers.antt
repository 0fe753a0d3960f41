use Rattle.std.proofs.Common.{codes, map, string_bytes}
use Rattle.dnsv_lines.specs.Json.{array}
use Rattle.dnsv_evidence_texts.specs.Todo.{todo_json}
use Rattle.dnsv_evidence_texts.proofs.ObjectLemmas.{member_written}
use Rattle.dnsv_texts.proofs.json.checking.push_todo.Goals as goal

pub returns : goal.returns
returns c =
    member_written (string_bytes c.args.text.now) (string_bytes c.push_str.new.self) (string_bytes c.push_entry_array.new.text) (codes ",\"todo\":")
    (array (map todo_json c.args.entries.now)) c.in_ok-push_str.ensures.bytes c.in_ok-push_entry_array.ensures
