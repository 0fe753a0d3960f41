use Rattle.std.proofs.Common.{rules, ◌≡◌, ◌++◌, ◌∷◌, codes, map, string_bytes, true}
use Rattle.dnsv_lines.specs.Json.{parted}
use Rattle.dnsv_evidence_texts.specs.Moments.{moments_members}
use Rattle.dnsv_evidence_texts.specs.Todo.{todo_json}
use Rattle.dnsv_evidence_texts.proofs.MomentsLemmas.{of_list, todo_written}
use Rattle.dnsv_evidence_texts.proofs.json.todo.todo_json.Goals as goal

pub returns : goal.returns
returns c =
    let entries = map todo_json c.args.entries.now in
    let s0 : string_bytes c.push_list_of.new.text ≡ codes "{" ++ parted true (of_list ∷ moments_members c.args.moments) = search rules in
    let s1 : string_bytes c.push_str.new.self ≡ string_bytes c.push_list_of.new.text ++ codes ",\"todo\":[" = c.in_ok-push_str.ensures.bytes in
    let s2 : string_bytes c.push_objects.new.text ≡ string_bytes c.push_str.new.self ++ parted true entries = search rules in
    let s3 : string_bytes c.push_str-2.new.self ≡ string_bytes c.push_objects.new.text ++ codes "]}\n" = c.in_ok-push_str-2.ensures.bytes in
    todo_written (string_bytes c.push_list_of.new.text) (string_bytes c.push_str.new.self) (string_bytes c.push_objects.new.text) (string_bytes c.push_str-2.new.self)
    (moments_members c.args.moments) entries s0 s1 s2 s3
