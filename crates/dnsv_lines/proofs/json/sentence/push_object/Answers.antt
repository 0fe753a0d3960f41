use Rattle.std.proofs.Common.{◌++◌, codes, map, string_bytes, subst}
use Rattle.std.specs.List.{flat_map}
use Rattle.dnsv_lines.specs.Json.{AddsMembers}
use Rattle.dnsv_lines.specs.Sentence.{SaidField, field_members, plain, said, said_field}
use Rattle.dnsv_lines.proofs.MemberLemmas.{line_written, more_members}
use Rattle.dnsv_lines.proofs.json.sentence.push_object.Goals as goal

pub returns : goal.returns
returns c =
    let sentence = c.args.sentence.now in
    let before = string_bytes c.write.new.self in
    let word : AddsMembers (field_members (plain (codes "word") (said sentence.word))) before (string_bytes c.push_field.new.text) =
    subst (λ (field : SaidField). AddsMembers (field_members field) before (string_bytes c.push_field.new.text)) c.plain.ensures c.in_ok-push_field.ensures in
    let error : AddsMembers (field_members (plain (codes "ede") (said sentence.error))) (string_bytes c.push_field.new.text) (string_bytes c.push_field-2.new.text) =
    subst (λ (field : SaidField). AddsMembers (field_members field) (string_bytes c.push_field.new.text) (string_bytes c.push_field-2.new.text)) c.plain-2.ensures
    c.in_ok-push_field-2.ensures in
    let rest : AddsMembers (flat_map field_members (map said_field sentence.fields.items)) (string_bytes c.push_field-2.new.text) (string_bytes c.push_fields.new.text) =
    subst (λ fields. AddsMembers (flat_map field_members (map said_field fields)) (string_bytes c.push_field-2.new.text) (string_bytes c.push_fields.new.text))
    c.deref.ensures.0 c.in_ok-push_fields.ensures in
    line_written (string_bytes c.args.text.now) before (string_bytes c.push_fields.new.text) (string_bytes c.push_str.new.self) c.args.key.now sentence.line.now
    (field_members (plain (codes "word") (said sentence.word)) ++ (field_members (plain (codes "ede") (said sentence.error))
    ++ flat_map field_members (map said_field sentence.fields.items)))
    c.in_ok-write.ensures.bytes (more_members word (more_members error rest)) c.in_ok-push_str.ensures.bytes
