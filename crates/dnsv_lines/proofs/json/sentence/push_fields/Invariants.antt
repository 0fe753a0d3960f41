use Rattle.std.specs.Prelude.{string_bytes}
use Rattle.dnsv_lines.specs.Sentence.{field_members, said_field}
use Rattle.dnsv_lines.proofs.MemberLemmas.{Members}
use Rattle.dnsv_lines.proofs.json.sentence.push_fields.Given as goal

abbrev pub invariant-loop-field : goal.invariant-loop-field
invariant-loop-field l = Members (λ field. field_members (said_field field)) l.fields l.field-index (string_bytes l.fn.text) (string_bytes l.text)
