use Rattle.std.proofs.Common.{take}
use Rattle.std.specs.Fmt.{HasWritten, IsPlainFormatter}
use Rattle.std.specs.List.{flat_map}
use Rattle.dnsv_lines.specs.Sentence.{field_text, said_field}
use Rattle.dnsv_lines.proofs.sentence.row.RowDisplay.fmt.Given as goal

-- the fields so far
abbrev pub invariant-loop-field : goal.invariant-loop-field
invariant-loop-field g l =
    IsPlainFormatter l.initial.f
    → HasWritten g.W.Write.write_str_gives l.initial.f
    (flat_map (λ field. field_text (said_field field)) (take l.field-index l.field-items)) l.f
