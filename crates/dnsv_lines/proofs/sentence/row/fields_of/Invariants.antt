use Rattle.std.specs.Prelude.{◌≡◌, take}
use Rattle.arrayvec.specs.ArrayVec.{array_vec_len}
use Rattle.dnsv_lines.proofs.sentence.row.fields_of.Given as goal

abbrev pub invariant-loop-field : goal.invariant-loop-field
invariant-loop-field l = (array_vec_len l.row ≡ l.field-index) × (l.row.items ≡ take l.field-index l.fields)
