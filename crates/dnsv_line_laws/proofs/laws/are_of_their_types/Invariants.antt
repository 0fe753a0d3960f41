use Rattle.std.specs.Prelude.{take}
use Rattle.std.specs.List.{AllByRecursion}
use Rattle.dnsv_lines.specs.Sentence.{said}
use Rattle.dnsv_line_laws.specs.Types.{IsOfItsType}
use Rattle.dnsv_line_laws.proofs.laws.are_of_their_types.Given as goal

abbrev pub invariant-loop-field : goal.invariant-loop-field
invariant-loop-field l = AllByRecursion (λ field. IsOfItsType (said field.value)) (take l.field-index l.fields)
