use Rattle.std.proofs.Common.{sym}
use Rattle.dnsv_lines.specs.Sentence.{said}
use Rattle.dnsv_line_laws.specs.Types.{IsOfItsType}
use Rattle.dnsv_line_laws.proofs.Types.{first_all, first_more}
use Rattle.dnsv_line_laws.proofs.laws.are_of_their_types.Goals as goal

pub loop-field-preserved : goal.loop-field-preserved
loop-field-preserved c =
    first_more (λ field. IsOfItsType (said field.value)) c.args.fields.now c.loop-field.field-index c.field-item.result
    c.loop-field-test.true (sym c.field-item.is) c.loop-field.invariant c.is_of_its_type.ensures

pub returns : goal.returns
returns c =
    first_all (λ field. IsOfItsType (said field.value)) c.args.fields.now c.loop-field.field-index c.loop-field-test.false
    c.loop-field.invariant
