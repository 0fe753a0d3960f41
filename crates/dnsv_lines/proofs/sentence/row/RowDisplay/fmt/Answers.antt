use Rattle.std.proofs.Common.{rules, [], ◌++◌, ◌∷◌, ◌∙◌, List, ℕ, ap, sym, take}
use Rattle.std.proofs.Output.{has_written_append, has_written_of_eq}
use Rattle.std.proofs.lemmas.List.{flat_map_more, take_all, take_more}
use Rattle.std.specs.List.{flat_map}
use Rattle.dnsv_lines.specs.Sentence.{field_text, said_field}
use Rattle.dnsv_lines.specs.declared.sentence.field.Field.{Field}
use Rattle.dnsv_lines.proofs.sentence.row.RowDisplay.fmt.Goals as goal

pub loop-field-preserved : goal.loop-field-preserved
loop-field-preserved g c = λ plain.
    let fields = c.args.self.now.fields.now in
    let i = c.loop-field.field-index in
    let field = c.field-item.result in
    let text : Field → List ℕ = λ each. field_text (said_field each) in
    has_written_of_eq _ _ _ _ _
    (flat_map_more text [] (take i fields) field
    ∙ ap (λ all. flat_map text all) (ap (λ last. take i fields ++ last ∷ []) c.field-item.is ∙ sym (take_more fields i field c.loop-field-test.true)))
    (has_written_append _ _ _ _ _ _ (c.loop-field.invariant plain) (search rules))

pub returns-clause-writes : goal.returns-clause-writes
returns-clause-writes g c = λ plain ok.
    let text : Field → List ℕ = λ each. field_text (said_field each) in
    has_written_of_eq _ _ _ _ _
    (ap (λ all. flat_map text all) (take_all c.loop-field.field-index c.args.self.now.fields.now c.loop-field-test.false))
    (c.loop-field.invariant plain)
