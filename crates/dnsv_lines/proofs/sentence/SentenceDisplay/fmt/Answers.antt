use Rattle.std.proofs.Common.{◌++◌, ◌∙◌, List, ℕ, ap, codes, sym}
use Rattle.std.proofs.Output.{has_written_of_eq}
use Rattle.std.proofs.lemmas.List.Folds.{flat_map-map}
use Rattle.std.specs.List.{flat_map}
use Rattle.dnsv_lines.specs.Sentence.{field_text, plain, said, said_field}
use Rattle.dnsv_lines.specs.declared.sentence.field.Field.{Field}
use Rattle.dnsv_lines.proofs.sentence.SentenceDisplay.fmt.Goals as goal

pub returns-clause-writes : goal.returns-clause-writes
returns-clause-writes g c = λ plainly ok.
    let sentence = c.args.self.now in
    let text : Field → List ℕ = λ each. field_text (said_field each) in
    has_written_of_eq _ _ _ _ _
    ((λ i. sentence.line.now ++ (field_text (c.plain-error.ensures i) ++ (field_text (c.plain-word.ensures i)
    ++ flat_map text (c.deref.ensures.0 i))))
    ∙ ap (λ rest. sentence.line.now ++ (field_text (plain (codes "ede") (said sentence.error)) ++ (field_text (plain (codes "word") (said sentence.word)) ++ rest)))
    (sym (flat_map-map field_text said_field sentence.fields.items)))
    (c.write.ensures.writes plainly ok)
