use Rattle.std.proofs.Common.{◌≡◌, ◌++◌, ◌∙◌, List, ℕ, ap, subst, sym}
use Rattle.std.proofs.lemmas.List.Folds.{flat_map-map}
use Rattle.std.specs.List.{flat_map}
use Rattle.std.specs.Prelude.{OnOk}
use Rattle.dnsv_lines.specs.Rows.{named_rrsets}
use Rattle.dnsv_lines.specs.Sentence.{SaidField, SaidSentence, rrset_said, rrsets_of_sentence, said, said_field}
use Rattle.dnsv_lines.specs.declared.sentence.field.Field.{Field}
use Rattle.dnsv_lines.proofs.rrsets.push_rrsets.Goals as goal

pub returns : goal.returns
returns c =
    let old = c.args.numbers.now.items in
    let new = c.push_named.new.numbers.items in
    let kept : Field → List ℕ = λ field. rrset_said (said field.value) in
    let named : SaidField → List ℕ = λ field. rrset_said field.said in
    let are : flat_map kept c.deref.result.now ≡ named_rrsets c.args.line.now =
    ap (λ fields. flat_map kept fields) c.deref.ensures.0 ∙ sym (flat_map-map named said_field c.sentence.result.fields.items)
    ∙ ap (λ (each : SaidSentence). rrsets_of_sentence each) c.sentence.ensures in
    subst (λ numbers. OnOk c.push_named.result (new ≡ old ++ numbers)) are c.push_named.ensures
