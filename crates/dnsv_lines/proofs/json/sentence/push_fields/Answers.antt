use Rattle.std.proofs.Common.{List, ℕ, string_bytes, subst, sym}
use Rattle.std.proofs.lemmas.List.{get_or_read}
use Rattle.std.proofs.lemmas.List.Folds.{flat_map-map}
use Rattle.dnsv_lines.specs.Json.{AddsMembers}
use Rattle.dnsv_lines.specs.Sentence.{field_members, said_field}
use Rattle.dnsv_lines.proofs.MemberLemmas.{Members-all, Members-next}
use Rattle.dnsv_lines.proofs.json.sentence.push_fields.Goals as goal

pub loop-field-preserved : goal.loop-field-preserved
loop-field-preserved c =
    Members-next c.loop-field.invariant c.field-item.result (string_bytes c.push_field.new.text) c.loop-field-test.true
    (λ d. sym (get_or_read c.args.fields.now c.loop-field.field-index c.field-item.result c.loop-field-test.true c.field-item.is d))
    c.in_ok-push_field.ensures

pub returns : goal.returns
returns c =
    let Adds : List (List ℕ) → Type 0 = λ members. AddsMembers members (string_bytes c.args.text.now) (string_bytes c.loop-field.text) in
    subst Adds (sym (flat_map-map field_members said_field c.args.fields.now)) (Members-all c.loop-field.invariant c.loop-field-test.false)
