use Rattle.std.proofs.Common.{◌++◌, ◌+◌, ◌∷◌, ◌∙◌, [], ap, sym, take}
use Rattle.std.proofs.lemmas.List.{take_all, take_more}
use Rattle.dnsv_lines.proofs.sentence.row.fields_of.Goals as goal

pub loop-field-preserved : goal.loop-field-preserved
loop-field-preserved c =
    let fields = c.args.fields.now in
    let i = c.loop-field.field-index in
    let field = c.field-item.result in (
      c.push.ensures.len ∙ ap (λ n. n + 1) c.loop-field.invariant.0,
      c.push.ensures.items ∙ ap (λ row. row ++ field ∷ []) c.loop-field.invariant.1 ∙ ap (λ last. take i fields ++ last ∷ []) c.field-item.is
          ∙ sym (take_more fields i field c.loop-field-test.true),
    )

pub returns : goal.returns
returns c = c.loop-field.invariant.1 ∙ take_all c.loop-field.field-index c.args.fields.now c.loop-field-test.false
