use Rattle.std.proofs.Common.{◌+◌, List, [], drop, refl, sym, subst}
use Rattle.std.proofs.lemmas.List.{append-nil, drop_all, drop_more}
use Rattle.dnsv_gaps.specs.Asking.{asking}
use Rattle.dnsv_lines.specs.declared.line.Line.{Line}
use Rattle.dnsv_remedies.specs.declared.said.Said.{Said}
use Rattle.dnsv_reasons.specs.Lines.{AreSaidLines}
use Rattle.dnsv_reasons.proofs.LineLemmas.{added_next}
use Rattle.dnsv_reasons.proofs.lines.said_lines.Goals as goal

pub loop-said-preserved : goal.loop-said-preserved
loop-said-preserved c = λ rest later.
    let told = c.args.told.now in
    let i = c.loop-said.said-index in
    added_next (asking c.args.question.now) told (drop i told) (drop (i + 1) told) _ c.loop-said.lines.items c.add_line.new.lines.items
    (drop_more told i _ c.loop-said-test.true) c.in_ok-add_line.ensures c.loop-said.invariant rest later

pub returns : goal.returns
returns c =
    let told = c.args.told.now in
    let Said' : List Said → Type 0 = λ each. AreSaidLines (asking c.args.question.now) each [] in
    subst (λ (lines : List Line). AreSaidLines (asking c.args.question.now) told lines) (append-nil c.loop-said.lines.items)
    (c.loop-said.invariant [] (subst Said' (sym (drop_all c.loop-said.said-index told c.loop-said-test.false)) refl))
