use Rattle.std.proofs.Common.{sym, ◌∙◌}
use Rattle.dnsv_verifier.proofs.PanelLemmas.{asked_more, asked_all, joined-Unknown}
use Rattle.dnsv_verifier.proofs.panel.PanelVerifier.answer.Goals as goal

pub loop-member-preserved : goal.loop-member-preserved
loop-member-preserved g c =
    asked_more _ _ c.loop-member.member-index c.loop-member.joint c.joined-joint.result c.answer_of.result _ c.loop-member-test.true c.member-item.is c.answer_of.ensures c.joined-joint.ensures c.loop-member.invariant

pub returns : goal.returns
returns g c =
    rw (← c.deref-member-items.ensures.value)
    (sym (asked_all _ _ c.loop-member.member-index c.loop-member.joint c.loop-member-test.false c.loop-member.invariant ∙ joined-Unknown c.loop-member.joint))
