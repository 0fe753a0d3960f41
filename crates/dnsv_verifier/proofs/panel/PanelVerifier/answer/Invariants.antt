use Rattle.std.proofs.Common.{◌≡◌, drop, map}
use Rattle.dnsv_verifier.specs.Panel.{joined, joint_answer}
use Rattle.dnsv_verifier.proofs.panel.PanelVerifier.answer.Given as goal

abbrev pub invariant-loop-member : goal.invariant-loop-member
invariant-loop-member g l =
    joint_answer (map (λ member. (g.dyn-1.0.entry member.vtable).1.meaning member.value l.entry) l.member-items)
    ≡ joined l.joint (joint_answer (map (λ member. (g.dyn-1.0.entry member.vtable).1.meaning member.value l.entry) (drop l.member-index l.member-items)))
