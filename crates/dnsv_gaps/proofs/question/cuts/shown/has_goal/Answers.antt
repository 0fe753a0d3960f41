use Rattle.std.proofs.Common.{refl, sym, ◌∙◌}
use Rattle.std.proofs.lemmas.Bool.{false≢true}
use Rattle.dnsv_gaps.specs.Asking.{asking}
use Rattle.dnsv_gaps.proofs.QuestionLemmas.CutLemmas.{a_goal_of_cname, a_goal_of_type, one_goal}
use Rattle.dnsv_gaps.proofs.question.cuts.shown.has_goal.Goals as goal

pub returns-then-has_rrset : goal.returns-then-has_rrset
returns-then-has_rrset c = (λ yes. a_goal_of_type (asking c.args.question.now) (c.has_rrset.ensures.0 c.if-has_rrset.true), λ is. refl)

pub returns : goal.returns
returns c = (
  λ yes. a_goal_of_cname (asking c.args.question.now) (c.has_rrset-2.ensures.0 yes),
  λ is. c.has_rrset-2.ensures.1 (one_goal (asking c.args.question.now) is (λ has. false≢true (sym c.if-has_rrset.false ∙ c.has_rrset.ensures.1 has))),
)
