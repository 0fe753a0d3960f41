use Rattle.std.proofs.Common.{List, ◌≡◌, refl, subst, sym, ◌∙◌}
use Rattle.std.proofs.lemmas.Bool.{false≢true}
use Rattle.std.proofs.lemmas.Option.{MatchOption-at_some}
use Rattle.dnsv_remedies.specs.declared.facts.answer.GoalFacts.{GoalFacts}
use Rattle.dnsv_gaps.specs.Asking.{asking}
use Rattle.dnsv_gaps.specs.questions.Goals.{AreGoalFacts, IsGoalNumber}
use Rattle.dnsv_gaps.specs.questions.Listing.{AddsWhere}
use Rattle.dnsv_gaps.proofs.QuestionLemmas.GoalLemmas.{a_goal, is_number, no_goal, own_signatures}
use Rattle.dnsv_gaps.proofs.question.goals.add_goal.Goals as goal

pub answer_signatures-requires-clause-each : goal.answer_signatures-requires-clause-each
answer_signatures-requires-clause-each c =
    own_signatures (asking c.args.question.now) c.args.number c.args.rrset.now c.requires.numbered c.in-Some.known
    (MatchOption-at_some _ _ c.in-Some.known c.in-Some.is c.in_ok-known.ensures)

pub returns-then-not-is_goal : goal.returns-then-not-is_goal
returns-then-not-is_goal c =
    no_goal (asking c.args.question.now) c.args.number c.args.rrset.now c.requires.numbered c.args.goals.now.items
    (λ is. false≢true (sym c.if-not-is_goal.true ∙ c.is_goal.ensures.1 is))

pub returns : goal.returns
returns c =
    let a = asking c.args.question.now in
    let made : GoalFacts = record {
      number = c.args.number;
      is_cname = c.eq-is_cname.result;
      signatures = c.in_ok-signatures.signatures;
    } in
    subst (λ (new : List GoalFacts). AddsWhere (IsGoalNumber a c.args.number) (λ goal. AreGoalFacts a goal × (goal.number ≡ c.args.number)) c.args.goals.now.items new)
    (sym c.in_ok-push.ensures.items)
    (a_goal a c.args.number c.args.rrset.now c.requires.numbered c.args.goals.now.items made
    (c.is_goal.ensures.0 c.if-not-is_goal.false)
    (record {
      rrset = c.args.rrset.now;
      numbered = c.requires.numbered;
      is_cname = is_number c.eq-is_cname.result c.rtype.result.0 c.args.rrset.now.rtype 5 c.eq-is_cname.ensures c.rtype.ensures;
      known = c.in-Some.known;
      are_known = MatchOption-at_some _ _ c.in-Some.known c.in-Some.is c.in_ok-known.ensures;
      signatures = c.in_ok-signatures.ensures.signatures;
      closers = c.in_ok-signatures.ensures.closers;
    }) refl)
