use Rattle.std.proofs.Common.{arith}
use Rattle.dnsv_remedies.specs.declared.facts.cut.ParentFacts.{ParentFacts}
use Rattle.dnsv_gaps.specs.Asking.{asking}
use Rattle.dnsv_gaps.specs.questions.Cuts.{AreParentFacts, IsParent}
use Rattle.dnsv_gaps.proofs.QuestionLemmas.CutLemmas.{all_parents, no_parent_yet}
use Rattle.dnsv_gaps.proofs.QuestionLemmas.ListingLemmas.{one_more}
use Rattle.dnsv_gaps.proofs.question.cuts.parents.Goals as goal

pub loop-labels-init : goal.loop-labels-init
loop-labels-init c = no_parent_yet (asking c.args.question.now) c.new-parents.result.items c.new-parents.ensures.items

pub loop-labels-preserved : goal.loop-labels-preserved
loop-labels-preserved c =
    let a = asking c.args.question.now in
    one_more (λ (parent : ParentFacts). parent.labels) (IsParent a) (AreParentFacts a) c.loop-labels.labels c.loop-labels.parents.items _
    c.loop-labels.invariant c.in_ok-add_parent.ensures

pub returns : goal.returns
returns c =
    all_parents (asking c.args.question.now) c.loop-labels.labels c.loop-labels.parents.items
    (let past = c.loop-labels-test.false in let count = c.labels-labels-end.ensures.count in omega (arith, past, count)) c.loop-labels.invariant
