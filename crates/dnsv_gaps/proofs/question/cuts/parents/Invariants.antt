use Rattle.dnsv_gaps.specs.Asking.{asking}
use Rattle.dnsv_gaps.proofs.QuestionLemmas.CutLemmas.{AreParentsTo}
use Rattle.dnsv_gaps.proofs.question.cuts.parents.Given as goal

-- those so far
abbrev pub invariant-loop-labels : goal.invariant-loop-labels
invariant-loop-labels l = AreParentsTo (asking l.question) l.labels l.parents.items
