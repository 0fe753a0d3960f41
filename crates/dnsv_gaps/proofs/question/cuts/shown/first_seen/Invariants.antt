use Rattle.dnsv_gaps.specs.Asking.{asking}
use Rattle.dnsv_gaps.proofs.QuestionLemmas.CutLemmas.{NoneSeen}
use Rattle.dnsv_gaps.proofs.question.cuts.shown.first_seen.Given as goal

-- none so far is seen
abbrev pub invariant-loop-name : goal.invariant-loop-name
invariant-loop-name l = NoneSeen (asking l.parent.question.now) l.parent.labels l.parent.next l.name
