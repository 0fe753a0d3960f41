use Rattle.dnsv_gaps.specs.Asking.{asking}
use Rattle.dnsv_gaps.proofs.QuestionLemmas.CutLemmas.{NoneKnown}
use Rattle.dnsv_gaps.proofs.question.cuts.next_zone.Given as goal

-- none so far is known
abbrev pub invariant-loop-count : goal.invariant-loop-count
invariant-loop-count l = NoneKnown (asking l.question) l.labels l.count
