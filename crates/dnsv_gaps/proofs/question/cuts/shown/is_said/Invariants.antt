use Rattle.std.proofs.Common.{take}
use Rattle.dnsv_gaps.proofs.QuestionLemmas.SayingLemmas.{NoneSays}
use Rattle.dnsv_gaps.proofs.question.cuts.shown.is_said.Given as goal

-- none so far says so
abbrev pub invariant-loop-held : goal.invariant-loop-held
invariant-loop-held l =
    NoneSays l.parent.question.now l.parent.labels l.asked l.word (take l.held-index l.parent.sources.now)
