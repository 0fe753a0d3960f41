use Rattle.std.proofs.Common.{◌≤◌, length}
use Rattle.dnsv_gaps.specs.SourceSearch.{said_in}
use Rattle.dnsv_gaps.proofs.CaseLemmas.{NoneFrom}
use Rattle.dnsv_gaps.proofs.speakers.cases.encloser.longest_shown.Given as goal

-- no name with so many labels or more is shown to be there
abbrev pub invariant-loop-labels : goal.invariant-loop-labels
invariant-loop-labels l =
    (l.labels ≤ length l.question.name.now) × NoneFrom (said_in l.question l.source) l.question.name.now l.labels

abbrev pub decreases-loop-labels : goal.decreases-loop-labels
decreases-loop-labels l = l.labels
