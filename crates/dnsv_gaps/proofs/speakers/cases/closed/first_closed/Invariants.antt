use Rattle.dnsv_gaps.specs.SourceSearch.{said_in}
use Rattle.dnsv_gaps.proofs.CaseLemmas.{NoneTo}
use Rattle.dnsv_gaps.proofs.speakers.cases.closed.first_closed.Given as goal

-- no closed record is at a name with fewer labels, below the zone
abbrev pub invariant-loop-labels : goal.invariant-loop-labels
invariant-loop-labels l = NoneTo (said_in l.question l.source) l.question.name.now l.source.labels l.labels
