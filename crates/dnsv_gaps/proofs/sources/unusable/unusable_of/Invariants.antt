use Rattle.dnsv_denial.proofs.lemmas.gathering.Gathering.{AreListedBefore}
use Rattle.dnsv_gaps.specs.UnusableSearch.{IsUnusedAt}
use Rattle.dnsv_gaps.proofs.sources.unusable.unusable_of.Given as goal

-- those of the RRsets with the numbers so far
abbrev pub invariant-loop-number : goal.invariant-loop-number
invariant-loop-number l =
    AreListedBefore (λ each. each.number) (λ each. each.why) (IsUnusedAt l.capture.rrsets l.zone) l.numbers l.number-index l.unusable.items
