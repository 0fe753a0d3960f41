use Rattle.std.proofs.Common.{List}
use Rattle.dnsv_canonical.specs.Rrsets.{IsNumbered, ReceivedRrset}
use Rattle.dnsv_denial.proofs.lemmas.gathering.Gathering.{Grown, UpTo}
use Rattle.dnsv_gaps.specs.UnusableSearch.{IsUnusedAt}
use Rattle.dnsv_gaps.proofs.sources.unusable.push_unusable.Given as goal

-- those of the records so far are added
abbrev pub invariant-loop-place : goal.invariant-loop-place
invariant-loop-place l =
    (rrsets : List ReceivedRrset) → IsNumbered rrsets l.number l.rrset
    → Grown (λ each. each.number) (λ each. each.why) (IsUnusedAt rrsets l.fn.zone) (UpTo l.number l.place) l.fn.unusable.items l.unusable.items
