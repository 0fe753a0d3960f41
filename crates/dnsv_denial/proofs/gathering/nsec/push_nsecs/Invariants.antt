-- the records so far are added
use Rattle.std.proofs.Common.{◌≡◌, ◌≤◌, List}
use Rattle.dnsv_canonical.specs.Rrsets.{IsNumbered, ReceivedRrset}
use Rattle.dnsv_denial.proofs.lemmas.gathering.NsecGather.{GrownBy}
use Rattle.dnsv_denial.proofs.gathering.nsec.push_nsecs.Given as goal

abbrev pub invariant-loop-place : goal.invariant-loop-place
invariant-loop-place l =
    (rrsets : List ReceivedRrset) → IsNumbered rrsets l.number l.rrset
    → GrownBy rrsets (λ n. (n.rrset ≡ l.number) × (n.place ≤ l.place)) l.fn.entries.items l.entries.items
