-- the usable records so far are added
use Rattle.std.proofs.Common.{List}
use Rattle.dnsv_canonical.specs.Rrsets.{IsNumbered, ReceivedRrset}
use Rattle.dnsv_denial.specs.gathering.Evidence.{IsNsec3Of}
use Rattle.dnsv_proof_forms.specs.records.Record.{read_nsec3}
use Rattle.dnsv_denial.proofs.lemmas.gathering.Gathering.{Grown, UpTo}
use Rattle.dnsv_denial.proofs.gathering.nsec3.push_nsec3s.Given as goal

abbrev pub invariant-loop-place : goal.invariant-loop-place
invariant-loop-place l =
    (rrsets : List ReceivedRrset) → IsNumbered rrsets l.number l.rrset
    → Grown (λ entry. entry.number) read_nsec3 (IsNsec3Of rrsets l.fn.zone) (UpTo l.number l.place) l.fn.entries.items l.entries.items
