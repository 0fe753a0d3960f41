-- the records of the RRsets with the numbers so far
use Rattle.dnsv_denial.specs.gathering.Evidence.{IsNsec3Of}
use Rattle.dnsv_proof_forms.specs.records.Record.{read_nsec3}
use Rattle.dnsv_denial.proofs.lemmas.gathering.Gathering.{AreListedBefore}
use Rattle.dnsv_denial.proofs.gathering.nsec3.nsec3s_of.Given as goal

abbrev pub invariant-loop-number : goal.invariant-loop-number
invariant-loop-number l = AreListedBefore (λ entry. entry.number) read_nsec3 (IsNsec3Of l.capture.rrsets l.zone) l.numbers l.number-index l.entries.items
