-- the records of the RRsets with the numbers so far
use Rattle.dnsv_denial.specs.gathering.Evidence.{IsNsecOf}
use Rattle.dnsv_proof_forms.specs.records.Record.{read_entry}
use Rattle.dnsv_denial.proofs.lemmas.gathering.Gathering.{AreListedBefore}
use Rattle.dnsv_denial.proofs.gathering.nsec.nsecs_of.Given as goal

abbrev pub invariant-loop-number : goal.invariant-loop-number
invariant-loop-number l = AreListedBefore (λ entry. entry.number) read_entry (IsNsecOf l.capture.rrsets) l.numbers l.number-index l.entries.items
