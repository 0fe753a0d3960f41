-- those who made the signatures so far have the RRset's number
use Rattle.dnsv_anchors.specs.ByOwner.{values_at}
use Rattle.dnsv_denial.proofs.lemmas.gathering.SignerLemmas.{HasSignersTo}
use Rattle.dnsv_denial.proofs.gathering.signers.add_signers.Given as goal

abbrev pub invariant-loop-signature : goal.invariant-loop-signature
invariant-loop-signature l =
    HasSignersTo l.rrset l.secured l.number (values_at l.fn.numbers) l.signature-index (values_at l.numbers)
