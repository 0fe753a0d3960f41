use Rattle.dnsv_tsig.proofs.KeyLaws.{IsKeyFault-only, IsRingOf-no_fault, IsRingOf-only}
use Rattle.dnsv_tsig.proofs.KeyLemmas.{ring_or_fault}
use Rattle.dnsv_tsig.proofs.laws.one_ring_or_fault.Goals as goal

pub returns-clause-ring : goal.returns-clause-ring
returns-clause-ring c = IsRingOf-only

pub returns-clause-fault : goal.returns-clause-fault
returns-clause-fault c = IsKeyFault-only

pub returns-clause-apart : goal.returns-clause-apart
returns-clause-apart c = IsRingOf-no_fault

pub returns-clause-either : goal.returns-clause-either
returns-clause-either c = ring_or_fault
