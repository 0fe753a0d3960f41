-- no zone with so many labels or more has a proof
use Rattle.std.proofs.Common.{List, ◌≤◌, length}
use Rattle.dnsv_canonical.specs.Rrsets.{ReceivedRrset}
use Rattle.dnsv_chain.specs.Trust.{KeptTrust, SecuredIn}
use Rattle.dnsv_denial.specs.gathering.Kept.{AreSets, AreZones}
use Rattle.dnsv_denial.proofs.lemmas.proving.FirstProofLemmas.{NoneFrom}
use Rattle.dnsv_denial.proofs.proving.first_proof.first_proof.Given as goal

abbrev pub invariant-loop-labels : goal.invariant-loop-labels
invariant-loop-labels l =
    (l.labels ≤ length l.zones)
    × ((trust : KeptTrust) (rrsets : List ReceivedRrset) → AreSets (SecuredIn trust) rrsets l.sets
    → AreZones (SecuredIn trust) rrsets l.name l.zones → NoneFrom (SecuredIn trust) rrsets l.denial l.name l.labels)

-- proposed from the loop's first test
abbrev pub decreases-loop-labels : goal.decreases-loop-labels
decreases-loop-labels l = l.labels
