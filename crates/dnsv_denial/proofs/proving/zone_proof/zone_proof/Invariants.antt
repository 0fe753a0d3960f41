-- none of the chains so far has a proof
use Rattle.std.proofs.Common.{◌≡◌, ℕ, ◌<◌, List}
use Rattle.std.specs.Prelude.{Some, slice_get}
use Rattle.dnsv_canonical.specs.Rrsets.{ReceivedRrset}
use Rattle.dnsv_chain.specs.Trust.{KeptTrust, SecuredIn}
use Rattle.dnsv_denial.specs.gathering.Kept.{IsZoneOf}
use Rattle.dnsv_denial.specs.proving.ChainOf.{StandsAs}
use Rattle.dnsv_denial.specs.proving.ZoneChains.{chains_of}
use Rattle.dnsv_denial.specs.gathering.EvidenceWords.{Chain}
use Rattle.dnsv_denial.proofs.proving.zone_proof.zone_proof.Given as goal

abbrev pub invariant-loop-number : goal.invariant-loop-number
invariant-loop-number l =
    (trust : KeptTrust) (rrsets : List ReceivedRrset) → IsZoneOf (SecuredIn trust) rrsets l.zone
    → (k : ℕ) (chain : Chain) → k < l.number → slice_get (chains_of l.sets) k ≡ Some chain
    → ¬ StandsAs (SecuredIn trust) rrsets l.denial l.name l.zone.zone chain
