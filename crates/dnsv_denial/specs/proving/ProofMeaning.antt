-- Zones that have the records of a proof.
use Rattle.std.specs.Prelude.{⊤, List}
use Rattle.std.specs.List.{AllZip}
use Rattle.dnsv_names.specs.Name.{Labels}
use Rattle.dnsv_zones.specs.chains.HashedNames.{sha1_hash}
use Rattle.dnsv_zones.specs.chains.Nsec3Chain.{Nsec3Record, Parameters, HasNsec3Records, HasNoCollision}
use Rattle.dnsv_zones.specs.chains.NsecChain.{NsecRecord, HasNsecRecords}
use Rattle.dnsv_zones.specs.zones.Zone.{Zone}
use Rattle.dnsv_canonical.specs.Rrsets.{ReceivedRrset}
use Rattle.dnsv_denial.specs.gathering.Evidence.{IsNsecOf, IsNsec3Of}
use Rattle.dnsv_denial.specs.proving.FirstProof.{ProofRecords}

-- The zone has the records of the proof in its chain of NSEC records, or in one of its chains of NSEC3 records.
pub data HasProofRecords (rrsets : List ReceivedRrset) (proof : ProofRecords) (zone : Zone) : Type 0 where
  by_nsec : (records : List NsecRecord) → AllZip (IsNsecOf rrsets) proof.records records
      → HasNsecRecords zone proof.zone records → HasProofRecords rrsets proof zone
  by_nsec3 : (parameters : Parameters) (records : List Nsec3Record)
      → AllZip (IsNsec3Of rrsets proof.zone) proof.records records
      → HasNsec3Records zone proof.zone (sha1_hash parameters) records → HasProofRecords rrsets proof zone

-- If they are NSEC3 records, no node of the zone has the hash of another name that a question of the name asks for.
abbrev pub IsWithoutCollision
    : {rrsets : List ReceivedRrset} {proof : ProofRecords} {zone : Zone} → Labels → HasProofRecords rrsets proof zone
    → Type 0
IsWithoutCollision {rrsets} {proof} {zone} name (by_nsec records all has) = ⊤
IsWithoutCollision {rrsets} {proof} {zone} name (by_nsec3 parameters records all has) =
    HasNoCollision zone (sha1_hash parameters) name

-- The zone has the records of the proof, and no other node has a hash that the question asks for. What rests on a record
-- that matches a name needs both; what rests on covers alone needs the first.
pub record HasProofWithoutCollision
    (rrsets : List ReceivedRrset) (name : Labels) (proof : ProofRecords) (zone : Zone) : Type 0 where
  pub has : HasProofRecords rrsets proof zone
  pub apart : IsWithoutCollision name has
