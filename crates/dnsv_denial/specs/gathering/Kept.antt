-- How a view keeps the records of zones, and what is found among them. No public clause cites this module.
use Rattle.std.specs.Prelude.{◌≡◌, ◌+◌, ◌<◌, ℕ, List, Some, length, slice_get}
use Rattle.std.specs.List.{AllByRecursion}
use Rattle.std.specs.declared.cmp.Ordering.TheVariants.{Less}
use Rattle.dnsv_names.specs.Name.{Labels, rightmost}
use Rattle.dnsv_zones.specs.Any.{Any}
use Rattle.dnsv_zones.specs.chains.Nsec3Chain.{Nsec3Record}
use Rattle.dnsv_zones.specs.chains.Rdata.{parameters_of}
use Rattle.dnsv_canonical.specs.Rrsets.{ReceivedRrset}
use Rattle.dnsv_chain.specs.Trust.{KeptTrust, SecuredIn}
use Rattle.dnsv_proof_forms.specs.KeptHashes.{IsSetOf}
use Rattle.dnsv_denial.specs.gathering.Evidence.{IsNsec3At}
use Rattle.dnsv_denial.specs.gathering.ByZone.{AreSecuredRecords}
use Rattle.dnsv_denial.specs.proving.ChainOf.{IsShownBy, StandsAs}
use Rattle.dnsv_denial.specs.gathering.EvidenceWords.{Chain, GoesBefore}
use Rattle.dnsv_proof_forms.specs.records.ParametersOrder.{parameters_cmp}
use Rattle.dnsv_proof_forms.specs.declared.forms.denial.Denial.{Denial}
use Rattle.dnsv_denial.specs.declared.proving.shown_denial.ShownDenial.{ShownDenial}
use Rattle.dnsv_canonical.specs.declared.number.RecordNumber.{RecordNumber}
use Rattle.dnsv_denial.specs.declared.gathering.zone_records.HeldRecords.{HeldRecords}
use Rattle.dnsv_denial.specs.declared.gathering.zone_records.HeldRecords.TheVariants.{Own, Lent}
use Rattle.dnsv_proof_forms.specs.declared.records.name_hashes.NameHashes.{NameHashes}
use Rattle.dnsv_denial.specs.declared.gathering.zone_records.GatheredRecords.{GatheredRecords}
use Rattle.dnsv_denial.specs.declared.gathering.zone_records.ZoneRecords.{ZoneRecords}

-- ---- what is kept

-- the records, own or lent
abbrev pub records_of : HeldRecords → GatheredRecords
records_of (Own records) = records
records_of (Lent records) = records.now

-- the records are those of the zone among the evidence
abbrev pub IsZoneOf : (ℕ → ℕ → Type 0) → List ReceivedRrset → ZoneRecords → Type 0
IsZoneOf Secured rrsets kept = AreSecuredRecords Secured rrsets kept.zone (records_of kept.records)

-- the sets are in the order of their parameters, and every NSEC3 record of a zone has those of one
pub record AreSets (Secured : ℕ → ℕ → Type 0) (rrsets : List ReceivedRrset) (sets : List NameHashes) : Type 0 where
  pub order : (i j : ℕ) (a b : NameHashes) → slice_get sets i ≡ Some a → slice_get sets j ≡ Some b → i < j
      → parameters_cmp (parameters_of a.parameters.now) (parameters_of b.parameters.now) ≡ Less
  pub all : (zone : Labels) (n : RecordNumber) (nsec3 : Nsec3Record) → IsNsec3At Secured rrsets zone n nsec3
      → Any (λ set. parameters_of set.parameters.now ≡ nsec3.parameters) sets

-- zone n is that of the name's n rightmost labels, from the root to the whole name
pub record AreZones (Secured : ℕ → ℕ → Type 0) (rrsets : List ReceivedRrset) (name : Labels) (zones : List ZoneRecords)
    : Type 0 where
  pub count : length zones ≡ length name + 1
  pub each : (n : ℕ) (kept : ZoneRecords) → slice_get zones n ≡ Some kept
      → (kept.zone ≡ rightmost name n) × IsZoneOf Secured rrsets kept

-- what a view keeps for the name
pub record IsViewOf
    (Secured : ℕ → ℕ → Type 0) (rrsets : List ReceivedRrset) (name : Labels) (sets : List NameHashes)
    (zones : List ZoneRecords) : Type 0 where
  pub hashed : AllByRecursion (IsSetOf name) sets
  -- whatever is secured
  pub are_sets : (trust : KeptTrust) → AreSets (SecuredIn trust) rrsets sets
  pub are_zones : AreZones Secured rrsets name zones

-- ---- what is found

-- it is the first of the zone's
pub record IsZoneProof
    (Secured : ℕ → ℕ → Type 0) (rrsets : List ReceivedRrset) (denial : Denial) (name zone : Labels)
    (shown : ShownDenial) : Type 0 where
  pub chain : Chain
  pub by_chain : IsShownBy Secured rrsets denial name zone chain shown
  pub first : (other : Chain) → GoesBefore other chain → ¬ StandsAs Secured rrsets denial name zone other
