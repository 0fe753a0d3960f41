-- The records of denials by the zones that secured them.
use Rattle.std.specs.Prelude.{◌≡◌, ℕ, Contains, List, []}
use Rattle.std.specs.List.Sorted.{IsSortedByKey}
use Rattle.dnsv_names.specs.Name.{Labels, SameName}
use Rattle.dnsv_names.specs.Order.ByWire.{search_cmp}
use Rattle.dnsv_canonical.specs.Rrsets.{ReceivedRrset}
use Rattle.dnsv_denial.specs.gathering.Evidence.{IsSecuredBy}
use Rattle.dnsv_denial.specs.gathering.Gathered.{AreNsecs, AreNsecsOf, AreNsec3s, AreNsec3sOf, IsDenialType}
use Rattle.dnsv_denial.specs.declared.gathering.denial_records.DenialRecords.{DenialRecords}
use Rattle.dnsv_denial.specs.declared.gathering.denial_records.SecuredZone.{SecuredZone}
use Rattle.dnsv_denial.specs.declared.gathering.zone_records.GatheredRecords.{GatheredRecords}

-- The records are all NSEC records of the RRsets with such numbers, and those of their NSEC3 records that are the zone's,
-- by their owner, and can be used.
pub record AreGatheredRecords (Among : ℕ → Type 0) (rrsets : List ReceivedRrset) (zone : Labels) (kept : GatheredRecords)
    : Type 0 where
  pub nsecs : AreNsecs rrsets (λ number. Among number.rrset) kept.nsecs.items
  pub nsec3s : AreNsec3s rrsets zone (λ number. Among number.rrset) kept.nsec3s

-- the records are the NSEC records of the zone among the evidence, and its NSEC3 records that can be used
pub record AreSecuredRecords
    (Secured : ℕ → ℕ → Type 0) (rrsets : List ReceivedRrset) (zone : Labels) (kept : GatheredRecords) : Type 0 where
  pub nsecs : AreNsecsOf Secured rrsets zone kept.nsecs.items
  pub nsec3s : AreNsec3sOf Secured rrsets zone kept.nsec3s

-- one of the zones is the one with the name
abbrev pub IsZoneAmong : List SecuredZone → Labels → Type 0
IsZoneAmong zones name = (each : SecuredZone) × Contains zones each × SameName each.name name

-- each zone that secured NSEC or NSEC3 records is kept with them, and no other has any
pub record AreDenialRecords (Secured : ℕ → ℕ → Type 0) (rrsets : List ReceivedRrset) (kept : DenialRecords) : Type 0 where
  pub each : (zone : SecuredZone) → Contains kept.zones.items zone → AreSecuredRecords Secured rrsets zone.name zone.records
  pub all : (name : Labels) (k : ℕ) (by : IsSecuredBy Secured rrsets name k) → IsDenialType by.rrset.rtype
      → IsZoneAmong kept.zones.items name
  pub sorted : IsSortedByKey (λ zone. zone.name) search_cmp kept.zones.items
  pub no_nsecs : kept.none.nsecs.items ≡ []
  pub no_nsec3s : kept.none.nsec3s ≡ []
