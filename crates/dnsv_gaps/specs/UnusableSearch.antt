-- How NSEC3 records that can't be used are looked for. No public clause cites this module.
use Rattle.std.specs.Prelude.{◌≡◌, ℕ, Bool, IsTrue, List}
use Rattle.dnsv_names.specs.Name.{Labels}
use Rattle.dnsv_records.specs.Nsec3.{IsNsec3}
use Rattle.dnsv_records.specs.Nsec3 as by_fields
use Rattle.dnsv_records.specs.declared.nsec3.Nsec3.{Nsec3}
use Rattle.dnsv_canonical.specs.Rrsets.{ReceivedRrset}
use Rattle.dnsv_canonical.specs.declared.number.RecordNumber.{RecordNumber}
use Rattle.dnsv_denial.specs.gathering.Evidence.{IsHashedOwner, IsRecordAt}
use Rattle.dnsv_denial.specs.gathering.Gathered.{AreAll}
use Rattle.dnsv_lines.specs.declared.line.fault.denial.WhyNsec3.{WhyNsec3}
use Rattle.dnsv_remedies.specs.declared.facts.name.UnusableFacts.{UnusableFacts}
use Rattle.dnsv_gaps.specs.Unusable.{IsWhy}

-- the owner is a hash in front of the zone
abbrev pub IsInFront : Labels → Labels → Type 0
IsInFront zone owner = (hash : List ℕ) × IsHashedOwner zone owner hash

-- the record is of no source, for this reason; its owner is a hash in front of the zone or not
pub record IsWhyUnused (is_hashed : Bool) (rrset : ReceivedRrset) (fields : Nsec3) (reason : WhyNsec3) : Type 0 where
  pub unused : ¬ (IsTrue is_hashed × by_fields.IsUsable fields)
  pub is_why : IsWhy rrset fields reason

-- so is the NSEC3 record with the number
pub record IsUnusedAt (rrsets : List ReceivedRrset) (zone : Labels) (number : RecordNumber) (reason : WhyNsec3) : Type 0 where
  pub rrset : ReceivedRrset
  pub rdata : List ℕ
  pub at : IsRecordAt rrsets number rrset rdata
  pub rtype : rrset.rtype ≡ 50
  pub fields : Nsec3
  pub read : IsNsec3 rdata fields
  pub unused : ¬ (IsInFront zone rrset.owner × by_fields.IsUsable fields)
  pub is_why : IsWhy rrset fields reason

-- all that have such numbers, by these
abbrev pub AreUnused : List ReceivedRrset → Labels → (RecordNumber → Type 0) → List UnusableFacts → Type 0
AreUnused rrsets zone = AreAll (λ each. each.number) (λ each. each.why) (IsUnusedAt rrsets zone)
