-- NSEC3 records that can't be used, and why (RFC 5155 3, 8.1, 8.2, 10.3).
use Rattle.std.specs.Prelude.{◌≡◌, ◌≢◌, ◌⊎◌, ◌<◌, ◌≤◌, ◌↔◌, ℕ, List, [], ◌∷◌, Contains, length, map}
use Rattle.std.specs.List.Sorted.{IsStrictlySortedBy}
use Rattle.dnsv_names.specs.Name.{Labels}
use Rattle.dnsv_records.specs.Base32Hex.{IsHash, Spells}
use Rattle.dnsv_records.specs.Nsec3.{IsNsec3}
use Rattle.dnsv_records.specs.declared.nsec3.Nsec3.{Nsec3}
use Rattle.dnsv_zones.specs.chains.Nsec3Chain.{Nsec3Record}
use Rattle.dnsv_canonical.specs.Rrsets.{ReceivedRrset}
use Rattle.dnsv_canonical.specs.declared.number.RecordNumber.{RecordNumber}
use Rattle.dnsv_denial.specs.gathering.Evidence.{IsRecordAt}
use Rattle.dnsv_proof_forms.specs.records.Numbers.{number_cmp}
use Rattle.dnsv_lines.specs.declared.line.fault.denial.WhyNsec3.{WhyNsec3}
use Rattle.dnsv_lines.specs.declared.line.fault.denial.WhyNsec3.TheVariants as why
use Rattle.dnsv_remedies.specs.declared.facts.name.UnusableFacts.{UnusableFacts}
use Rattle.dnsv_gaps.specs.Asking.{Asking}
use Rattle.dnsv_gaps.specs.Denials.{HasSigner, IsDenialNumber}
use Rattle.dnsv_gaps.specs.Sources.{IsSourceNsec3}

-- the owner's first label spells a hash
abbrev pub IsHashLabel : Labels → Type 0
IsHashLabel [] = ⊥
IsHashLabel (label ∷ parent) = (hash : List ℕ) × IsHash hash × Spells label hash

-- a signature of the RRset is by the owner's parent, or it has none
abbrev pub IsOfItsParent : ReceivedRrset → Labels → Type 0
IsOfItsParent rrset [] = ⊥
IsOfItsParent rrset (label ∷ parent) = (rrset.signatures ≡ []) ⊎ HasSigner rrset parent

-- another algorithm than SHA-1, flags that aren't known, or another length of hash
abbrev pub HasUnknownFields : Nsec3 → Type 0
HasUnknownFields fields = (fields.algorithm.0 ≢ 1) ⊎ (1 < fields.flags.0) ⊎ (length fields.next_hash ≢ 20)

-- such fields, an owner that spells no hash, or no signature by the zone above it
abbrev pub IsUnusable : ReceivedRrset → Nsec3 → Type 0
IsUnusable rrset fields = HasUnknownFields fields ⊎ (¬ IsHashLabel rrset.owner) ⊎ (¬ IsOfItsParent rrset rrset.owner)

-- why the record can't be used: too many iterations, or else that it is no such record
pub data IsWhy (rrset : ReceivedRrset) (fields : Nsec3) : WhyNsec3 → Type 0 where
  iterations : 500 < fields.parameters.iterations.0 → IsWhy rrset fields (why.Iterations fields.parameters.iterations)
  unusable : fields.parameters.iterations.0 ≤ 500 → IsUnusable rrset fields → IsWhy rrset fields why.Unusable

-- the record with the number is one of a denial of the zone and of none of its sources, for this reason
pub record IsUnusableOf (a : Asking) (zone : Labels) (number : RecordNumber) (reason : WhyNsec3) : Type 0 where
  pub denial : IsDenialNumber a zone number.rrset
  pub unused : (nsec3 : Nsec3Record) → ¬ IsSourceNsec3 a zone number nsec3
  pub rrset : ReceivedRrset
  pub rdata : List ℕ
  pub at : IsRecordAt a.basis.rrsets number rrset rdata
  pub rtype : rrset.rtype ≡ 50
  pub fields : Nsec3
  pub read : IsNsec3 rdata fields
  pub is_why : IsWhy rrset fields reason

-- all such records, by their numbers
pub record AreUnusable (a : Asking) (zone : Labels) (facts : List UnusableFacts) : Type 0 where
  pub rising : IsStrictlySortedBy number_cmp (map (λ each. each.number) facts)
  pub members : (number : RecordNumber) (reason : WhyNsec3)
      → Contains facts (record { why = reason; number = number }) ↔ IsUnusableOf a zone number reason
