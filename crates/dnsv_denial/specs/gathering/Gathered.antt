-- How a view keeps the records of a zone.
use Rattle.std.specs.Prelude.{◌≡◌, ◌↔◌, ◌⊎◌, ⊤, Contains, IsTrue, ℕ, List, map}
use Rattle.std.specs.List.{AllByRecursion}
use Rattle.std.specs.List.Sorted.{IsStrictlySortedBy}
use Rattle.dnsv_names.specs.Name.{Labels}
use Rattle.dnsv_records.specs.Nsec3.{IsUsable}
use Rattle.dnsv_records.specs.declared.nsec3.Nsec3.{Nsec3}
use Rattle.dnsv_zones.specs.Any.{Any}
use Rattle.dnsv_canonical.specs.Rrsets.{ReceivedRrset}
use Rattle.dnsv_denial.specs.gathering.Evidence.{IsNsecAt, IsNsecOf, IsNsec3At, IsNsec3Of, IsSecuredBy}
use Rattle.dnsv_proof_forms.specs.records.Record.{read_entry, read_nsec3}
use Rattle.dnsv_proof_forms.specs.records.Numbers.{number_cmp}
use Rattle.dnsv_proof_forms.specs.declared.records.entry.NsecEntry.{NsecEntry}
use Rattle.dnsv_proof_forms.specs.declared.records.entry.Nsec3Entry.{Nsec3Entry}
use Rattle.dnsv_canonical.specs.declared.number.RecordNumber.{RecordNumber}

-- the entries are all records of a kind that have such numbers, in the order of these
pub record AreAll
    {E X : Type 0} (number : E → RecordNumber) (value : E → X) (Is : RecordNumber → X → Type 0)
    (Within : RecordNumber → Type 0) (entries : List E) : Type 0 where
  pub rising : IsStrictlySortedBy number_cmp (map number entries)
  pub each : AllByRecursion (λ entry. Within (number entry) × Is (number entry) (value entry)) entries
  pub all : (n : RecordNumber) (x : X) → Within n → Is n x
      → Any (λ entry. (number entry ≡ n) × (value entry ≡ x)) entries

-- the entries are the NSEC records that have such numbers
abbrev pub AreNsecs : List ReceivedRrset → (RecordNumber → Type 0) → List NsecEntry → Type 0
AreNsecs rrsets = AreAll (λ entry. entry.number) read_entry (IsNsecOf rrsets)

-- the entries are the NSEC records of the zone
abbrev pub AreNsecsOf : (ℕ → ℕ → Type 0) → List ReceivedRrset → Labels → List NsecEntry → Type 0
AreNsecsOf Secured rrsets zone = AreAll (λ entry. entry.number) read_entry (IsNsecAt Secured rrsets zone) (λ _. ⊤)

-- the entries are the usable NSEC3 records of the zone, whose owners spell hashes, that have such numbers
abbrev pub AreNsec3s : List ReceivedRrset → Labels → (RecordNumber → Type 0) → List Nsec3Entry → Type 0
AreNsec3s rrsets zone = AreAll (λ entry. entry.number) read_nsec3 (IsNsec3Of rrsets zone)

-- the entries are the NSEC3 records of the zone
abbrev pub AreNsec3sOf : (ℕ → ℕ → Type 0) → List ReceivedRrset → Labels → List Nsec3Entry → Type 0
AreNsec3sOf Secured rrsets zone = AreAll (λ entry. entry.number) read_nsec3 (IsNsec3At Secured rrsets zone) (λ _. ⊤)

-- the entry is the usable NSEC3 record with the number and hash
pub record IsEntryOf (number : RecordNumber) (hash : List ℕ) (nsec3 : Nsec3) (entry : Nsec3Entry) : Type 0 where
  pub same_number : entry.number ≡ number
  pub same_hash : entry.hash ≡ hash
  pub usable : IsUsable nsec3
  pub opt_out : IsTrue entry.is_opt_out ↔ (nsec3.flags.0 ≡ 1)
  pub parameters : entry.parameters.now ≡ nsec3.parameters
  pub next_hash : entry.next_hash ≡ nsec3.next_hash
  pub types : entry.types.now ≡ nsec3.types

-- NSEC and NSEC3
abbrev pub IsDenialType : ℕ → Type 0
IsDenialType rtype = (rtype ≡ 47) ⊎ (rtype ≡ 50)

-- each RRset of NSEC or NSEC3 records that the zone secured has one of the numbers
abbrev pub IsListing : (ℕ → ℕ → Type 0) → List ReceivedRrset → Labels → List ℕ → Type 0
IsListing Secured rrsets zone numbers =
    (k : ℕ) (by : IsSecuredBy Secured rrsets zone k) → IsDenialType by.rrset.rtype → Contains numbers k

-- so of every zone
abbrev pub AreListed : (ℕ → ℕ → Type 0) → List ReceivedRrset → (Labels → List ℕ) → Type 0
AreListed Secured rrsets listed = (zone : Labels) → IsListing Secured rrsets zone (listed zone)
