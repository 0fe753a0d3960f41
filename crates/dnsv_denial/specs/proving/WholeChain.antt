-- Which evidence has the whole chain of a zone, and which has nothing besides that could speak of a name (RFC 4034 4,
-- RFC 5155 7.1).
--
-- Only zones at or above a name can speak of it, so each is given by a number of the name's rightmost labels.
use Rattle.std.specs.Prelude.{◌≡◌, ◌≤◌, ℕ, List, Contains, length}
use Rattle.std.specs.List.{AllByRecursion, AllZip}
use Rattle.dnsv_names.specs.Name.{Labels, rightmost}
use Rattle.dnsv_zones.specs.chains.HashedNames.{sha1_hash}
use Rattle.dnsv_zones.specs.chains.Nsec3Chain.{Nsec3Record, Parameters, IsNsec3ChainOf, HasNoCollision}
use Rattle.dnsv_zones.specs.chains.NsecChain.{NsecRecord, IsNsecChainOf}
use Rattle.dnsv_zones.specs.zones.Zone.{Zone}
use Rattle.dnsv_canonical.specs.Rrsets.{ReceivedRrset}
use Rattle.dnsv_denial.specs.gathering.Evidence.{IsNsecAt, IsNsec3At}
use Rattle.dnsv_canonical.specs.declared.number.RecordNumber.{RecordNumber}

-- ---- the whole chain, whatever else is there

-- The records with these numbers, each secured by the zone, are its whole NSEC chain.
pub record HasWholeNsecChain (Secured : ℕ → ℕ → Type 0) (rrsets : List ReceivedRrset) (name : Labels) (zone : Zone)
    : Type 0 where
  pub labels : ℕ
  pub at_or_above : labels ≤ length name
  pub numbers : List RecordNumber
  pub records : List NsecRecord
  pub are : AllZip (IsNsecAt Secured rrsets (rightmost name labels)) numbers records
  pub chain : IsNsecChainOf zone (rightmost name labels) records

-- The records with these numbers, each secured by the zone, are its whole NSEC3 chain with these parameters; and no
-- node of the zone has the hash of another name that the question asks for.
pub record HasWholeNsec3Chain (Secured : ℕ → ℕ → Type 0) (rrsets : List ReceivedRrset) (name : Labels) (zone : Zone)
    : Type 0 where
  pub labels : ℕ
  pub at_or_above : labels ≤ length name
  pub parameters : Parameters
  pub numbers : List RecordNumber
  pub records : List Nsec3Record
  pub are : AllZip (IsNsec3At Secured rrsets (rightmost name labels)) numbers records
  pub chain : IsNsec3ChainOf zone (rightmost name labels) (sha1_hash parameters) records
  pub apart : HasNoCollision zone (sha1_hash parameters) name

-- no record has the Opt-Out flag (RFC 5155 6)
abbrev pub AreWithoutOptOut : List Nsec3Record → Type 0
AreWithoutOptOut records = AllByRecursion (λ nsec3. nsec3.flags ≡ 0) records

-- a whole chain of either kind
pub data HasWholeChain (Secured : ℕ → ℕ → Type 0) (rrsets : List ReceivedRrset) (name : Labels) (zone : Zone)
    : Type 0 where
  by_nsec : HasWholeNsecChain Secured rrsets name zone → HasWholeChain Secured rrsets name zone
  by_nsec3 : HasWholeNsec3Chain Secured rrsets name zone → HasWholeChain Secured rrsets name zone

-- a whole chain without Opt-Out
pub data HasWholeChainWithoutOptOut
    (Secured : ℕ → ℕ → Type 0) (rrsets : List ReceivedRrset) (name : Labels) (zone : Zone) : Type 0 where
  by_nsec : HasWholeNsecChain Secured rrsets name zone → HasWholeChainWithoutOptOut Secured rrsets name zone
  by_nsec3 : (whole : HasWholeNsec3Chain Secured rrsets name zone) → AreWithoutOptOut whole.records
      → HasWholeChainWithoutOptOut Secured rrsets name zone

-- ---- and nothing else

-- Each NSEC record secured by a zone at or above the name is one of the chain, and no such NSEC3 record is there.
pub record IsJustNsecChain (Secured : ℕ → ℕ → Type 0) (rrsets : List ReceivedRrset) (name : Labels) (zone : Zone)
    : Type 0 where
  pub whole : HasWholeNsecChain Secured rrsets name zone
  pub no_other : (other : ℕ) (number : RecordNumber) (nsec : NsecRecord) → other ≤ length name
      → IsNsecAt Secured rrsets (rightmost name other) number nsec
      → (other ≡ whole.labels) × Contains whole.numbers number
  pub no_nsec3 : (other : ℕ) (number : RecordNumber) (nsec3 : Nsec3Record) → other ≤ length name
      → ¬ IsNsec3At Secured rrsets (rightmost name other) number nsec3

-- Each usable NSEC3 record secured by a zone at or above the name is one of the chain, and no such NSEC record is there.
pub record IsJustNsec3Chain (Secured : ℕ → ℕ → Type 0) (rrsets : List ReceivedRrset) (name : Labels) (zone : Zone)
    : Type 0 where
  pub whole : HasWholeNsec3Chain Secured rrsets name zone
  pub no_other : (other : ℕ) (number : RecordNumber) (nsec3 : Nsec3Record) → other ≤ length name
      → IsNsec3At Secured rrsets (rightmost name other) number nsec3
      → (other ≡ whole.labels) × Contains whole.numbers number
  pub no_nsec : (other : ℕ) (number : RecordNumber) (nsec : NsecRecord) → other ≤ length name
      → ¬ IsNsecAt Secured rrsets (rightmost name other) number nsec

-- just a whole chain without Opt-Out
pub data IsJustChainWithoutOptOut (Secured : ℕ → ℕ → Type 0) (rrsets : List ReceivedRrset) (name : Labels) (zone : Zone)
    : Type 0 where
  by_nsec : IsJustNsecChain Secured rrsets name zone → IsJustChainWithoutOptOut Secured rrsets name zone
  by_nsec3 : (just : IsJustNsec3Chain Secured rrsets name zone) → AreWithoutOptOut just.whole.records
      → IsJustChainWithoutOptOut Secured rrsets name zone
