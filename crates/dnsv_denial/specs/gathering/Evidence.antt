-- Which records of the evidence may prove that a name or a type isn't there (RFC 4035 5.4, RFC 5155 8).
--
-- The evidence is its RRsets, and which of their signatures are secured: `Secured k s` says that signature s of RRset
-- k is good under a trusted key of its signer. Both are numbered from 1 on.
use Rattle.std.specs.FinSet as set
use Rattle.std.specs.Prelude.{◌≡◌, ℕ, List, ◌∷◌, map}
use Rattle.dnsv_names.specs.Name.{Labels, SameName}
use Rattle.dnsv_records.specs.Base32Hex.{IsHash, Spells}
use Rattle.dnsv_records.specs.Nsec.{IsNsec}
use Rattle.dnsv_records.specs.Nsec3.{IsNsec3, IsUsable}
use Rattle.dnsv_records.specs.Rrsig.{IsRrsig}
use Rattle.dnsv_records.specs.declared.nsec.Nsec.{Nsec}
use Rattle.dnsv_records.specs.declared.nsec3.Nsec3.{Nsec3}
use Rattle.dnsv_records.specs.declared.rrsig.Rrsig.{Rrsig}
use Rattle.dnsv_zones.specs.chains.Nsec3Chain.{Nsec3Record}
use Rattle.dnsv_zones.specs.chains.NsecChain.{NsecRecord}
use Rattle.dnsv_zones.specs.chains.Rdata.{nsec_record, parameters_of}
use Rattle.dnsv_canonical.specs.Canonical.{IsCanonical}
use Rattle.dnsv_canonical.specs.CanonicalRdata.{canonical_form}
use Rattle.dnsv_canonical.specs.Rrsets.{IsNumbered, ReceivedRrset}
use Rattle.dnsv_canonical.specs.SignedData.{IsExpanded}
use Rattle.dnsv_canonical.specs.declared.number.RecordNumber.{RecordNumber}

-- ---- records by their numbers

-- the record with the number: its RRset, and its RDATA among the RRset's in canonical order
pub record IsRecordAt (rrsets : List ReceivedRrset) (number : RecordNumber) (rrset : ReceivedRrset) (rdata : List ℕ)
    : Type 0 where
  pub is_rrset : IsNumbered rrsets number.rrset rrset
  pub canonical : List (List ℕ)
  pub is_canonical : IsCanonical (map (canonical_form rrset.rtype) rrset.rdata) canonical
  pub is_rdata : IsNumbered canonical number.place rdata

-- the record with the number is this NSEC record (RFC 4034 4)
pub record IsNsecOf (rrsets : List ReceivedRrset) (number : RecordNumber) (nsec : NsecRecord) : Type 0 where
  pub rrset : ReceivedRrset
  pub rdata : List ℕ
  pub at : IsRecordAt rrsets number rrset rdata
  pub rtype : rrset.rtype ≡ 47
  pub fields : Nsec
  pub read : IsNsec rdata fields
  pub is : nsec ≡ nsec_record rrset.owner fields

-- the owner of an NSEC3 record of the zone: one label in front of the zone, which spells the hash (RFC 5155 3)
pub record IsHashedOwner (zone owner : Labels) (hash : List ℕ) : Type 0 where
  pub label : List ℕ
  pub parent : Labels
  pub parts : owner ≡ label ∷ parent
  pub in_zone : SameName parent zone
  pub is_hash : IsHash hash
  pub spelled : Spells label hash

-- the record with the number is this NSEC3 record of the zone, which can be used (RFC 5155 3, 8.2)
pub record IsNsec3Of (rrsets : List ReceivedRrset) (zone : Labels) (number : RecordNumber) (nsec3 : Nsec3Record)
    : Type 0 where
  pub rrset : ReceivedRrset
  pub rdata : List ℕ
  pub at : IsRecordAt rrsets number rrset rdata
  pub rtype : rrset.rtype ≡ 50
  pub owner : IsHashedOwner zone rrset.owner nsec3.hash
  pub fields : Nsec3
  pub read : IsNsec3 rdata fields
  pub usable : IsUsable fields
  pub next : nsec3.next ≡ fields.next_hash
  pub flags : nsec3.flags ≡ fields.flags.0
  pub types : nsec3.types ≡ (λ t. set.contains fields.types t)
  pub parameters : nsec3.parameters ≡ parameters_of fields.parameters

-- ---- what counts

-- One of these signatures of the RRset, numbered from 1 on, is the zone's, and by it the RRset is no answer from a
-- wildcard (RFC 4035 5.3.1, 5.3.4).
pub record HasZoneSignature (Secured : ℕ → Type 0) (rrset : ReceivedRrset) (zone : Labels) : Type 0 where
  pub signature : ℕ
  pub secured : Secured signature
  pub rdata : List ℕ
  pub is_signature : IsNumbered rrset.signatures signature rdata
  pub rrsig : Rrsig
  pub read : IsRrsig rdata rrsig
  pub signer : SameName rrsig.signer zone
  pub unexpanded : ¬ IsExpanded rrset.owner rrsig

-- the RRset with the number has a secured signature of the zone
pub record IsSecuredBy (Secured : ℕ → ℕ → Type 0) (rrsets : List ReceivedRrset) (zone : Labels) (k : ℕ)
    : Type 0 where
  pub rrset : ReceivedRrset
  pub is_rrset : IsNumbered rrsets k rrset
  pub signed : HasZoneSignature (Secured k) rrset zone

-- the record with the number is this NSEC record, secured by the zone
pub record IsNsecAt
    (Secured : ℕ → ℕ → Type 0) (rrsets : List ReceivedRrset) (zone : Labels) (number : RecordNumber)
    (nsec : NsecRecord) : Type 0 where
  pub is : IsNsecOf rrsets number nsec
  pub secured : IsSecuredBy Secured rrsets zone number.rrset

-- the record with the number is this NSEC3 record of the zone, secured by the zone
pub record IsNsec3At
    (Secured : ℕ → ℕ → Type 0) (rrsets : List ReceivedRrset) (zone : Labels) (number : RecordNumber)
    (nsec3 : Nsec3Record) : Type 0 where
  pub is : IsNsec3Of rrsets zone number nsec3
  pub secured : IsSecuredBy Secured rrsets zone number.rrset
