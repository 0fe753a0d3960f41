-- The sources of a zone: its records that may deny, chain by chain, whether they are trusted or not (RFC 4035 5.4, RFC 5155 8).
use Rattle.std.specs.Prelude.{◌≡◌, ◌↔◌, ◌<◌, ℕ, List, Contains, Some, slice_get}
use Rattle.dnsv_names.specs.Name.{Labels}
use Rattle.dnsv_zones.specs.chains.HashedNames.{sha1_hash}
use Rattle.dnsv_zones.specs.chains.Nsec3Chain.{Nsec3Record}
use Rattle.dnsv_zones.specs.chains.NsecChain.{NsecRecord}
use Rattle.dnsv_zones.specs.forms.RecordWords.{RecordWords}
use Rattle.dnsv_zones.specs.forms.Said.{nsec_records_say, nsec3_records_say}
use Rattle.dnsv_canonical.specs.declared.number.RecordNumber.{RecordNumber}
use Rattle.dnsv_denial.specs.gathering.Evidence.{IsNsecOf, IsNsec3Of}
use Rattle.dnsv_denial.specs.gathering.EvidenceWords.{Chain, GoesBefore}
use Rattle.dnsv_denial.specs.gathering.EvidenceWords.Chain.{ByNsec, ByNsec3}
use Rattle.dnsv_gaps.specs.Asking.{Asking}
use Rattle.dnsv_gaps.specs.Denials.{IsDenialNumber}

-- the record with the number is this NSEC record of a denial of the zone
pub record IsSourceNsec (a : Asking) (zone : Labels) (number : RecordNumber) (nsec : NsecRecord) : Type 0 where
  pub is : IsNsecOf a.basis.rrsets number nsec
  pub denial : IsDenialNumber a zone number.rrset

-- or this NSEC3 record of one, which can be used, and whose owner is a hash in front of the zone
pub record IsSourceNsec3 (a : Asking) (zone : Labels) (number : RecordNumber) (nsec3 : Nsec3Record) : Type 0 where
  pub is : IsNsec3Of a.basis.rrsets zone number nsec3
  pub denial : IsDenialNumber a zone number.rrset

-- the source has a record: of NSEC, or of NSEC3 with its parameters
abbrev pub HasRecords : Asking → Labels → Chain → Type 0
HasRecords a zone ByNsec = (number : RecordNumber) × (nsec : NsecRecord) × IsSourceNsec a zone number nsec
HasRecords a zone (ByNsec3 parameters) =
    (number : RecordNumber) × (nsec3 : Nsec3Record) × IsSourceNsec3 a zone number nsec3 × (nsec3.parameters ≡ parameters)

-- the sources that have records, in order: that of NSEC, and then those of NSEC3 by iterations and salt
pub record AreSources (a : Asking) (zone : Labels) (chains : List Chain) : Type 0 where
  pub members : (chain : Chain) → Contains chains chain ↔ HasRecords a zone chain
  pub order : (i j : ℕ) (first other : Chain) → slice_get chains i ≡ Some first → slice_get chains j ≡ Some other → i < j
      → GoesBefore first other

-- what the records of a source say of names, each by its number
abbrev pub source_said : Asking → Labels → Chain → RecordWords RecordNumber
source_said a zone ByNsec =
    nsec_records_say zone (λ Says number. (nsec : NsecRecord) × IsSourceNsec a zone number nsec × Says nsec)
source_said a zone (ByNsec3 parameters) =
    nsec3_records_say (sha1_hash parameters) (λ Says number. (nsec3 : Nsec3Record) × IsSourceNsec3 a zone number nsec3 × Says nsec3)
