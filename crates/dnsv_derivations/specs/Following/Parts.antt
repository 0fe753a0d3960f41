-- What the parts of proofs and the records that can't be used say, and from which lines before them that follows
-- (RFC 4035 5.2, 5.4, RFC 5155 8).
use Rattle.std.specs.Prelude.{◌≡◌, ℕ, List, Option, Some, None, Contains, IsTrue}
use Rattle.std.specs.List.{AllZip}
use Rattle.dnsv_names.specs.Name.{Labels, SameName}
use Rattle.dnsv_records.specs.Algorithm.{is_supported}
use Rattle.dnsv_records.specs.Ds.{IsDs}
use Rattle.dnsv_records.specs.declared.ds.Ds.{Ds}
use Rattle.dnsv_zones.specs.forms.RecordWords.{RecordWords}
use Rattle.dnsv_zones.specs.zones.Types.{Denies, IsUnsignedDelegation}
use Rattle.dnsv_canonical.specs.Rrsets.{IsNumbered, ReceivedRrset}
use Rattle.dnsv_anchors.specs.Ds.{IsIgnored, IsSupported}
use Rattle.dnsv_denial.specs.gathering.Evidence.{IsRecordAt}
use Rattle.dnsv_denial.specs.gathering.EvidenceWords.{Chain, evidence_said}
use Rattle.dnsv_denial.specs.gathering.EvidenceWords.Chain.{ByNsec, ByNsec3}
use Rattle.dnsv_canonical.specs.declared.number.RecordNumber.{RecordNumber}
use Rattle.dnsv_lines.specs.declared.line.Line.{Line}
use Rattle.dnsv_lines.specs.declared.line.Line.TheVariants as line
use Rattle.dnsv_lines.specs.declared.line.cut.Cut.{Cut}
use Rattle.dnsv_lines.specs.declared.line.cut.UnusableDs.{UnusableDs}
use Rattle.dnsv_lines.specs.declared.line.cut.WhyUnusable.{WhyUnusable}
use Rattle.dnsv_lines.specs.declared.line.cut.WhyUnusable.TheVariants as why
use Rattle.dnsv_lines.specs.declared.line.denial.Chain.{Chain as ToldChain}
use Rattle.dnsv_lines.specs.declared.line.denial.Chain.TheVariants as told
use Rattle.dnsv_lines.specs.declared.line.denial.Part.{Part}
use Rattle.dnsv_lines.specs.declared.line.denial.Proof.{Proof}
use Rattle.dnsv_lines.specs.declared.line.denial.RecordPlace.{RecordPlace}
use Rattle.dnsv_lines.specs.declared.line.denial.Relation.{Relation}
use Rattle.dnsv_lines.specs.declared.line.denial.Relation.TheVariants as relation
use Rattle.dnsv_lines.specs.declared.line.denial.Role.{Role}
use Rattle.dnsv_lines.specs.declared.line.denial.Role.TheVariants as role

-- ---- words

-- the record's owner or hash is the name's, and its types fit what the part is for
abbrev pub IsMatchFor : RecordWords RecordNumber → Role → Labels → RecordNumber → Type 0
IsMatchFor said role.ClosestEncloser name number = said.Encloser name number
IsMatchFor said role.NextCloser name number = ⊥
IsMatchFor said role.Wildcard name number = (t : ℕ) × said.TypesAt name (λ has. Denies has t) number
IsMatchFor said role.Name name number = (t : ℕ) × said.TypesAt name (λ has. Denies has t) number
IsMatchFor said role.Cut name number = said.TypesAt name IsUnsignedDelegation number

-- the record with the number says so of the name
abbrev pub IsWord : RecordWords RecordNumber → Role → Relation → Labels → RecordNumber → Type 0
IsWord said role relation.Matched name number = IsMatchFor said role name number
IsWord said role relation.Exists name number = said.Encloser name number
IsWord said role relation.Covered name number = said.Absent name number
IsWord said role relation.NonTerminal name number = said.EmptyNonTerminal name number
IsWord said role relation.OptOut name number = said.OptedOut name number
IsWord said role relation.Apex name number = ⊥

-- ---- parts

-- the record's RRset has the owner and the type
pub record IsPlaceOfRecord (rrsets : List ReceivedRrset) (by : RecordPlace) : Type 0 where
  pub rrset : ReceivedRrset
  pub is_rrset : IsNumbered rrsets by.number.rrset rrset
  pub owner : by.owner ≡ rrset.owner
  pub rtype : by.rtype.0 ≡ rrset.rtype

-- A record of the zone's chain says so of the name, or the name is the zone itself. `Secured k s` says that signature s
-- of RRset k counts.
abbrev pub IsSaidBy
    : (ℕ → ℕ → Type 0) → List ReceivedRrset → Labels → Chain → Role → Relation → Labels → Option RecordPlace → Type 0
IsSaidBy Secured rrsets zone chain role related name None = (related ≡ relation.Apex) × SameName name zone
IsSaidBy Secured rrsets zone chain role related name (Some by) =
    IsPlaceOfRecord rrsets by × IsWord (evidence_said Secured rrsets zone chain) role related name by.number

-- what the part says is so
abbrev pub IsPartOf : (ℕ → ℕ → Type 0) → List ReceivedRrset → Labels → Chain → Part → Type 0
IsPartOf Secured rrsets zone chain part =
    IsSaidBy Secured rrsets zone chain part.role part.relation part.name part.by

-- the chain is of these records
abbrev pub IsOfKind : ToldChain → Chain → Type 0
IsOfKind told.Nsec ByNsec = Unit {0}
IsOfKind told.Nsec (ByNsec3 parameters) = ⊥
IsOfKind told.Nsec3 ByNsec = ⊥
IsOfKind told.Nsec3 (ByNsec3 parameters) = Unit {0}

-- a line before names the zone: one of a proof, by records of such a chain, or one of a case
pub data IsZoneNamed (before : List Line) (zone : Labels) (chain : Chain) : Type 0 where
  by_proof : (proof : Proof) → Contains before (line.Proof proof) → SameName proof.zone zone → IsOfKind proof.chain chain
      → IsZoneNamed before zone chain
  by_case : (cut : Cut) (named : Labels) → Contains before (line.Case cut) → cut.zone ≡ Some named → SameName named zone
      → IsZoneNamed before zone chain

-- The part is said by a chain of a zone that a line before names; `Said k s` says that a line before shows signature s
-- of RRset k to be good.
pub record FollowsPart (Said : ℕ → ℕ → Type 0) (rrsets : List ReceivedRrset) (before : List Line) (part : Part)
    : Type 0 where
  pub zone : Labels
  pub chain : Chain
  pub named : IsZoneNamed before zone chain
  pub says : IsPartOf Said rrsets zone chain part

-- ---- records that can't be used

-- why the DS record can't be used among these: the first that is so
abbrev pub IsWhy : WhyUnusable → List Ds → Ds → Type 0
IsWhy why.Algorithm records ds = ¬ IsTrue (is_supported ds.algorithm.0)
IsWhy why.DigestType records ds = IsTrue (is_supported ds.algorithm.0) × ¬ IsSupported ds.digest_type.0
IsWhy why.DigestIgnored records ds =
    IsTrue (is_supported ds.algorithm.0) × IsSupported ds.digest_type.0 × IsIgnored records ds

-- the record of the DS RRset is this one, and can't be used for that
pub record IsUnusableRecord (rrsets : List ReceivedRrset) (unusable : UnusableDs) : Type 0 where
  pub rrset : ReceivedRrset
  pub rdata : List ℕ
  pub at : IsRecordAt rrsets unusable.number rrset rdata
  pub rtype : rrset.rtype ≡ 43
  pub owner : unusable.owner ≡ rrset.owner
  pub ds : Ds
  pub read : IsDs rdata ds
  pub records : List Ds
  pub are_read : AllZip IsDs rrset.rdata records
  pub why : IsWhy unusable.why records ds
  pub tag : unusable.key.tag.0 ≡ ds.key_tag.0
  pub algorithm : unusable.key.algorithm.0 ≡ ds.algorithm.0
  pub digest_type : unusable.digest_type.0 ≡ ds.digest_type.0
