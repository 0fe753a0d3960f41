-- When what is said of the sources of a zone, and of its NSEC3 records, is so (RFC 4035 5.4, RFC 5155 8, RFC 6840 4.1).
use Rattle.std.specs.Prelude.{◌≡◌, ◌⊎◌, ◌-◌, ◌<◌, ℕ, List, length}
use Rattle.dnsv_names.specs.Name.{Labels, IsAtOrBelow, rightmost}
use Rattle.dnsv_names.specs.Order.{IsBelow}
use Rattle.dnsv_names.specs.Tree.{wildcard_of}
use Rattle.dnsv_names.specs.declared.number.RecordType.{RecordType}
use Rattle.dnsv_records.specs.Nsec3.{IsNsec3}
use Rattle.dnsv_records.specs.declared.nsec3.Nsec3.{Nsec3}
use Rattle.dnsv_zones.specs.forms.RecordWords.{RecordWords}
use Rattle.dnsv_zones.specs.zones.TypeNumbers.{cname, ds, soa}
use Rattle.dnsv_zones.specs.zones.Types.{IsClosed, IsDelegation}
use Rattle.dnsv_canonical.specs.Rrsets.{ReceivedRrset}
use Rattle.dnsv_canonical.specs.declared.number.RecordNumber.{RecordNumber}
use Rattle.dnsv_denial.specs.gathering.Evidence.{IsRecordAt}
use Rattle.dnsv_denial.specs.gathering.EvidenceWords.{Chain}
use Rattle.dnsv_gaps.specs.Asking.{Asking}
use Rattle.dnsv_gaps.specs.Cases.{HasNone, IsAt, IsRuledOut}
use Rattle.dnsv_gaps.specs.Sources.{HasRecords, source_said}
use Rattle.dnsv_gaps.specs.Unusable.{IsUnusable}
use Rattle.dnsv_lines.specs.declared.line.denial.Role.{Role}
use Rattle.dnsv_lines.specs.declared.line.denial.Role.TheVariants as role
use Rattle.dnsv_lines.specs.declared.line.fault.denial.SourceFault.{SourceFault}
use Rattle.dnsv_lines.specs.declared.line.fault.denial.UnusableNsec3.{UnusableNsec3}
use Rattle.dnsv_lines.specs.declared.line.fault.denial.WhyNsec3.{WhyNsec3}
use Rattle.dnsv_lines.specs.declared.line.fault.denial.WhyNsec3.TheVariants as nsec3
use Rattle.dnsv_lines.specs.declared.line.fault.denial.WhySource.{WhySource}
use Rattle.dnsv_lines.specs.declared.line.fault.denial.WhySource.TheVariants as why
use Rattle.dnsv_reasons.specs.Sources.{IsParametersOf}

-- ---- names

-- the name that is asked for, or a wildcard below one of its ancestors at or below the zone, which might answer
abbrev pub IsAskedOf : Asking → Labels → Labels → Type 0
IsAskedOf a zone name = (name ≡ a.name) ⊎ ((labels : ℕ) × (labels < length a.name) × IsAtOrBelow (rightmost a.name labels) zone
    × (name ≡ wildcard_of (rightmost a.name labels)))

-- a name below the zone that may be an unsigned delegation: at or above the name that is asked for, above it where DS is asked
pub record IsCutName (a : Asking) (zone name : Labels) : Type 0 where
  pub above : IsAtOrBelow a.name name
  pub properly : a.rtype ≡ ds → IsBelow a.name name
  pub below : IsBelow name zone

-- ---- the words: `said` is what the records of the source say

-- a type that is in the way of a denial, or of an unsigned delegation
abbrev pub IsInTheWay : Asking → Labels → Labels → RecordType → Type 0
IsInTheWay a zone name held =
    (IsAskedOf a zone name × ((held.0 ≡ a.rtype) ⊎ (held.0 ≡ cname) ⊎ ((a.rtype ≡ ds) × (held.0 ≡ soa))))
    ⊎ (IsCutName a zone name × ((held.0 ≡ ds) ⊎ (held.0 ≡ soa)))

-- no record is at the name but of a delegation or a DNAME, below which the zone doesn't go on
abbrev pub HasNoneOpenAt : RecordWords RecordNumber → Labels → Type 0
HasNoneOpenAt said name = HasNone (said.TypesAt name (λ has. ¬ IsClosed has))

-- no record covers the name in its role
abbrev pub IsUncovered : RecordWords RecordNumber → Labels → Role → Type 0
IsUncovered said name role.NextCloser = HasNone (said.Absent name) × HasNone (said.OptedOut name)
IsUncovered said name role.Wildcard = HasNone (IsRuledOut said name)
IsUncovered said name role.Cut = HasNone (said.OptedOut name)
IsUncovered said name role.ClosestEncloser = ⊥
IsUncovered said name role.Name = ⊥

-- true exactly where
abbrev pub IsSourceTrue : Asking → RecordWords RecordNumber → Labels → Labels → WhySource → Type 0
-- the record at the name is one of a delegation, which denies nothing at or below it (RFC 6840 4.1)
IsSourceTrue a said zone name (why.Delegation number) = said.TypesAt name IsDelegation number
-- its types hold the type
IsSourceTrue a said zone name (why.TypeHeld number held) = said.TypesAt name (λ has. has held.0) number × IsInTheWay a zone name held
-- no record is at the name, which is asked for, or may be an unsigned delegation
IsSourceTrue a said zone name why.MatchMissing = HasNone (IsAt said name) × ((name ≡ a.name) ⊎ IsCutName a zone name)
-- no record shows an ancestor of it at or below the zone to be there; of an unsigned delegation its parent
IsSourceTrue a said zone name why.EncloserMissing =
    ((name ≡ a.name) × ((labels : ℕ) → labels < length name → IsAtOrBelow (rightmost name labels) zone
    → HasNoneOpenAt said (rightmost name labels)))
    ⊎ (IsCutName a zone name × HasNoneOpenAt said (rightmost name (length name - 1)))
-- no record is at the name, and none covers it
IsSourceTrue a said zone name (why.CoverMissing in_role) = HasNone (IsAt said name) × IsUncovered said name in_role

-- it tells of a source of its zone, by what the records of that say
pub record IsTrueOfSource (a : Asking) (fault : SourceFault) : Type 0 where
  pub chain : Chain
  pub has : HasRecords a fault.source.zone chain
  pub named : IsParametersOf chain fault.source.parameters
  pub is : IsSourceTrue a (source_said a fault.source.zone chain) fault.source.zone fault.name fault.why

-- ---- NSEC3 records that can't be used

-- too many iterations, or another reason
abbrev pub IsNsec3True : ReceivedRrset → Nsec3 → WhyNsec3 → Type 0
IsNsec3True rrset fields (nsec3.Iterations iterations) = (500 < iterations.0) × (fields.parameters.iterations.0 ≡ iterations.0)
IsNsec3True rrset fields nsec3.Unusable = IsUnusable rrset fields

pub record IsTrueOfNsec3 (a : Asking) (unusable : UnusableNsec3) : Type 0 where
  pub rrset : ReceivedRrset
  pub rdata : List ℕ
  pub at : IsRecordAt a.basis.rrsets unusable.number rrset rdata
  pub rtype : rrset.rtype ≡ 50
  pub owner : unusable.owner ≡ rrset.owner
  pub fields : Nsec3
  pub read : IsNsec3 rdata fields
  pub is : IsNsec3True rrset fields unusable.why
