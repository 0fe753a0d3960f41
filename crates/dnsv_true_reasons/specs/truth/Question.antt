-- When what is said of a question, of its answers and of its denials is so.
use Rattle.std.specs.Prelude.{◌≡◌, ◌⊎◌, ◌+◌, ◌-◌, ◌≤◌, ℕ, Option, Some, None, length}
use Rattle.dnsv_names.specs.Name.{Labels, SameName, IsAtOrBelow, rightmost}
use Rattle.dnsv_names.specs.Order.{IsBelow}
use Rattle.dnsv_names.specs.declared.number.RecordType.{RecordType}
use Rattle.dnsv_records.specs.declared.rrsig.Rrsig.{Rrsig}
use Rattle.dnsv_zones.specs.forms.Forms.{NoDataForms, NoNameForm}
use Rattle.dnsv_zones.specs.zones.TypeNumbers.{dname}
use Rattle.dnsv_canonical.specs.Rrsets.{IsNumbered, ReceivedRrset}
use Rattle.dnsv_chain.specs.Trusted.{IsSecured}
use Rattle.dnsv_denial.specs.proving.FirstProof.{StandsBy}
use Rattle.dnsv_denial.specs.gathering.EvidenceWords.{Chain}
use Rattle.dnsv_faults.specs.KnownZones.{IsKnownZone}
use Rattle.dnsv_faults.specs.Signatures.{IsSignatureAt}
use Rattle.dnsv_gaps.specs.Asking.{Asking}
use Rattle.dnsv_gaps.specs.Denials.{IsDenialNumber}
use Rattle.dnsv_gaps.specs.Sources.{source_said}
use Rattle.dnsv_gaps.specs.questions.Closers.{IsOpen}
use Rattle.dnsv_gaps.specs.questions.Cuts.{HasGoal, IsNext, IsParent, IsShown, IsUnsignedAt}
use Rattle.dnsv_gaps.specs.Cases.{HasOne}
use Rattle.dnsv_lines.specs.declared.line.fault.denial.DenialUnproved.{DenialUnproved}
use Rattle.dnsv_lines.specs.declared.line.fault.denial.DnameAbove.{DnameAbove}
use Rattle.dnsv_lines.specs.declared.line.fault.denial.MissingAnswer.{MissingAnswer}
use Rattle.dnsv_lines.specs.declared.line.fault.signature.CloserName.{CloserName}
use Rattle.dnsv_lines.specs.declared.line.fault.zone.DsUnproved.{DsUnproved}
use Rattle.dnsv_trust_reasons.specs.Places.{shown_of}
use Rattle.dnsv_verdict.specs.Insecure.{IsUnsignedFrom}
use Rattle.dnsv_true_reasons.specs.truth.Sources.{IsCutName}

-- ---- answers

-- a wildcard is behind the signature, a closer name may be there, and it is this one (RFC 4035 5.3.4)
pub record IsTrueOfCloser (a : Asking) (closer : CloserName) : Type 0 where
  pub rrset : ReceivedRrset
  pub numbered : IsNumbered a.basis.rrsets closer.signature.number.rrset rrset
  pub rrsig : Rrsig
  pub its : IsSignatureAt rrset closer.signature.number.signature rrsig
  pub shown : closer.signature ≡ shown_of closer.signature.number rrset rrsig
  pub is_open : IsOpen a rrset rrsig
  pub name : closer.name ≡ rightmost a.name (rrsig.labels + 1)

-- The name is above the one that is asked for; and the RRset is one of DNAME records at it, or the record is at it by some source,
-- and holds DNAME.
abbrev pub IsTrueOfDname : Asking → DnameAbove → Option ℕ → Type 0
IsTrueOfDname a above None = (rrset : ReceivedRrset) × IsNumbered a.basis.rrsets above.rrset rrset × SameName rrset.owner above.name
    × (rrset.rtype ≡ dname) × IsBelow a.name above.name
IsTrueOfDname a above (Some place) = (zone : Labels) × (chain : Chain)
    × (source_said a zone chain).TypesAt above.name (λ has. has dname) (record { rrset = above.rrset; place = place })
    × IsBelow a.name above.name

-- ---- the question

-- the name and the type are those of the question
abbrev pub IsAbout : Asking → Labels → RecordType → Type 0
IsAbout a name rtype = (name ≡ a.name) × (rtype.0 ≡ a.rtype)

-- of the known zones it has most labels
pub record ShouldSpeak (a : Asking) (zone : Labels) : Type 0 where
  pub known : IsKnownZone a.basis a.name a.rtype zone
  pub most : (other : Labels) → IsKnownZone a.basis a.name a.rtype other → length other ≤ length zone

abbrev pub HasDenial : Asking → Labels → Type 0
HasDenial a zone = (k : ℕ) × IsDenialNumber a zone k

-- there are no denials of the zone that should speak; or there is no known zone
abbrev pub IsSilent : Asking → Option Labels → Type 0
IsSilent a None = (zone : Labels) → ¬ IsKnownZone a.basis a.name a.rtype zone
IsSilent a (Some zone) = ShouldSpeak a zone × (¬ HasDenial a zone)

abbrev pub IsTrueOfMissing : Asking → MissingAnswer → Type 0
IsTrueOfMissing a missing = IsAbout a missing.name missing.rtype × (¬ HasGoal a) × IsSilent a missing.zone

-- trusted records of the zone prove neither that the name isn't there nor that it has no such data (RFC 4035 5.4, RFC 5155 8)
abbrev pub ProvesNothing : Asking → Labels → Type 0
ProvesNothing a zone = (chain : Chain)
    → (¬ StandsBy (IsSecured a.basis.meaning a.basis.moment a.basis.rrsets a.basis.anchors) a.basis.rrsets
    (λ said apex. NoNameForm said apex a.name) zone chain)
    × (¬ StandsBy (IsSecured a.basis.meaning a.basis.moment a.basis.rrsets a.basis.anchors) a.basis.rrsets
    (λ said apex. NoDataForms said apex a.name a.rtype) zone chain)

-- there are denials of the zone, which is known, and they prove nothing
abbrev pub IsTrueOfDenial : Asking → DenialUnproved → Type 0
IsTrueOfDenial a denial = IsAbout a denial.name denial.rtype × (¬ HasGoal a) × IsKnownZone a.basis a.name a.rtype denial.zone
    × HasDenial a denial.zone × ProvesNothing a denial.zone

-- ---- unsigned delegations

-- records of a source of the zone say that the name is one, or that one may be left out there below a name that is shown
abbrev pub IsProvingCut : Asking → Labels → Labels → Labels → Type 0
IsProvingCut a zone parent cut = (chain : Chain) × (HasOne (IsUnsignedAt (source_said a zone chain) cut)
    ⊎ (HasOne ((source_said a zone chain).Encloser parent) × HasOne ((source_said a zone chain).OptedOut cut)))

-- The name with c labels is a way by the zone with n: something shows a delegation there and none above it, or records of a source
-- prove one, if they are signed.
pub record IsWay (a : Asking) (n c : ℕ) : Type 0 where
  pub parent : IsParent a n
  pub cut : IsCutName a (rightmost a.name n) (rightmost a.name c)
  pub next : Option ℕ
  pub next_is : IsNext a n next
  pub by : IsShown a n next c ⊎ IsProvingCut a (rightmost a.name n) (rightmost a.name (c - 1)) (rightmost a.name c)

-- the name is a way by the zone, and nothing proves an unsigned zone at or above it
pub record IsTrueOfDs (a : Asking) (told : DsUnproved) : Type 0 where
  pub n : ℕ
  pub c : ℕ
  pub zone : told.zone ≡ rightmost a.name n
  pub name : told.name ≡ rightmost a.name c
  pub way : IsWay a n c
  pub none : (cut : Labels) → IsUnsignedFrom (IsSecured a.basis.meaning a.basis.moment a.basis.rrsets a.basis.anchors) a.basis.rrsets
      a.name a.rtype cut
      → ¬ IsAtOrBelow told.name cut
