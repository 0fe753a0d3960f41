-- The lines of a denial: the derivation of each of its records, the case of one from which on a name may be unsigned, the
-- proof, and its parts (RFC 4035 5.2, 5.4, RFC 5155 8, 9.2).
use Rattle.std.specs.Prelude.{◌≡◌, ◌≤◌, ℕ, List, [], Option, Some, None, Contains, length}
use Rattle.std.specs.Option.{option_map}
use Rattle.dnsv_names.specs.Name.{Labels, SameName, rightmost}
use Rattle.dnsv_zones.specs.forms.Parts.{OptsOut}
use Rattle.dnsv_canonical.specs.Rrsets.{IsNumbered, ReceivedRrset}
use Rattle.dnsv_chain.specs.Trust.{KeptTrust, SecuredIn}
use Rattle.dnsv_proof_forms.specs.forms.Denials.{IsDelegationAt}
use Rattle.dnsv_proof_forms.specs.forms.ProofForms.{form_encloser}
use Rattle.dnsv_proof_forms.specs.forms.ShownUnsigned.{ShowsDelegation, ShowsOptOut}
use Rattle.dnsv_proof_forms.specs.forms.ProofParts.{IsPartName, form_parts, part_name}
use Rattle.dnsv_denial.specs.proving.ShownDenials.{IsFirstShown, IsShownNoCloser, IsShownNoData, IsShownNoName}
use Rattle.dnsv_denial.specs.unsigned_cuts.ShownCut.{IsShownOptOutCloser}
use Rattle.dnsv_proof_forms.specs.records.Numbers.{number_cmp}
use Rattle.dnsv_proof_forms.specs.declared.forms.proof_form.ProofForm.{ProofForm}
use Rattle.dnsv_proof_forms.specs.declared.forms.proof_form.ProofForm.TheVariants as shown_form
use Rattle.dnsv_proof_forms.specs.declared.forms.proof_part.PartName.{PartName}
use Rattle.dnsv_proof_forms.specs.declared.forms.proof_part.PartName.TheVariants as part
use Rattle.dnsv_proof_forms.specs.declared.forms.proof_part.PartRelation.{PartRelation}
use Rattle.dnsv_proof_forms.specs.declared.forms.proof_part.PartRelation.TheVariants as related
use Rattle.dnsv_proof_forms.specs.declared.forms.proof_part.ProofPart.{ProofPart}
use Rattle.dnsv_denial.specs.declared.proving.shown_denial.ShownDenial.{ShownDenial}
use Rattle.dnsv_proof_forms.specs.declared.records.chain_kind.ChainKind.{ChainKind}
use Rattle.dnsv_proof_forms.specs.declared.records.chain_kind.ChainKind.TheVariants as kind
use Rattle.dnsv_canonical.specs.declared.number.RecordNumber.{RecordNumber}
use Rattle.dnsv_derivations.specs.Explained.{Setting}
use Rattle.dnsv_derivations.specs.Following.Parts.{IsPlaceOfRecord}
use Rattle.dnsv_derivations.specs.derivations.OwnDerivations.{AreRecordsDerived, IsSignatureTold, IsTrustIn}
use Rattle.dnsv_derivations.specs.Saying.{AreBoth, AreEach, IsOnce}
use Rattle.dnsv_derivations.specs.unsigned_cuts.UnsignedCuts.{IsCaseTold}
use Rattle.dnsv_lines.specs.declared.line.Line.{Line}
use Rattle.dnsv_lines.specs.declared.line.Line.TheVariants as line
use Rattle.dnsv_lines.specs.declared.line.cut.InsecureCase.{InsecureCase}
use Rattle.dnsv_lines.specs.declared.line.cut.InsecureCase.TheVariants as case
use Rattle.dnsv_lines.specs.declared.line.denial.Chain.{Chain}
use Rattle.dnsv_lines.specs.declared.line.denial.Chain.TheVariants as chain
use Rattle.dnsv_lines.specs.declared.line.denial.Form.{Form}
use Rattle.dnsv_lines.specs.declared.line.denial.Form.TheVariants as form
use Rattle.dnsv_lines.specs.declared.line.denial.Part.{Part}
use Rattle.dnsv_lines.specs.declared.line.denial.Proof.{Proof}
use Rattle.dnsv_lines.specs.declared.line.denial.RecordPlace.{RecordPlace}
use Rattle.dnsv_lines.specs.declared.line.denial.Relation.{Relation}
use Rattle.dnsv_lines.specs.declared.line.denial.Relation.TheVariants as relation
use Rattle.dnsv_lines.specs.declared.line.denial.Role.{Role}
use Rattle.dnsv_lines.specs.declared.line.denial.Role.TheVariants as role
use Rattle.dnsv_canonical.specs.declared.number.SignatureNumber.{SignatureNumber}

-- ---- what is shown

-- The evidence shows this of the name, by the signatures that are good as the trust keeps them: that it isn't there, that
-- a type isn't, or that no closer name is there; that a delegation without DS is at its so many rightmost labels; or that
-- Opt-Out may leave one out below a closest encloser of so many, also against an answer from the wildcard there.
pub data IsShownBy (trust : KeptTrust) (rrsets : List ReceivedRrset) (name : Labels) (shown : ShownDenial) : Type 0 where
  no_name : IsShownNoName (SecuredIn trust) rrsets name shown → IsShownBy trust rrsets name shown
  no_data : (t : ℕ) → IsShownNoData (SecuredIn trust) rrsets name t shown → IsShownBy trust rrsets name shown
  no_closer : (labels : ℕ) (zone : Labels) → IsShownNoCloser (SecuredIn trust) rrsets name labels zone shown
      → IsShownBy trust rrsets name shown
  no_ds : (labels : ℕ) → IsFirstShown (SecuredIn trust) rrsets name (λ said zone. IsDelegationAt said zone name labels)
      (λ said zone. ShowsDelegation number_cmp said zone name labels) shown
      → IsShownBy trust rrsets name shown
  opted_out : (labels : ℕ) → IsFirstShown (SecuredIn trust) rrsets name (λ said zone. OptsOut said zone name labels)
      (λ said zone. ShowsOptOut number_cmp said zone name labels) shown
      → IsShownBy trust rrsets name shown
  closer_opted_out : (labels : ℕ) (zone : Labels)
      → IsShownOptOutCloser (SecuredIn trust) rrsets name labels zone shown → IsShownBy trust rrsets name shown

-- by the trust of the setting
abbrev pub IsShownDenial : Setting → Labels → ShownDenial → Type 0
IsShownDenial setting name shown = (trust : KeptTrust) × IsTrustIn setting trust × IsShownBy trust setting.rrsets name shown

-- ---- the case

-- that of a form which shows that a name may be unsigned, and from which name on
abbrev pub told_case : ProofForm RecordNumber → Option (InsecureCase × PartName)
told_case (shown_form.NoName parts) = None
told_case (shown_form.NoData number) = None
told_case (shown_form.EmptyNonTerminal number) = None
told_case (shown_form.WildcardNoData parts) = None
told_case (shown_form.EmptyWildcard parts) = None
told_case (shown_form.NoCloser labels number) = None
told_case (shown_form.Delegation labels number) = Some (case.UnsignedDelegation, part.Cut labels)
told_case (shown_form.OptOut labels encloser number) = Some (case.OptOut, part.NextCloser labels)
told_case (shown_form.WildcardOptOut parts) = Some (case.OptOut, part.NextCloser parts.labels)
told_case (shown_form.OptOutCloser labels number) = Some (case.OptOutWildcard, part.NextCloser labels)

-- the question has such a name, where there is a case
abbrev pub FitsCase : Labels → Option (InsecureCase × PartName) → Type 0
FitsCase question None = Unit {0}
FitsCase question (Some which) = IsPartName (length question) which.1

-- the case is told, where there is one, with the zone whose records show it
abbrev pub IsCaseFor : Option (InsecureCase × PartName) → Labels → Labels → List Line → List Line → Type 0
IsCaseFor None question zone before lines = lines ≡ []
IsCaseFor (Some which) question zone before lines =
    IsCaseTold which.0 (part_name question which.1) (Some zone) before lines

-- ---- the proof

-- a delegation without DS is told by its case alone
abbrev pub told_form : ProofForm RecordNumber → Option Form
told_form (shown_form.NoName parts) = Some form.NoName
told_form (shown_form.NoData number) = Some form.NoData1
told_form (shown_form.EmptyNonTerminal number) = Some form.NoData2
told_form (shown_form.WildcardNoData parts) = Some form.NoData3
told_form (shown_form.EmptyWildcard parts) = Some form.NoData4
told_form (shown_form.NoCloser labels number) = Some form.NoCloser
told_form (shown_form.Delegation labels number) = None
told_form (shown_form.OptOut labels encloser number) = Some form.OptOut
told_form (shown_form.WildcardOptOut parts) = Some form.OptOut
told_form (shown_form.OptOutCloser labels number) = Some form.OptOut

abbrev pub told_chain : ChainKind → Chain
told_chain kind.Nsec = chain.Nsec
told_chain kind.Nsec3 = chain.Nsec3

-- how the denial of the name, which has the form, is told
pub record IsProofLine (form : Form) (name : Labels) (shown : ShownDenial) (proof : Proof) : Type 0 where
  pub its_form : proof.form ≡ form
  pub chain : proof.chain ≡ told_chain shown.chain
  pub zone : proof.zone ≡ shown.proof.zone
  pub encloser : proof.encloser ≡ option_map (rightmost name) (form_encloser shown.form)

-- the name has as many labels as the closest encloser, where there is one
abbrev pub FitsEncloser : Labels → Option ℕ → Type 0
FitsEncloser name None = Unit {0}
FitsEncloser name (Some labels) = labels ≤ length name

-- there are two of the name, or none
abbrev pub SameEncloser : Option Labels → Option Labels → Type 0
SameEncloser None None = Unit {0}
SameEncloser None (Some b) = ⊥
SameEncloser (Some a) None = ⊥
SameEncloser (Some a) (Some b) = SameName a b

-- the two have the same text
pub record IsSameProof (a b : Proof) : Type 0 where
  pub form : a.form ≡ b.form
  pub chain : a.chain ≡ b.chain
  pub zone : SameName a.zone b.zone
  pub encloser : SameEncloser a.encloser b.encloser

pub record IsProofSaid (proof : Proof) (before : List Line) : Type 0 where
  pub said : Proof
  pub among : Contains before (line.Proof said)
  pub same : IsSameProof said proof

-- the proof of the form is told
pub record IsFormTold (form : Form) (name : Labels) (shown : ShownDenial) (before lines : List Line) : Type 0 where
  pub proof : Proof
  pub is : IsProofLine form name shown proof
  pub once : IsOnce (IsProofSaid proof) (line.Proof proof) before lines

-- where the form has one
abbrev pub IsProofOf : Option Form → Labels → ShownDenial → List Line → List Line → Type 0
IsProofOf None name shown before lines = lines ≡ []
IsProofOf (Some form) name shown before lines = IsFormTold form name shown before lines

abbrev pub IsProofTold : Labels → ShownDenial → List Line → List Line → Type 0
IsProofTold name shown = IsProofOf (told_form shown.form) name shown

-- ---- its parts

abbrev pub told_role : PartName → Role
told_role (part.ClosestEncloser labels) = role.ClosestEncloser
told_role (part.NextCloser labels) = role.NextCloser
told_role (part.Wildcard labels) = role.Wildcard
told_role part.Name = role.Name
told_role (part.Cut labels) = role.Cut

abbrev pub told_relation : PartRelation → Relation
told_relation related.Matched = relation.Matched
told_relation related.Exists = relation.Exists
told_relation related.Covered = relation.Covered
told_relation related.NonTerminal = relation.NonTerminal
told_relation related.OptOut = relation.OptOut
told_relation related.Apex = relation.Apex

-- the record's RRset is there
abbrev pub HasRrset : List ReceivedRrset → Option RecordNumber → Type 0
HasRrset rrsets None = Unit {0}
HasRrset rrsets (Some number) = (rrset : ReceivedRrset) × IsNumbered rrsets number.rrset rrset

-- the question has such a name, and the evidence the record
pub record IsPartFit (rrsets : List ReceivedRrset) (question : Labels) (part : ProofPart) : Type 0 where
  pub name : IsPartName (length question) part.name
  pub by : HasRrset rrsets part.by

-- the record with the number, with the owner and the type of its RRset
abbrev pub IsTellingOf : List ReceivedRrset → Option RecordNumber → Option RecordPlace → Type 0
IsTellingOf rrsets None None = Unit {0}
IsTellingOf rrsets None (Some by) = ⊥
IsTellingOf rrsets (Some number) None = ⊥
IsTellingOf rrsets (Some number) (Some by) = (by.number ≡ number) × IsPlaceOfRecord rrsets by

-- how the part of a proof for the question's name is told
pub record IsPartLine (rrsets : List ReceivedRrset) (question : Labels) (shown : ProofPart) (told : Part) : Type 0 where
  pub role : told.role ≡ told_role shown.name
  pub relation : told.relation ≡ told_relation shown.relation
  pub name : told.name ≡ part_name question shown.name
  pub by : IsTellingOf rrsets shown.by told.by

-- the number of the record, where there is one
abbrev pub number_told : Option RecordPlace → Option RecordNumber
number_told None = None
number_told (Some by) = Some by.number

-- the two have the same text
pub record IsSamePart (a b : Part) : Type 0 where
  pub role : a.role ≡ b.role
  pub relation : a.relation ≡ b.relation
  pub name : SameName a.name b.name
  pub by : number_told a.by ≡ number_told b.by

pub record IsPartSaid (part : Part) (before : List Line) : Type 0 where
  pub said : Part
  pub among : Contains before (line.Part said)
  pub same : IsSamePart said part

-- the part is told
pub record IsPartTold
    (rrsets : List ReceivedRrset) (question : Labels) (shown : ProofPart) (before lines : List Line) : Type 0 where
  pub part : Part
  pub is : IsPartLine rrsets question shown part
  pub once : IsOnce (IsPartSaid part) (line.Part part) before lines

-- ---- the denial

-- the case and the proof, each where the form has one, and then the parts in the order of the form
abbrev pub IsProofWithParts : List ReceivedRrset → Labels → ShownDenial → List Line → List Line → Type 0
IsProofWithParts rrsets name shown =
    AreBoth (IsCaseFor (told_case shown.form) name shown.proof.zone)
    (AreBoth (IsProofTold name shown) (AreEach (IsPartTold rrsets name) (form_parts shown.chain shown.form)))

-- the records are derived, in the order of their numbers, and the case and the proof are told with its parts
abbrev pub IsDenialTold : Setting → Labels → ShownDenial → List Line → List Line → Type 0
IsDenialTold setting name shown =
    AreBoth (AreRecordsDerived setting shown.proof.zone shown.proof.records) (IsProofWithParts setting.rrsets name shown)

-- The signature is derived, and it is told that no closer name is there than the wildcard behind it, or that Opt-Out may
-- leave one out (RFC 4035 5.3.4, RFC 5155 8.8).
abbrev pub IsExpandedTold : Setting → Labels → SignatureNumber → ShownDenial → List Line → List Line → Type 0
IsExpandedTold setting name number shown = AreBoth (IsSignatureTold setting number) (IsDenialTold setting name shown)
