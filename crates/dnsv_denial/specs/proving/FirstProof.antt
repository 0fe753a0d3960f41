-- When the evidence proves a denial, and which proof is the first: by the zone with most labels, by NSEC before NSEC3,
-- and then as its form chooses.
use Rattle.std.specs.Prelude.{◌≡◌, ◌↔◌, ◌<◌, ◌≤◌, ℕ, List, [], ◌∷◌, length, Contains}
use Rattle.std.specs.List.Sorted.{IsStrictlySortedBy}
use Rattle.dnsv_names.specs.Name.{Labels, rightmost}
use Rattle.dnsv_zones.specs.forms.Forms.{Words, NoNameForm, NoDataForms, NoCloserForm}
use Rattle.dnsv_zones.specs.forms.Parts.{AreNoNameParts, AreNoDataParts, IsNoCloserPart}
use Rattle.dnsv_zones.specs.forms.RecordWords.{RecordWords, words}
use Rattle.dnsv_canonical.specs.Rrsets.{ReceivedRrset}
use Rattle.dnsv_denial.specs.gathering.EvidenceWords.{Chain, GoesBefore, evidence_said}
use Rattle.dnsv_proof_forms.specs.records.Numbers.{number_cmp}
use Rattle.dnsv_canonical.specs.declared.number.RecordNumber.{RecordNumber}

-- a proof as it is given: the zone, and its records by their numbers
pub record ProofRecords : Type 0 where
  pub zone : Labels
  pub records : List RecordNumber

-- the records of these parts of a proof, each once, in the order of their numbers
pub record AreRecordsOf (parts records : List RecordNumber) : Type 0 where
  pub rising : IsStrictlySortedBy number_cmp records
  pub members : (number : RecordNumber) → Contains records number ↔ Contains parts number

-- the form stands by the chain's records among the evidence
abbrev pub StandsBy
    : (ℕ → ℕ → Type 0) → List ReceivedRrset → (Words → Labels → Type 0) → Labels → Chain → Type 0
StandsBy Secured rrsets Form zone chain = Form (words (evidence_said Secured rrsets zone chain)) zone

-- it stands by a chain of some zone at or above the name, which has so many of its rightmost labels
abbrev pub CanBeProved : (ℕ → ℕ → Type 0) → List ReceivedRrset → Labels → (Words → Labels → Type 0) → Type 0
CanBeProved Secured rrsets name Form =
    (labels : ℕ) × (labels ≤ length name) × (chain : Chain)
    × StandsBy Secured rrsets Form (rightmost name labels) chain

-- it stands by no chain of the zone that goes before this one
abbrev pub IsFirstOfZone
    : (ℕ → ℕ → Type 0) → List ReceivedRrset → (Words → Labels → Type 0) → Labels → Chain → Type 0
IsFirstOfZone Secured rrsets Form zone chain =
    (other : Chain) → GoesBefore other chain → ¬ StandsBy Secured rrsets Form zone other

-- The proof is the first. `Parts` says which records the form chooses.
pub record IsFirstProof
    (Secured : ℕ → ℕ → Type 0) (rrsets : List ReceivedRrset) (name : Labels) (Form : Words → Labels → Type 0)
    (Parts : RecordWords RecordNumber → Labels → List RecordNumber → Type 0) (proof : ProofRecords) : Type 0 where
  pub labels : ℕ
  pub at_or_above : labels ≤ length name
  pub zone : proof.zone ≡ rightmost name labels
  pub chain : Chain
  pub stands : StandsBy Secured rrsets Form proof.zone chain
  pub most_labels : (more : ℕ) (other : Chain) → labels < more → more ≤ length name
      → ¬ StandsBy Secured rrsets Form (rightmost name more) other
  pub first : IsFirstOfZone Secured rrsets Form proof.zone chain
  pub parts : List RecordNumber
  pub chosen : Parts (evidence_said Secured rrsets proof.zone chain) proof.zone parts
  pub records : AreRecordsOf parts proof.records

-- ---- no such name

abbrev pub CanProveNoName : (ℕ → ℕ → Type 0) → List ReceivedRrset → Labels → Type 0
CanProveNoName Secured rrsets name = CanBeProved Secured rrsets name (λ said zone. NoNameForm said zone name)

abbrev pub IsFirstNoName : (ℕ → ℕ → Type 0) → List ReceivedRrset → Labels → ProofRecords → Type 0
IsFirstNoName Secured rrsets name =
    IsFirstProof Secured rrsets name (λ said zone. NoNameForm said zone name)
    (λ said zone. AreNoNameParts number_cmp said zone name)

-- ---- no data

abbrev pub CanProveNoData : (ℕ → ℕ → Type 0) → List ReceivedRrset → Labels → ℕ → Type 0
CanProveNoData Secured rrsets name t = CanBeProved Secured rrsets name (λ said zone. NoDataForms said zone name t)

abbrev pub IsFirstNoData : (ℕ → ℕ → Type 0) → List ReceivedRrset → Labels → ℕ → ProofRecords → Type 0
IsFirstNoData Secured rrsets name t =
    IsFirstProof Secured rrsets name (λ said zone. NoDataForms said zone name t)
    (λ said zone. AreNoDataParts number_cmp said zone name t)

-- ---- no closer name, in a zone that is known

abbrev pub CanProveNoCloser : (ℕ → ℕ → Type 0) → List ReceivedRrset → Labels → ℕ → Labels → Type 0
CanProveNoCloser Secured rrsets name labels zone =
    (chain : Chain) × StandsBy Secured rrsets (λ said apex. NoCloserForm said apex name labels) zone chain

-- the proof has the zone as the name spells it
pub record IsFirstNoCloser
    (Secured : ℕ → ℕ → Type 0) (rrsets : List ReceivedRrset) (name : Labels) (labels : ℕ) (apex : Labels)
    (proof : ProofRecords) : Type 0 where
  pub zone : proof.zone ≡ rightmost name (length apex)
  pub chain : Chain
  pub stands : StandsBy Secured rrsets (λ said each. NoCloserForm said each name labels) apex chain
  pub first : IsFirstOfZone Secured rrsets (λ said each. NoCloserForm said each name labels) apex chain
  pub part : RecordNumber
  pub chosen : IsNoCloserPart number_cmp (evidence_said Secured rrsets apex chain) apex name labels part
  pub records : proof.records ≡ part ∷ []
