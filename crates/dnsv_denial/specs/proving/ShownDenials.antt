-- How the first proof of a denial is shown: by which chain, in which form, and by which record each of its parts.
use Rattle.std.specs.Prelude.{◌≡◌, ◌<◌, ◌≤◌, ℕ, List, length}
use Rattle.dnsv_names.specs.Name.{Labels, rightmost}
use Rattle.dnsv_zones.specs.forms.Forms.{NoNameForm, NoDataForms, NoCloserForm}
use Rattle.dnsv_zones.specs.forms.RecordWords.{RecordWords, words}
use Rattle.dnsv_canonical.specs.Rrsets.{ReceivedRrset}
use Rattle.dnsv_proof_forms.specs.forms.ProofForms.{ShowsNoName, ShowsNoData, ShowsNoCloser, form_records}
use Rattle.dnsv_denial.specs.proving.FirstProof.{AreRecordsOf, IsFirstOfZone}
use Rattle.dnsv_denial.specs.gathering.EvidenceWords.{Chain, GoesBefore, evidence_said}
use Rattle.dnsv_proof_forms.specs.records.Numbers.{number_cmp}
use Rattle.dnsv_denial.specs.gathering.EvidenceWords.Chain.{ByNsec, ByNsec3}
use Rattle.dnsv_proof_forms.specs.declared.forms.proof_form.ProofForm.{ProofForm}
use Rattle.dnsv_denial.specs.declared.proving.shown_denial.ShownDenial.{ShownDenial}
use Rattle.dnsv_proof_forms.specs.declared.records.chain_kind.ChainKind.{ChainKind}
use Rattle.dnsv_proof_forms.specs.declared.records.chain_kind.ChainKind.TheVariants.{Nsec, Nsec3}
use Rattle.dnsv_canonical.specs.declared.number.RecordNumber.{RecordNumber}

-- which records the chain has
abbrev pub kind_of : Chain → ChainKind
kind_of ByNsec = Nsec
kind_of (ByNsec3 parameters) = Nsec3

-- It is shown by the zone with most labels that has a proof, and of that by its first chain that has one, in the form
-- that `Shows` tells. `Stands` says that records prove it. The proof has the records of the form's parts.
pub record IsFirstShown
    (Secured : ℕ → ℕ → Type 0) (rrsets : List ReceivedRrset) (name : Labels)
    (Stands : RecordWords RecordNumber → Labels → Type 0) (Shows : RecordWords RecordNumber → Labels → ProofForm RecordNumber → Type 0) (shown : ShownDenial) : Type 0 where
  pub labels : ℕ
  pub at_or_above : labels ≤ length name
  pub zone : shown.proof.zone ≡ rightmost name labels
  pub chain : Chain
  pub kind : shown.chain ≡ kind_of chain
  pub most_labels : (more : ℕ) (other : Chain) → labels < more → more ≤ length name
      → ¬ Stands (evidence_said Secured rrsets (rightmost name more) other) (rightmost name more)
  pub first : (other : Chain) → GoesBefore other chain
      → ¬ Stands (evidence_said Secured rrsets shown.proof.zone other) shown.proof.zone
  pub shows : Shows (evidence_said Secured rrsets shown.proof.zone chain) shown.proof.zone shown.form
  pub records : AreRecordsOf (form_records shown.form) shown.proof.records

abbrev pub IsShownNoName : (ℕ → ℕ → Type 0) → List ReceivedRrset → Labels → ShownDenial → Type 0
IsShownNoName Secured rrsets name =
    IsFirstShown Secured rrsets name (λ said zone. NoNameForm (words said) zone name)
    (λ said zone. ShowsNoName number_cmp said zone name)

abbrev pub IsShownNoData : (ℕ → ℕ → Type 0) → List ReceivedRrset → Labels → ℕ → ShownDenial → Type 0
IsShownNoData Secured rrsets name t =
    IsFirstShown Secured rrsets name (λ said zone. NoDataForms (words said) zone name t)
    (λ said zone. ShowsNoData number_cmp said zone name t)

-- in a zone that is known; the proof has it as the name spells it
pub record IsShownNoCloser
    (Secured : ℕ → ℕ → Type 0) (rrsets : List ReceivedRrset) (name : Labels) (labels : ℕ) (apex : Labels)
    (shown : ShownDenial) : Type 0 where
  pub zone : shown.proof.zone ≡ rightmost name (length apex)
  pub chain : Chain
  pub kind : shown.chain ≡ kind_of chain
  pub first : IsFirstOfZone Secured rrsets (λ said each. NoCloserForm said each name labels) apex chain
  pub shows : ShowsNoCloser number_cmp (evidence_said Secured rrsets apex chain) apex name labels shown.form
  pub records : shown.proof.records ≡ form_records shown.form
