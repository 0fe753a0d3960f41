-- The records of a chain, as a view hands them to a form, and what is proved by them. No public clause cites this
-- module.
use Rattle.std.specs.Prelude.{◌≡◌, ◌≤◌, ℕ, List, length}
use Rattle.dnsv_names.specs.Name.{Labels, rightmost}
use Rattle.dnsv_zones.specs.chains.Rdata.{parameters_of}
use Rattle.dnsv_canonical.specs.Rrsets.{ReceivedRrset}
use Rattle.dnsv_proof_forms.specs.forms.Denials.{DenialForm}
use Rattle.dnsv_proof_forms.specs.forms.ProofForms.{form_records}
use Rattle.dnsv_proof_forms.specs.forms.ShownUnsigned.{ShowsDenial}
use Rattle.dnsv_denial.specs.gathering.Gathered.{AreNsecsOf, AreNsec3sOf}
use Rattle.dnsv_denial.specs.proving.FirstProof.{AreRecordsOf}
use Rattle.dnsv_denial.specs.proving.ShownDenials.{kind_of}
use Rattle.dnsv_denial.specs.gathering.EvidenceWords.{Chain, evidence_said}
use Rattle.dnsv_proof_forms.specs.records.Numbers.{number_cmp}
use Rattle.dnsv_denial.specs.gathering.EvidenceWords.Chain.{ByNsec, ByNsec3}
use Rattle.dnsv_proof_forms.specs.declared.forms.denial.Denial.{Denial}
use Rattle.dnsv_denial.specs.declared.proving.shown_denial.ShownDenial.{ShownDenial}
use Rattle.dnsv_proof_forms.specs.declared.records.chain_kind.ChainKind.{ChainKind}
use Rattle.dnsv_proof_forms.specs.declared.records.chain_kind.ChainKind.TheVariants as kind
use Rattle.dnsv_proof_forms.specs.declared.records.chain_records.ChainRecords.{ChainRecords}
use Rattle.dnsv_proof_forms.specs.declared.records.chain_records.ChainRecords.TheVariants.{Nsec, Nsec3}

-- the records are those of the zone's chain
abbrev pub IsChainOf : (ℕ → ℕ → Type 0) → List ReceivedRrset → Labels → Chain → ChainRecords → Type 0
IsChainOf Secured rrsets zone ByNsec (Nsec entries) = AreNsecsOf Secured rrsets zone entries.now
IsChainOf Secured rrsets zone ByNsec (Nsec3 hashed) = ⊥
IsChainOf Secured rrsets zone (ByNsec3 parameters) (Nsec entries) = ⊥
IsChainOf Secured rrsets zone (ByNsec3 parameters) (Nsec3 hashed) =
    AreNsec3sOf Secured rrsets zone hashed.now.entries.now × (parameters_of hashed.now.parameters.now ≡ parameters)

-- which records there are
abbrev pub kind_of_records : ChainRecords → ChainKind
kind_of_records (Nsec entries) = kind.Nsec
kind_of_records (Nsec3 hashed) = kind.Nsec3

-- its form stands by the chain's records among the evidence
abbrev pub StandsAs : (ℕ → ℕ → Type 0) → List ReceivedRrset → Denial → Labels → Labels → Chain → Type 0
StandsAs Secured rrsets denial name zone chain = DenialForm denial name (evidence_said Secured rrsets zone chain) zone

-- it stands by a chain of some zone at or above the name
abbrev pub CanBeShown : (ℕ → ℕ → Type 0) → List ReceivedRrset → Denial → Labels → Type 0
CanBeShown Secured rrsets denial name =
    (labels : ℕ) × (labels ≤ length name) × (chain : Chain)
    × StandsAs Secured rrsets denial name (rightmost name labels) chain

-- the denial is shown by the chain of the zone, in the form that stands first of those that prove it
pub record IsShownBy
    (Secured : ℕ → ℕ → Type 0) (rrsets : List ReceivedRrset) (denial : Denial) (name zone : Labels) (chain : Chain)
    (shown : ShownDenial) : Type 0 where
  pub its_zone : shown.proof.zone ≡ zone
  pub kind : shown.chain ≡ kind_of chain
  pub shows : ShowsDenial number_cmp denial name (evidence_said Secured rrsets zone chain) zone shown.form
  pub records : AreRecordsOf (form_records shown.form) shown.proof.records
