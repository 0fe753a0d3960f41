-- What is shown by the signatures that a trust keeps as good is so by those that are.
use Rattle.std.proofs.Common.{ℕ, List, [], ◌∷◌, Option, Some, None}
use Rattle.std.specs.List.{AllByRecursion}
use Rattle.dnsv_names.specs.Name.{Labels}
use Rattle.dnsv_canonical.specs.Rrsets.{ReceivedRrset}
use Rattle.dnsv_chain.specs.Trust.{KeptTrust, SecuredIn as KeptIn}
use Rattle.dnsv_proof_forms.specs.forms.ProofForms.{form_records}
use Rattle.dnsv_proof_forms.specs.forms.ProofParts.{form_parts, part_name}
use Rattle.dnsv_denial.specs.proving.ShownDenials.{kind_of}
use Rattle.dnsv_denial.specs.gathering.EvidenceWords.{Chain}
use Rattle.dnsv_proof_forms.specs.declared.forms.proof_form.ProofForm.{ProofForm}
use Rattle.dnsv_proof_forms.specs.declared.forms.proof_part.PartName.{PartName}
use Rattle.dnsv_proof_forms.specs.declared.forms.proof_part.PartRelation.{PartRelation}
use Rattle.dnsv_proof_forms.specs.declared.forms.proof_part.ProofPart.{ProofPart}
use Rattle.dnsv_canonical.specs.declared.number.RecordNumber.{RecordNumber}
use Rattle.dnsv_derivations.specs.Explained.{Setting}
use Rattle.dnsv_derivations.specs.Denials.{told_relation, told_role}
use Rattle.dnsv_derivations.specs.derivations.OwnDerivations.{IsTrustIn, SecuredIn}
use Rattle.dnsv_derivations.proofs.lemmas.denials.FormLemmas.{AreShownParts, FormFacts, IsSigned, PartSays}
use Rattle.dnsv_derivations.proofs.lemmas.denials.PartLemmas.{secured_too, word_by, word_signed}

pub kept_good : (setting : Setting) (trust : KeptTrust) → IsTrustIn setting trust → (k s : ℕ) → KeptIn trust k s → SecuredIn setting k s
kept_good setting trust is k s kept = ((is.signed k).members s).0 kept

module _ (S T : ℕ → ℕ → Type 0) (more : (k s : ℕ) → S k s → T k s) (rrsets : List ReceivedRrset) (apex name : Labels) (chain : Chain) where
  says_too : (of : PartName) (related : PartRelation) (by : Option RecordNumber) → PartSays S rrsets apex name chain of related by
      → PartSays T rrsets apex name chain of related by
  says_too of related None says = says
  says_too of related (Some number) says =
      word_by S rrsets apex number T
      (secured_too S T rrsets apex number.rrset (more number.rrset)
      (word_signed S rrsets apex number chain (told_role of) (told_relation related) (part_name name of) says))
      chain (told_role of) (told_relation related) (part_name name of) says

  parts_too : (parts : List ProofPart) → AreShownParts S rrsets apex name chain parts → AreShownParts T rrsets apex name chain parts
  parts_too [] shown = tt
  parts_too (part ∷ parts) shown = (
    record { within = shown.0.within; says = says_too part.name part.relation part.by shown.0.says },
    parts_too parts shown.1,
  )

  records_too : (records : List RecordNumber) → AllByRecursion (IsSigned S rrsets apex name) records
      → AllByRecursion (IsSigned T rrsets apex name) records
  records_too [] signed = tt
  records_too (number ∷ records) signed =
      (secured_too S T rrsets apex number.rrset (more number.rrset) signed.0, records_too records signed.1)

  pub facts_too : (shape : ProofForm RecordNumber) → FormFacts S rrsets apex name chain shape → FormFacts T rrsets apex name chain shape
  facts_too shape facts = record {
    parts = parts_too (form_parts (kind_of chain) shape) facts.parts;
    encloser = facts.encloser;
    case = facts.case;
    records = records_too (form_records shape) facts.records;
  }
