-- What is so of names that may be unsigned by what records of a zone say, and which case that is.
use Rattle.std.proofs.Common.{◌≡◌, ◌+◌, ℕ, List, [], ◌∷◌, ◌++◌, Option, Some, None, ap, refl, arith}
use Rattle.std.specs.List.{AllByRecursion}
use Rattle.dnsv_names.specs.Name.{Labels, rightmost}
use Rattle.dnsv_zones.specs.forms.Forms.{IsAbove}
use Rattle.dnsv_zones.specs.forms.RecordWords.{RecordWords}
use Rattle.dnsv_canonical.specs.Rrsets.{ReceivedRrset}
use Rattle.dnsv_proof_forms.specs.forms.ProofForms.{ShowsNoCloser, ShowsNoData, ShowsNoName}
use Rattle.dnsv_proof_forms.specs.forms.ProofForms.ShowsNoCloser.{no_closer as closer_shown}
use Rattle.dnsv_proof_forms.specs.forms.ProofForms.ShowsNoData.{at_name, empty, at_wildcard, empty_wildcard}
use Rattle.dnsv_proof_forms.specs.forms.ProofForms.ShowsNoName.{no_name as name_shown}
use Rattle.dnsv_proof_forms.specs.forms.ShownUnsigned.{ShowsDelegation, ShowsOptOut, ShowsOptOutCloser}
use Rattle.dnsv_proof_forms.specs.forms.ShownUnsigned.ShowsDelegation.{delegation}
use Rattle.dnsv_proof_forms.specs.forms.ShownUnsigned.ShowsOptOut.{opt_out, wildcard_opt_out}
use Rattle.dnsv_proof_forms.specs.forms.ShownUnsigned.ShowsOptOutCloser.{opt_out_closer}
use Rattle.dnsv_proof_forms.specs.records.RecordsAt.{listed}
use Rattle.dnsv_denial.specs.gathering.EvidenceWords.{Chain, evidence_said}
use Rattle.dnsv_proof_forms.specs.records.Numbers.{number_cmp}
use Rattle.dnsv_proof_forms.specs.declared.forms.proof_form.ProofForm.{ProofForm}
use Rattle.dnsv_proof_forms.specs.declared.forms.proof_part.PartName.TheVariants as part
use Rattle.dnsv_proof_forms.specs.declared.forms.proof_part.PartRelation.TheVariants as related
use Rattle.dnsv_canonical.specs.declared.number.RecordNumber.{RecordNumber}
use Rattle.dnsv_derivations.specs.Denials.{told_case}
use Rattle.dnsv_lines.specs.declared.line.cut.InsecureCase.TheVariants as case
use Rattle.dnsv_lines.specs.declared.line.denial.Relation.TheVariants as relation
use Rattle.dnsv_lines.specs.declared.line.denial.Role.TheVariants as role
use Rattle.dnsv_derivations.proofs.lemmas.denials.FormLemmas.{EncloserSigned, FormFacts, IsSigned, encloser_says, encloser_signed, wildcard_records_signed, wildcard_says}
use Rattle.dnsv_derivations.proofs.lemmas.denials.PartLemmas.{word_signed}

-- ---- which case a form has

module _ (said : RecordWords RecordNumber) (apex name : Labels) where
  pub no_name_case : (shape : ProofForm RecordNumber) → ShowsNoName number_cmp said apex name shape → told_case shape ≡ None
  no_name_case shape (name_shown parts shows) = refl

  pub no_data_case : (t : ℕ) (shape : ProofForm RecordNumber) → ShowsNoData number_cmp said apex name t shape → told_case shape ≡ None
  no_data_case t shape (at_name number shows) = refl
  no_data_case t shape (empty number shows) = refl
  no_data_case t shape (at_wildcard parts shows) = refl
  no_data_case t shape (empty_wildcard parts shows) = refl

  module _ (labels : ℕ) where
    pub no_closer_case : (shape : ProofForm RecordNumber) → ShowsNoCloser number_cmp said apex name labels shape → told_case shape ≡ None
    no_closer_case shape (closer_shown number shows) = refl

    pub delegation_case : (shape : ProofForm RecordNumber) → ShowsDelegation number_cmp said apex name labels shape
        → told_case shape ≡ Some (case.UnsignedDelegation, part.Cut labels)
    delegation_case shape (delegation number shows) = refl

    pub opt_out_case : (shape : ProofForm RecordNumber) → ShowsOptOut number_cmp said apex name labels shape
        → told_case shape ≡ Some (case.OptOut, part.NextCloser labels)
    opt_out_case shape (opt_out by number shows) = refl
    opt_out_case shape (wildcard_opt_out parts same shows) = ap (λ n. Some (case.OptOut, part.NextCloser n)) same

    pub out_closer_case : (shape : ProofForm RecordNumber) → ShowsOptOutCloser number_cmp said apex name labels shape
        → told_case shape ≡ Some (case.OptOutWildcard, part.NextCloser labels)
    out_closer_case shape (opt_out_closer number shows) = refl

-- ---- what is so of it

module _ (S : ℕ → ℕ → Type 0) (rrsets : List ReceivedRrset) (apex name : Labels) where
  pub delegation_facts : (chain : Chain) (labels : ℕ) (shape : ProofForm RecordNumber)
      → ShowsDelegation number_cmp (evidence_said S rrsets apex chain) apex name labels shape
      → FormFacts S rrsets apex name chain shape
  delegation_facts chain labels shape (delegation number shows) = record {
    parts = (record { within = shows.fits; says = shows.types.says }, tt);
    encloser = tt;
    case = shows.fits;
    records = (word_signed S rrsets apex number chain role.Cut relation.Matched (rightmost name labels) shows.types.says, tt);
  }

  opt_out_signed : (by : Option RecordNumber) (next_closer : RecordNumber) → EncloserSigned S rrsets apex name by
      → IsSigned S rrsets apex name next_closer → AllByRecursion (IsSigned S rrsets apex name) (listed by ++ next_closer ∷ [])
  opt_out_signed None next_closer first second = (second, tt)
  opt_out_signed (Some number) next_closer first second = (first, (second, tt))

  pub opt_out_facts : (chain : Chain) (labels : ℕ) (shape : ProofForm RecordNumber)
      → ShowsOptOut number_cmp (evidence_said S rrsets apex chain) apex name labels shape → FormFacts S rrsets apex name chain shape
  opt_out_facts chain labels shape (opt_out by number shows) =
      let below = shows.above.proper in record {
        parts = (
          encloser_says S rrsets apex name chain labels by below shows.encloser,
          (record { within = below; says = shows.next_closer.says }, tt),
        );
        encloser = omega (arith, below);
        case = below;
        records = opt_out_signed by number (encloser_signed S rrsets apex name chain (rightmost name labels) by shows.encloser)
            (word_signed S rrsets apex number chain role.NextCloser relation.OptOut (rightmost name (labels + 1)) shows.next_closer.says);
      }
  opt_out_facts chain labels shape (wildcard_opt_out parts same shows) =
      let below = shows.shows.above.proper in record {
        parts = wildcard_says S rrsets apex name chain _ related.OptOut parts shows.shows (λ number says. says);
        encloser = omega (arith, below);
        case = below;
        records = wildcard_records_signed S rrsets apex name chain _ related.OptOut parts shows.shows (λ number says. says);
      }

  pub closer_facts : (chain : Chain) (labels : ℕ) (shape : ProofForm RecordNumber)
      → ShowsOptOutCloser number_cmp (evidence_said S rrsets apex chain) apex name labels shape → FormFacts S rrsets apex name chain shape
  closer_facts chain labels shape (opt_out_closer number shows) =
      let below = shows.above.proper in record {
        parts = (record { within = below; says = shows.next_closer.says }, tt);
        encloser = omega (arith, below);
        case = below;
        records = (word_signed S rrsets apex number chain role.NextCloser relation.OptOut (rightmost name (labels + 1)) shows.next_closer.says, tt);
      }

  pub closer_above : (chain : Chain) (labels : ℕ) (shape : ProofForm RecordNumber)
      → ShowsOptOutCloser number_cmp (evidence_said S rrsets apex chain) apex name labels shape → IsAbove apex name labels
  closer_above chain labels shape (opt_out_closer number shows) = shows.above
