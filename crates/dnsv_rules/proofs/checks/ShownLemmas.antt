-- What is shown of a name can be told: by a chain of a zone, in a form that stands.
use Rattle.std.proofs.Common.{◌∙◌, ℕ, List, inl, inr, length, refl, sym, ap, subst}
use Rattle.std.specs.List.{Contains}
use Rattle.dnsv_names.specs.Name.{Labels, SameName, lower_case}
use Rattle.dnsv_zones.specs.forms.Forms.{IsAbove}
use Rattle.dnsv_canonical.specs.declared.number.RecordNumber.{RecordNumber}
use Rattle.dnsv_chain.specs.Trust.{KeptTrust, SecuredIn as KeptIn}
use Rattle.dnsv_proof_forms.specs.forms.Denials.{IsDelegationAt}
use Rattle.dnsv_proof_forms.specs.forms.ProofForms.{ShowsNoCloser, form_records}
use Rattle.dnsv_proof_forms.specs.forms.ProofForms.ShowsNoCloser.{no_closer as closer_shown}
use Rattle.dnsv_proof_forms.specs.forms.ShownUnsigned.{ShowsDelegation, ShowsOptOut}
use Rattle.dnsv_proof_forms.specs.forms.ProofParts.{IsPartName, form_parts}
use Rattle.dnsv_denial.specs.proving.ShownDenials.{IsFirstShown, IsShownNoCloser, IsShownNoData, IsShownNoName}
use Rattle.dnsv_denial.specs.unsigned_cuts.ShownCut.{IsShownOptOutCloser}
use Rattle.dnsv_denial.specs.gathering.EvidenceWords.{Chain, evidence_said}
use Rattle.dnsv_proof_forms.specs.records.Numbers.{number_cmp}
use Rattle.dnsv_proof_forms.specs.declared.forms.proof_form.ProofForm.{ProofForm}
use Rattle.dnsv_proof_forms.specs.declared.forms.proof_part.ProofPart.{ProofPart}
use Rattle.dnsv_denial.specs.declared.proving.shown_denial.ShownDenial.{ShownDenial}
use Rattle.dnsv_zones.specs.forms.Parts.{OptsOut}
use Rattle.dnsv_derivations.specs.Denials.{IsShownBy}
use Rattle.dnsv_derivations.specs.Denials.IsShownBy.{no_name, no_data, no_closer, no_ds, opted_out, closer_opted_out}
use Rattle.dnsv_derivations.specs.Explained.{Setting}
use Rattle.dnsv_derivations.specs.derivations.OwnDerivations.{IsTrustIn}
use Rattle.dnsv_derivations.proofs.lemmas.denials.PartLemmas.{zone_as}
use Rattle.dnsv_derivations.proofs.lemmas.denials.ShownLemmas.{part_shown, shown_facts, spelled}
use Rattle.dnsv_derivations.proofs.lemmas.denials.StandingLemmas.{each_by}
use Rattle.dnsv_derivations.proofs.lemmas.unsigned_cuts.CutLemmas.{closer_above, no_closer_case}
use Rattle.dnsv_lines.specs.declared.line.Line.{Line}
use Rattle.dnsv_rules.specs.Checked.{Asked, IsOnWay}
use Rattle.dnsv_rules.specs.Told.{IsShownGood}
use Rattle.dnsv_rules.proofs.checks.DenyLemmas.{delegation_denies, no_closer_denies, no_data_denies, no_name_denies, opt_out_denies, out_closer_denies}
use Rattle.dnsv_rules.proofs.checks.FormLemmas.{Counts, delegation_stands, no_closer_stands, no_data_stands, no_name_stands, opt_out_stands, out_closer_stands}
use Rattle.dnsv_rules.proofs.checks.StepLemmas.{Tellable}

no_closer_above : (S : ℕ → ℕ → Type 0) (setting : Setting) (zone name : Labels) (chain : Chain) (labels : ℕ) (shape : ProofForm RecordNumber)
    → ShowsNoCloser number_cmp (evidence_said S setting.rrsets zone chain) zone name labels shape → IsAbove zone name labels
no_closer_above S setting zone name chain labels _ (closer_shown number x) = x.above

-- the zone of the proof is that which shows it
pub closer_same : (S : ℕ → ℕ → Type 0) (setting : Setting) (name : Labels) (labels : ℕ) (zone : Labels) (shown : ShownDenial)
    → IsShownNoCloser S setting.rrsets name labels zone shown → SameName zone shown.proof.zone
closer_same S setting name labels zone shown is =
    spelled name zone labels (no_closer_above S setting zone name is.chain labels shown.form is.shows) ∙ sym (ap lower_case is.zone)

module _ (setting : Setting) (trust : KeptTrust) (good : IsTrustIn setting trust) (all : List Line) where
  abbrev Kept : ℕ → ℕ → Type 0
  Kept = KeptIn trust

  parts_fit : (name : Labels) (shown : ShownDenial) → IsShownBy trust setting.rrsets name shown → (each : ProofPart)
      → Contains (form_parts shown.chain shown.form) each → IsPartName (length name) each.name
  parts_fit name shown by each there = (part_shown setting name shown (shown_facts setting name shown (trust, good, by)) each there).within

  -- ---- of the name at the way's end

  module _ (aliases : List Labels) (name : Labels) (t : ℕ) (shown : ShownDenial) where
    abbrev here : Asked
    here = record { aliases = aliases; name = name; rtype = t }

    abbrev Tells : Type 0
    Tells = Tellable setting here all name (inl refl) shown

    pub no_name_told : IsShownNoName Kept setting.rrsets name shown → Tells
    no_name_told is = record {
      cased = inl refl;
      chain = is.chain;
      kind = is.kind;
      listed = λ number there. (is.records.members number).1 there;
      fits = parts_fit name shown (no_name is);
      stands = λ own tells.
          no_name_stands Kept setting.rrsets all shown.proof.zone name aliases t is.chain shown.form
          (each_by (Counts Kept setting.rrsets all shown.proof.zone name) (form_records shown.form) own) tells is.shows;
      denies = λ own. no_name_denies Kept setting.rrsets all shown.proof.zone name here is.chain shown.proof.zone shown.form is.shows;
    }

    pub no_data_told : IsShownNoData Kept setting.rrsets name t shown → Tells
    no_data_told is = record {
      cased = inl refl;
      chain = is.chain;
      kind = is.kind;
      listed = λ number there. (is.records.members number).1 there;
      fits = parts_fit name shown (no_data t is);
      stands = λ own tells.
          no_data_stands Kept setting.rrsets all shown.proof.zone name aliases t is.chain shown.form
          (each_by (Counts Kept setting.rrsets all shown.proof.zone name) (form_records shown.form) own) tells is.shows;
      denies = λ own.
          no_data_denies Kept setting.rrsets all shown.proof.zone name here is.chain shown.form
          (each_by (Counts Kept setting.rrsets all shown.proof.zone name) (form_records shown.form) own) is.shows;
    }

    pub delegation_told : (labels : ℕ) → IsFirstShown Kept setting.rrsets name (λ said zone. IsDelegationAt said zone name labels)
        (λ said zone. ShowsDelegation number_cmp said zone name labels) shown → Tells
    delegation_told labels is = record {
      cased = inl refl;
      chain = is.chain;
      kind = is.kind;
      listed = λ number there. (is.records.members number).1 there;
      fits = parts_fit name shown (no_ds labels is);
      stands = λ own tells. delegation_stands Kept setting.rrsets all shown.proof.zone name aliases t is.chain labels shown.form is.shows;
      denies = λ own. delegation_denies Kept setting.rrsets all shown.proof.zone name here is.chain shown.proof.zone labels shown.form is.shows;
    }

    pub opt_out_told : (labels : ℕ) → IsFirstShown Kept setting.rrsets name (λ said zone. OptsOut said zone name labels)
        (λ said zone. ShowsOptOut number_cmp said zone name labels) shown → Tells
    opt_out_told labels is = record {
      cased = inl refl;
      chain = is.chain;
      kind = is.kind;
      listed = λ number there. (is.records.members number).1 there;
      fits = parts_fit name shown (opted_out labels is);
      stands = λ own tells.
          opt_out_stands Kept setting.rrsets all shown.proof.zone name aliases t is.chain labels shown.form
          (each_by (Counts Kept setting.rrsets all shown.proof.zone name) (form_records shown.form) own) tells is.shows;
      denies = λ own. opt_out_denies Kept setting.rrsets all shown.proof.zone name here is.chain shown.proof.zone labels shown.form is.shows;
    }

    pub out_closer_told : (labels : ℕ) (zone : Labels) → IsShownOptOutCloser Kept setting.rrsets name labels zone shown → Tells
    out_closer_told labels zone is =
        let above = closer_above Kept setting.rrsets zone name is.chain labels shown.form is.shows in
        let same : SameName zone shown.proof.zone = spelled name zone labels above ∙ sym (ap lower_case is.zone) in
        let Among : RecordNumber → List RecordNumber → Type 0 = λ number each. Contains each number in record {
          cased = inl refl;
          chain = is.chain;
          kind = is.kind;
          listed = λ number there. subst (Among number) (sym is.records) there;
          fits = parts_fit name shown (closer_opted_out labels zone is);
          stands = λ own tells.
              out_closer_stands Kept setting.rrsets all zone name shown.proof.zone same aliases t is.chain labels shown.form
              (each_by (Counts Kept setting.rrsets all zone name) (form_records shown.form)
              (λ number there.
              zone_as (IsShownGood all) setting.rrsets shown.proof.zone zone number.rrset (sym same) (own number there))) tells is.shows;
          denies = λ own. out_closer_denies Kept setting.rrsets all shown.proof.zone name here is.chain zone labels shown.form is.shows;
        }

  -- ---- of any name of the way

  pub no_closer_told : (asked : Asked) (name : Labels) (on_way : IsOnWay asked name) (shown : ShownDenial) (labels : ℕ) (zone : Labels)
      → IsShownNoCloser Kept setting.rrsets name labels zone shown → Tellable setting asked all name on_way shown
  no_closer_told asked name on_way shown labels zone is =
      let same = closer_same Kept setting name labels zone shown is in
      let Among : RecordNumber → List RecordNumber → Type 0 = λ number each. Contains each number in record {
        cased = inr (no_closer_case (evidence_said Kept setting.rrsets zone is.chain) zone name labels shown.form is.shows);
        chain = is.chain;
        kind = is.kind;
        listed = λ number there. subst (Among number) (sym is.records) there;
        fits = parts_fit name shown (no_closer labels zone is);
        stands = λ own tells.
            no_closer_stands Kept setting.rrsets all zone name shown.proof.zone same asked on_way is.chain labels shown.form
            (each_by (Counts Kept setting.rrsets all zone name) (form_records shown.form)
            (λ number there.
            zone_as (IsShownGood all) setting.rrsets shown.proof.zone zone number.rrset (sym same) (own number there))) tells is.shows;
        denies = λ own. no_closer_denies Kept setting.rrsets all shown.proof.zone name asked is.chain zone labels shown.form is.shows;
      }
