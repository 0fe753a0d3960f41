-- What the lines of a denial say among all lines.
use Rattle.std.proofs.Common.{◌≡◌, ◌∙◌, ℕ, List, [], ◌∷◌, ◌++◌, Option, Some, None, refl, sym, ap, subst, ⊎_elim}
use Rattle.std.proofs.lemmas.List.Elements.{Contains-append_left, Contains-push}
use Rattle.std.specs.List.{AllByRecursion, Contains}
use Rattle.dnsv_names.specs.Name.{Labels, lower_case}
use Rattle.dnsv_canonical.specs.declared.number.RecordNumber.{RecordNumber}
use Rattle.dnsv_canonical.specs.declared.number.SignatureNumber.{SignatureNumber}
use Rattle.dnsv_proof_forms.specs.forms.ProofForms.{ShowsNoData, ShowsNoName, form_records, wildcard_records}
use Rattle.dnsv_proof_forms.specs.forms.ProofForms.ShowsNoData.{at_name, empty, at_wildcard, empty_wildcard}
use Rattle.dnsv_proof_forms.specs.forms.ProofForms.ShowsNoName.{no_name as name_shown}
use Rattle.dnsv_denial.specs.proving.FirstProof.{AreRecordsOf}
use Rattle.dnsv_proof_forms.specs.forms.ProofParts.{encloser_part, encloser_relation, form_parts, part_by, wildcard_parts}
use Rattle.dnsv_proof_forms.specs.records.RecordsAt.{listed}
use Rattle.dnsv_proof_forms.specs.records.Numbers.{number_cmp}
use Rattle.dnsv_zones.specs.forms.RecordWords.{RecordWords}
use Rattle.dnsv_proof_forms.specs.declared.forms.proof_form.ProofForm.{ProofForm}
use Rattle.dnsv_proof_forms.specs.declared.forms.proof_form.ProofForm.TheVariants as shown_form
use Rattle.dnsv_proof_forms.specs.declared.forms.proof_form.WildcardParts.{WildcardParts}
use Rattle.dnsv_proof_forms.specs.declared.forms.proof_part.PartName.{PartName}
use Rattle.dnsv_proof_forms.specs.declared.forms.proof_part.PartName.TheVariants as part
use Rattle.dnsv_proof_forms.specs.declared.forms.proof_part.PartRelation.{PartRelation}
use Rattle.dnsv_proof_forms.specs.declared.forms.proof_part.PartRelation.TheVariants as relation
use Rattle.dnsv_denial.specs.declared.proving.shown_denial.ShownDenial.{ShownDenial}
use Rattle.dnsv_proof_forms.specs.declared.records.chain_kind.ChainKind.{ChainKind}
use Rattle.dnsv_derivations.specs.Denials.{IsDenialTold, IsFormTold, IsPartTold, IsProofOf, IsProofSaid, IsProofTold, told_form}
use Rattle.dnsv_derivations.specs.Explained.{Setting}
use Rattle.dnsv_derivations.specs.Following.{IsSignatureSaid}
use Rattle.dnsv_derivations.specs.Saying.{AreBoth, AreEach}
use Rattle.dnsv_derivations.specs.derivations.OwnDerivations.{IsSignatureTold}
use Rattle.dnsv_derivations.proofs.lemmas.denials.FormLemmas.{each_member}
use Rattle.dnsv_derivations.proofs.lemmas.derivations.DerivationLemmas.{number_said}
use Rattle.dnsv_lines.specs.declared.line.Line.{Line}
use Rattle.dnsv_lines.specs.declared.line.Line.TheVariants as line
use Rattle.dnsv_lines.specs.declared.line.denial.Form.{Form}
use Rattle.dnsv_lines.specs.declared.line.denial.Form.TheVariants as form
use Rattle.dnsv_rules.specs.Borne.{DeniesType, IsDenialBorne}
use Rattle.dnsv_rules.specs.Truth.{IsPartsRecord}
use Rattle.dnsv_rules.proofs.checks.TellLemmas.{AreWithin, IsOwn, IsPartTellable, parts_told, records_own, within_back, within_front}

-- ---- the records of a form

module _ (all : List Line) (name : Labels) where
  part_record : (of : PartName) (related : PartRelation) (number : RecordNumber) → IsPartTellable all name (part_by of related number)
      → IsPartsRecord all number
  part_record of related number tells = record { part = tells.part; among = tells.among; by = tells.is_by }

  wildcard_told : (chain : ChainKind) (labels : ℕ) (encloser : Option RecordNumber) (next wildcard : RecordNumber)
      → IsPartTellable all name (encloser_part chain labels encloser) → IsPartsRecord all next → IsPartsRecord all wildcard
      → AllByRecursion (IsPartsRecord all) ((listed encloser ++ next ∷ []) ++ wildcard ∷ [])
  wildcard_told chain labels None next wildcard tells its_next its_wildcard = (its_next, (its_wildcard, tt))
  wildcard_told chain labels (Some number) next wildcard tells its_next its_wildcard =
      (part_record (part.ClosestEncloser labels) (encloser_relation chain) number tells, (its_next, (its_wildcard, tt)))

  opt_out_told : (chain : ChainKind) (labels : ℕ) (encloser : Option RecordNumber) (next : RecordNumber)
      → IsPartTellable all name (encloser_part chain labels encloser) → IsPartsRecord all next
      → AllByRecursion (IsPartsRecord all) (listed encloser ++ next ∷ [])
  opt_out_told chain labels None next tells its_next = (its_next, tt)
  opt_out_told chain labels (Some number) next tells its_next =
      (part_record (part.ClosestEncloser labels) (encloser_relation chain) number tells, (its_next, tt))

  three_told : (chain : ChainKind) (parts : WildcardParts RecordNumber) (related : PartRelation)
      → AllByRecursion (IsPartTellable all name) (wildcard_parts chain parts related)
      → AllByRecursion (IsPartsRecord all) (wildcard_records parts)
  three_told chain parts related tells =
      wildcard_told chain parts.labels parts.encloser parts.next_closer parts.wildcard tells.0
      (part_record (part.NextCloser parts.labels) relation.Covered parts.next_closer tells.1.0)
      (part_record (part.Wildcard parts.labels) related parts.wildcard tells.1.1.0)

  -- where each part of a form is told, each of its records is
  records_told : (chain : ChainKind) (shape : ProofForm RecordNumber) → AllByRecursion (IsPartTellable all name) (form_parts chain shape)
      → AllByRecursion (IsPartsRecord all) (form_records shape)
  records_told chain (shown_form.NoName parts) tells = three_told chain parts relation.Covered tells
  records_told chain (shown_form.NoData number) tells = (part_record part.Name relation.Matched number tells.0, tt)
  records_told chain (shown_form.EmptyNonTerminal number) tells = (part_record part.Name relation.NonTerminal number tells.0, tt)
  records_told chain (shown_form.WildcardNoData parts) tells = three_told chain parts relation.Matched tells
  records_told chain (shown_form.EmptyWildcard parts) tells = three_told chain parts relation.NonTerminal tells
  records_told chain (shown_form.NoCloser labels number) tells = (part_record (part.NextCloser labels) relation.Covered number tells.0, tt)
  records_told chain (shown_form.Delegation labels number) tells = (part_record (part.Cut labels) relation.Matched number tells.0, tt)
  records_told chain (shown_form.OptOut labels encloser number) tells =
      opt_out_told chain labels encloser number tells.0 (part_record (part.NextCloser labels) relation.OptOut number tells.1.0)
  records_told chain (shown_form.WildcardOptOut parts) tells = three_told chain parts relation.OptOut tells
  records_told chain (shown_form.OptOutCloser labels number) tells = (part_record (part.NextCloser labels) relation.OptOut number tells.0, tt)

  record_told : (chain : ChainKind) (shape : ProofForm RecordNumber) → AllByRecursion (IsPartTellable all name) (form_parts chain shape)
      → (number : RecordNumber) → Contains (form_records shape) number → IsPartsRecord all number
  record_told chain shape tells number there =
      each_member (IsPartsRecord all) (form_records shape) number (records_told chain shape tells) there

module _ (setting : Setting) (all : List Line) where
  pub signature_there : (number : SignatureNumber) (before lines : List Line) → IsSignatureTold setting number before lines
      → AreWithin (before ++ lines) all → IsSignatureSaid all number
  signature_there number before lines told within =
      let said = number_said setting before lines number told in
      record { signed = said.signed; among = within (line.Signed said.signed) said.among; is = said.is }

  -- ---- a denial

  module _ (name : Labels) (shown : ShownDenial) (before lines : List Line) (told : IsDenialTold setting name shown before lines)
      (within : AreWithin (before ++ lines) all) where
    abbrev Lines : List Line → Type 0
    Lines more = AreWithin (before ++ more) all

    parted : AreWithin (before ++ (told.first ++ told.second)) all
    parted = subst Lines told.parts within

    abbrev cased : List Line
    cased = (before ++ told.first) ++ told.says_second.first

    abbrev last : AreBoth (IsProofTold name shown) (AreEach (IsPartTold setting.rrsets name) (form_parts shown.chain shown.form)) cased told.says_second.second
    last = told.says_second.says_second

    behind : AreWithin ((cased ++ last.first) ++ last.second) all
    behind =
        let Then : List Line → Type 0 = λ more. AreWithin ((before ++ told.first) ++ more) all in
        let Last : List Line → Type 0 = λ more. AreWithin (cased ++ more) all in
        within_back cased last.first last.second all (subst Last last.parts
        (within_back (before ++ told.first) told.says_second.first told.says_second.second all
        (subst Then told.says_second.parts (within_back before told.first told.second all parted))))

    pub denial_owns : (number : RecordNumber) → Contains shown.proof.records number → IsOwn setting.rrsets all shown.proof.zone number.rrset
    denial_owns =
        records_own setting shown.proof.zone shown.proof.records before told.first all told.says_first
        (within_front before told.first told.second all parted)

    pub denial_tells : AllByRecursion (IsPartTellable all name) (form_parts shown.chain shown.form)
    denial_tells =
        parts_told setting.rrsets name all (form_parts shown.chain shown.form) (cased ++ last.first) last.second last.says_second behind

    form_there : AreRecordsOf (form_records shown.form) shown.proof.records → (which : Form) → IsFormTold which name shown cased last.first
        → IsDenialBorne setting.rrsets all (λ each. each ≡ which) shown.proof
    form_there records which its =
        let front : AreWithin (cased ++ last.first) all =
        λ each there. behind each (Contains-append_left (cased ++ last.first) last.second each there) in
        let tells = λ (number : RecordNumber) (there : Contains shown.proof.records number).
        record_told all name shown.chain shown.form denial_tells number ((records.members number).0 there) in
        ⊎_elim
        (λ (once : IsProofSaid its.proof cased × (last.first ≡ [])).
        let said = once.0 in
        let borne : IsDenialBorne setting.rrsets all (λ each. each ≡ which) shown.proof = record {
          proof = said.said;
          among = front (line.Proof said.said) (Contains-append_left cased last.first (line.Proof said.said) said.among);
          such = said.same.form ∙ its.is.its_form;
          zone = said.same.zone ∙ ap lower_case its.is.zone;
          signed = denial_owns;
          told = tells;
        } in borne)
        (λ (once : (¬ IsProofSaid its.proof cased) × (last.first ≡ line.Proof its.proof ∷ [])).
        let There : List Line → Type 0 = λ more. Contains (cased ++ more) (line.Proof its.proof) in
        let borne : IsDenialBorne setting.rrsets all (λ each. each ≡ which) shown.proof = record {
          proof = its.proof;
          among = front (line.Proof its.proof) (subst There (sym once.1) (Contains-push cased (line.Proof its.proof)));
          such = its.is.its_form;
          zone = ap lower_case its.is.zone;
          signed = denial_owns;
          told = tells;
        } in borne)
        its.once

    -- the denial is borne out, where it has a form that is told
    pub denial_borne : AreRecordsOf (form_records shown.form) shown.proof.records → (which : Form) → told_form shown.form ≡ Some which
        → IsDenialBorne setting.rrsets all (λ each. each ≡ which) shown.proof
    denial_borne records which is =
        let Of : Option Form → Type 0 = λ each. IsProofOf each name shown cased last.first in
        form_there records which (subst Of is last.says_first)

-- ---- forms

-- the shape of a denial of a name is told as such
pub no_name_form : (said : RecordWords RecordNumber) (apex name : Labels) (shape : ProofForm RecordNumber)
    → ShowsNoName number_cmp said apex name shape → told_form shape ≡ Some form.NoName
no_name_form said apex name _ (name_shown parts shows) = refl

-- and that of a type
pub no_data_form : (said : RecordWords RecordNumber) (apex name : Labels) (t : ℕ) (shape : ProofForm RecordNumber)
    → ShowsNoData number_cmp said apex name t shape → (which : Form) × DeniesType which × (told_form shape ≡ Some which)
no_data_form said apex name t _ (at_name number shows) = (form.NoData1, tt, refl)
no_data_form said apex name t _ (empty number shows) = (form.NoData2, tt, refl)
no_data_form said apex name t _ (at_wildcard parts shows) = (form.NoData3, tt, refl)
no_data_form said apex name t _ (empty_wildcard parts shows) = (form.NoData4, tt, refl)
