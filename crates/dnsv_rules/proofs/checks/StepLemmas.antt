-- What each line of a step says of the question is so.
use Rattle.std.proofs.Common.{◌≡◌, ◌∙◌, ◌⊎◌, ◌+◌, List, [], ◌∷◌, ◌++◌, Option, Some, None, length, refl, sym, subst, ⊎_elim}
use Rattle.std.specs.List.{AllByRecursion, Contains}
use Rattle.std.specs.Option.{option_map}
use Rattle.dnsv_names.specs.Name.{IsAtOrBelow, Labels, rightmost}
use Rattle.dnsv_names.specs.Tree.AncestorLaws.{rightmost_above, rightmost_below}
use Rattle.dnsv_canonical.specs.declared.number.RecordNumber.{RecordNumber}
use Rattle.dnsv_zones.specs.zones.Types.{Denies}
use Rattle.dnsv_proof_forms.specs.forms.ProofForms.{form_encloser, form_records}
use Rattle.dnsv_proof_forms.specs.forms.ProofParts.{IsPartName, form_parts, part_name}
use Rattle.dnsv_denial.specs.proving.ShownDenials.{kind_of}
use Rattle.dnsv_denial.specs.gathering.EvidenceWords.{Chain}
use Rattle.dnsv_denial.specs.gathering.EvidenceWords.Chain.{ByNsec, ByNsec3}
use Rattle.dnsv_proof_forms.specs.declared.forms.proof_form.ProofForm.{ProofForm}
use Rattle.dnsv_proof_forms.specs.declared.forms.proof_form.ProofForm.TheVariants as shown_form
use Rattle.dnsv_proof_forms.specs.declared.forms.proof_part.PartName.{PartName}
use Rattle.dnsv_proof_forms.specs.declared.forms.proof_part.PartName.TheVariants as part
use Rattle.dnsv_proof_forms.specs.declared.forms.proof_part.ProofPart.{ProofPart}
use Rattle.dnsv_denial.specs.declared.proving.shown_denial.ShownDenial.{ShownDenial}
use Rattle.dnsv_proof_forms.specs.declared.records.chain_kind.ChainKind.{ChainKind}
use Rattle.dnsv_derivations.specs.Denials.{IsCaseFor, IsDenialTold, IsPartSaid, IsPartTold, IsProofLine, IsProofOf, IsProofSaid, IsProofTold, IsProofWithParts, told_case, told_chain, told_form, told_relation, told_role}
use Rattle.dnsv_derivations.specs.Explained.{Setting}
use Rattle.dnsv_derivations.specs.Following.Parts.{IsOfKind}
use Rattle.dnsv_derivations.specs.Saying.{AreBoth, AreEach}
use Rattle.dnsv_derivations.specs.derivations.OwnDerivations.{AreRecordsDerived}
use Rattle.dnsv_derivations.proofs.lemmas.denials.FormLemmas.{each_member}
use Rattle.dnsv_verifier.proofs.NumberLemmas.{at_front, further}
use Rattle.dnsv_lines.specs.declared.line.Line.{Line}
use Rattle.dnsv_lines.specs.declared.line.Line.TheVariants as line
use Rattle.dnsv_lines.specs.declared.line.cut.InsecureCase.{InsecureCase}
use Rattle.dnsv_lines.specs.declared.line.denial.Form.{Form}
use Rattle.dnsv_lines.specs.declared.line.denial.Proof.{Proof}
use Rattle.dnsv_lines.specs.declared.line.denial.Role.{Role}
use Rattle.dnsv_explain_laws.proofs.holding.EachLemmas.{Each, both_each, none_each, one_each}
use Rattle.dnsv_rules.specs.Checked.{Asked, DeniesAsked, DeniesIf, IsNameFor, IsOnWay, IsProvedBy, IsSoFor}
use Rattle.dnsv_rules.specs.Told.{shown_said, told_words}
use Rattle.dnsv_rules.proofs.checks.DenyLemmas.{PartDenies, denied_by}
use Rattle.dnsv_rules.proofs.checks.DerivedLemmas.{records_so}
use Rattle.dnsv_rules.proofs.checks.FormLemmas.{Stands, StandsIf}
use Rattle.dnsv_rules.proofs.checks.TellLemmas.{AreWithin, IsOwn, IsPartTellable, number_of, parts_told, records_own, within_back, within_front}

-- the records are of such a chain
of_kind : (chain : Chain) → IsOfKind (told_chain (kind_of chain)) chain
of_kind ByNsec = tt
of_kind (ByNsec3 parameters) = tt

-- the name of a part is what its role says
name_fits : (name : Labels) (of : PartName) → IsPartName (length name) of → IsNameFor name (told_role of) (part_name name of)
name_fits name (part.ClosestEncloser labels) within = rightmost_above name labels
name_fits name (part.NextCloser labels) within = rightmost_above name (labels + 1)
name_fits name (part.Wildcard labels) within = (rightmost name labels, rightmost_below name labels within, refl)
name_fits name part.Name within = refl
name_fits name (part.Cut labels) within = rightmost_above name labels

-- the name of a case is at or above the question's
abbrev IsCaseAbove : Labels → Option (InsecureCase × PartName) → Type 0
IsCaseAbove name None = Unit {0}
IsCaseAbove name (Some which) = IsAtOrBelow name (part_name name which.1)

case_above : (name : Labels) (shape : ProofForm RecordNumber) → IsCaseAbove name (told_case shape)
case_above name (shown_form.NoName parts) = tt
case_above name (shown_form.NoData number) = tt
case_above name (shown_form.EmptyNonTerminal number) = tt
case_above name (shown_form.WildcardNoData parts) = tt
case_above name (shown_form.EmptyWildcard parts) = tt
case_above name (shown_form.NoCloser labels number) = tt
case_above name (shown_form.Delegation labels number) = rightmost_above name labels
case_above name (shown_form.OptOut labels encloser number) = rightmost_above name (labels + 1)
case_above name (shown_form.WildcardOptOut parts) = rightmost_above name (parts.labels + 1)
case_above name (shown_form.OptOutCloser labels number) = rightmost_above name (labels + 1)

never_both : (which : InsecureCase × PartName) → Some which ≡ None → ⊥
never_both which clash = cc

-- the proof line of a form
abbrev proof_line : Form → Labels → ShownDenial → Proof
proof_line form name shown = record {
  form = form;
  chain = told_chain shown.chain;
  zone = shown.proof.zone;
  encloser = option_map (rightmost name) (form_encloser shown.form);
}

is_proof_line : (form : Form) (name : Labels) (shown : ShownDenial) (proof : Proof) → IsProofLine form name shown proof
    → proof ≡ proof_line form name shown
is_proof_line form name shown proof is =
    λ i. record { form = is.its_form i; chain = is.chain i; zone = is.zone i; encloser = is.encloser i }

module _ (setting : Setting) (asked : Asked) (all : List Line) where
  -- what the line says of the question is so by all lines
  abbrev pub So : Line → Type 0
  So each = IsSoFor setting.rrsets asked all each

  pub both_so : (First Second : List Line → List Line → Type 0) (before lines : List Line) → (told : AreBoth First Second before lines)
      → AreWithin (before ++ lines) all → (AreWithin (before ++ told.first) all → Each So told.first)
      → (AreWithin ((before ++ told.first) ++ told.second) all → Each So told.second) → Each So lines
  both_so First Second before lines told within first second =
      let Lines : List Line → Type 0 = λ more. AreWithin (before ++ more) all in
      let parted : AreWithin (before ++ (told.first ++ told.second)) all = subst Lines told.parts within in
      both_each So told.first told.second lines told.parts (first (within_front before told.first told.second all parted))
      (second (within_back before told.first told.second all parted))

  pub each_so : {X : Type 0} (Says : X → List Line → List Line → Type 0) (xs : List X) (before lines : List Line)
      → AreWithin (before ++ lines) all
      → ((x : X) → Contains xs x → (old new : List Line) → AreWithin (old ++ new) all → Says x old new → Each So new)
      → AreEach Says xs before lines → Each So lines
  each_so Says [] before lines within then each = none_each So lines each
  each_so Says (x ∷ xs) before lines within then each =
      both_so (Says x) (AreEach Says xs) before lines each within
      (λ front. then x (at_front x xs) before each.first front each.says_first)
      (λ back. each_so Says xs (before ++ each.first) each.second back (λ y there. then y (further x xs y there)) each.says_second)

  -- ---- a proof with its parts

  module _ (name : Labels) (on_way : IsOnWay asked name) (shown : ShownDenial) where
    -- The denial is shown by a chain of the zone, and is of a case for the name asked alone; and where lines show its records
    -- to be signed and tell its parts, what its proof line says stands.
    pub record Tellable : Type 0 where
      pub cased : (asked.name ≡ name) ⊎ (told_case shown.form ≡ None)
      pub chain : Chain
      pub kind : shown.chain ≡ kind_of chain
      pub listed : (number : RecordNumber) → Contains (form_records shown.form) number → Contains shown.proof.records number
      pub fits : (each : ProofPart) → Contains (form_parts shown.chain shown.form) each → IsPartName (length name) each.name
      pub stands : ((number : RecordNumber) → Contains (form_records shown.form) number → IsOwn setting.rrsets all shown.proof.zone number.rrset)
          → AllByRecursion (IsPartTellable all name) (form_parts (kind_of chain) shown.form)
          → Stands asked name shown.proof.zone shown.form (told_words (shown_said setting.rrsets all shown.proof.zone chain) all)
      pub denies : ((number : RecordNumber) → Contains (form_records shown.form) number → IsOwn setting.rrsets all shown.proof.zone number.rrset)
          → AllByRecursion (PartDenies setting.rrsets asked all name shown.proof.zone chain) (form_parts (kind_of chain) shown.form)

    module _ (tellable : Tellable) (own : (number : RecordNumber) → Contains shown.proof.records number → IsOwn setting.rrsets all shown.proof.zone number.rrset) where
      proved : (form : Form) → Stands asked name shown.proof.zone shown.form (told_words (shown_said setting.rrsets all shown.proof.zone tellable.chain) all)
          → told_form shown.form ≡ Some form → (proof : Proof) → IsProofLine form name shown proof → IsProvedBy setting.rrsets asked all proof
      proved form stands is proof its_line =
          let told = told_words (shown_said setting.rrsets all shown.proof.zone tellable.chain) all in
          let If : Option Form → Type 0 =
          λ each. StandsIf each asked shown.proof.zone (option_map (rightmost name) (form_encloser shown.form)) told in
          let OfKind : ChainKind → Type 0 = λ each. IsOfKind (told_chain each) tellable.chain in
          let Proved : Proof → Type 0 = λ each. IsProvedBy setting.rrsets asked all each in
          subst Proved (sym (is_proof_line form name shown proof its_line)) (record {
            chain = tellable.chain;
            kind = subst OfKind (sym tellable.kind) (of_kind tellable.chain);
            stands = subst If is stands;
          })

      proof_so : (which : Option Form) → told_form shown.form ≡ which → (before lines : List Line)
          → Stands asked name shown.proof.zone shown.form (told_words (shown_said setting.rrsets all shown.proof.zone tellable.chain) all)
          → IsProofOf which name shown before lines → Each So lines
      proof_so None is before lines stands told = none_each So lines told
      proof_so (Some form) is before lines stands told =
          ⊎_elim
          (λ (once : IsProofSaid told.proof before × (lines ≡ [])). none_each So lines once.1)
          (λ (once : (¬ IsProofSaid told.proof before) × (lines ≡ line.Proof told.proof ∷ [])).
          one_each So (line.Proof told.proof) lines once.1 (proved form stands is told.proof told.is))
          told.once

      part_so : (each : ProofPart) → Contains (form_parts shown.chain shown.form) each → (before lines : List Line)
          → IsPartTold setting.rrsets name each before lines → Each So lines
      part_so each there before lines told =
          let Fits : Role → Labels → Type 0 = λ as_role as_name. IsNameFor name as_role as_name in
          let fits : Fits told.part.role told.part.name =
          subst (λ as_role. Fits as_role told.part.name) (sym told.is.role)
          (subst (λ as_name. Fits (told_role each.name) as_name) (sym told.is.name) (name_fits name each.name (tellable.fits each there))) in
          let Each : ChainKind → Type 0 = λ kind. Contains (form_parts kind shown.form) each in
          let kept = tellable.denies (λ number listed. own number (tellable.listed number listed)) in
          let one : PartDenies setting.rrsets asked all name shown.proof.zone tellable.chain each =
          each_member (PartDenies setting.rrsets asked all name shown.proof.zone tellable.chain) (form_parts (kind_of tellable.chain) shown.form) each
          kept (subst Each tellable.kind there) in
          let Denied : Type 0 = DeniesAsked setting.rrsets asked all told.part in
          let by_line : DeniesIf (told_role each.name) (told_relation each.relation) Denied =
          denied_by (told_role each.name) (told_relation each.relation) _ Denied (λ by. record {
            zone = shown.proof.zone;
            chain = tellable.chain;
            number = by.0;
            is_by = number_of setting.rrsets each.by told.part.by told.is.by ∙ by.1;
            denies = subst
                (λ as_name. (shown_said setting.rrsets all shown.proof.zone tellable.chain).TypesAt as_name (λ has. Denies has asked.rtype) by.0)
                (sym told.is.name) by.2;
          }) one in
          let denies : DeniesIf told.part.role told.part.relation Denied =
          subst (λ related. DeniesIf told.part.role related Denied) (sym told.is.relation)
          (subst (λ as_role. DeniesIf as_role (told_relation each.relation) Denied) (sym told.is.role) by_line) in
          ⊎_elim
          (λ (once : IsPartSaid told.part before × (lines ≡ [])). none_each So lines once.1)
          (λ (once : (¬ IsPartSaid told.part before) × (lines ≡ line.Part told.part ∷ [])).
          one_each So (line.Part told.part) lines once.1 (name, on_way, fits, denies))
          told.once

      case_so : (which : Option (InsecureCase × PartName)) → IsCaseAbove name which → told_case shown.form ≡ which → (before lines : List Line)
          → IsCaseFor which name shown.proof.zone before lines → Each So lines
      case_so None above is before lines told = none_each So lines told
      case_so (Some which) above is before lines told =
          ⊎_elim
          (λ (same : asked.name ≡ name).
          one_each So (line.Case told.cut) lines told.are
          (subst (λ of. IsAtOrBelow of told.cut.name) (sym same) (subst (λ at. IsAtOrBelow name at) (sym told.is_name) above)))
          (λ (none : told_case shown.form ≡ None). absurd (never_both which (sym is ∙ none)))
          tellable.cased

      pub with_parts_so : (before lines : List Line) → IsProofWithParts setting.rrsets name shown before lines
          → AreWithin (before ++ lines) all → Each So lines
      with_parts_so before lines told within =
          let rest = told.says_second in
          let cased : List Line = before ++ told.first in
          let Lines : List Line → Type 0 = λ more. AreWithin (before ++ more) all in
          let Then : List Line → Type 0 = λ more. AreWithin (cased ++ more) all in
          let behind : AreWithin (cased ++ told.second) all = within_back before told.first told.second all (subst Lines told.parts within) in
          let back : AreWithin ((cased ++ rest.first) ++ rest.second) all =
          within_back cased rest.first rest.second all (subst Then rest.parts behind) in
          let Tell : ChainKind → Type 0 = λ each. AllByRecursion (IsPartTellable all name) (form_parts each shown.form) in
          let parts : Tell shown.chain =
          parts_told setting.rrsets name all (form_parts shown.chain shown.form) (cased ++ rest.first) rest.second rest.says_second back in
          let stands = tellable.stands (λ number there. own number (tellable.listed number there)) (subst Tell tellable.kind parts) in
          let Parts : List Line → List Line → Type 0 = AreEach (IsPartTold setting.rrsets name) (form_parts shown.chain shown.form) in
          both_so (IsCaseFor (told_case shown.form) name shown.proof.zone) (AreBoth (IsProofTold name shown) Parts) before lines told within
          (λ front. case_so (told_case shown.form) (case_above name shown.form) refl before told.first told.says_first)
          (λ after. both_so (IsProofTold name shown) Parts cased told.second rest after
          (λ front. proof_so (told_form shown.form) refl cased rest.first stands rest.says_first)
          (λ last. each_so (IsPartTold setting.rrsets name) (form_parts shown.chain shown.form) (cased ++ rest.first) rest.second last
          (λ each there old new inside one. part_so each there old new one) rest.says_second))

    -- ---- a denial

    pub denial_so : Tellable → (before lines : List Line) → IsDenialTold setting name shown before lines → AreWithin (before ++ lines) all
        → Each So lines
    denial_so tellable before lines told within =
        let Lines : List Line → Type 0 = λ more. AreWithin (before ++ more) all in
        let parted : AreWithin (before ++ (told.first ++ told.second)) all = subst Lines told.parts within in
        let front : AreWithin (before ++ told.first) all = within_front before told.first told.second all parted in
        both_so (AreRecordsDerived setting shown.proof.zone shown.proof.records) (IsProofWithParts setting.rrsets name shown) before lines told within
        (λ inside. records_so setting asked all shown.proof.zone shown.proof.records before told.first told.says_first)
        (λ behind. with_parts_so tellable
        (records_own setting shown.proof.zone shown.proof.records before told.first all told.says_first front)
        (before ++ told.first) told.second told.says_second behind)
