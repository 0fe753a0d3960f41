-- A denial is told in one way.
use Rattle.std.proofs.Common.{◌≡◌, ◌∙◌, List, [], ◌∷◌, Option, Some, None, sym, ap, subst}
use Rattle.dnsv_names.specs.Name.{Labels}
use Rattle.dnsv_canonical.specs.Rrsets.{IsNumbered, ReceivedRrset}
use Rattle.dnsv_proof_forms.specs.forms.ProofParts.{form_parts, part_name}
use Rattle.dnsv_proof_forms.specs.declared.forms.proof_part.PartName.{PartName}
use Rattle.dnsv_proof_forms.specs.declared.forms.proof_part.ProofPart.{ProofPart}
use Rattle.dnsv_denial.specs.declared.proving.shown_denial.ShownDenial.{ShownDenial}
use Rattle.dnsv_canonical.specs.declared.number.RecordNumber.{RecordNumber}
use Rattle.dnsv_derivations.specs.Denials.{IsCaseFor, IsDenialTold, IsExpandedTold, IsFormTold, IsPartLine, IsPartSaid, IsPartTold, IsProofLine, IsProofOf, IsProofSaid, IsProofTold, IsProofWithParts, IsTellingOf, told_case, told_form}
use Rattle.dnsv_derivations.specs.Explained.{Setting}
use Rattle.dnsv_derivations.specs.Following.Parts.{IsPlaceOfRecord}
use Rattle.dnsv_derivations.specs.Saying.{AreBoth, AreEach}
use Rattle.dnsv_derivations.specs.derivations.OwnDerivations.{AreRecordsDerived, IsSignatureTold}
use Rattle.dnsv_derivations.specs.unsigned_cuts.UnsignedCuts.{IsCaseTold}
use Rattle.dnsv_lines.specs.declared.line.Line.{Line}
use Rattle.dnsv_lines.specs.declared.line.Line.TheVariants as line
use Rattle.dnsv_lines.specs.declared.line.cut.Cut.{Cut}
use Rattle.dnsv_lines.specs.declared.line.cut.InsecureCase.{InsecureCase}
use Rattle.dnsv_lines.specs.declared.line.denial.Form.{Form}
use Rattle.dnsv_lines.specs.declared.line.denial.Part.{Part}
use Rattle.dnsv_lines.specs.declared.line.denial.Proof.{Proof}
use Rattle.dnsv_lines.specs.declared.line.denial.RecordPlace.{RecordPlace}
use Rattle.dnsv_canonical.specs.declared.number.SignatureNumber.{SignatureNumber}
use Rattle.dnsv_canonical.proofs.NumberLemmas.{one_numbered}
use Rattle.dnsv_derivations.proofs.lemmas.one.DerivationLemmas.{one_records, one_signature}
use Rattle.dnsv_derivations.proofs.lemmas.one.StepLemmas.{IsOne, one_both, one_each, one_once}
use Rattle.dnsv_derivations.proofs.lemmas.one.TrustedLemmas.{AreApart}

-- ---- the case

pub one_case : (kind : InsecureCase) (name : Labels) (of_zone : Option Labels) → IsOne (IsCaseTold kind name of_zone)
one_case kind name of_zone before a b x y =
    let same : x.cut ≡ y.cut = λ i. record {
      case = (x.is_kind ∙ sym y.is_kind) i;
      name = (x.is_name ∙ sym y.is_name) i;
      zone = (x.is_zone ∙ sym y.is_zone) i;
    } in
    x.are ∙ ap (λ (each : Cut). line.Case each ∷ []) same ∙ sym y.are

one_case_for : (which : Option (InsecureCase × PartName)) (name zone : Labels) → IsOne (IsCaseFor which name zone)
one_case_for None name zone before a b x y = x ∙ sym y
one_case_for (Some which) name zone before a b x y = one_case which.0 (part_name name which.1) (Some zone) before a b x y

-- ---- the proof

one_proof_line : (form : Form) (name : Labels) (shown : ShownDenial) (a b : Proof) → IsProofLine form name shown a → IsProofLine form name shown b
    → a ≡ b
one_proof_line form name shown a b x y = λ i. record {
  form = (x.its_form ∙ sym y.its_form) i;
  chain = (x.chain ∙ sym y.chain) i;
  zone = (x.zone ∙ sym y.zone) i;
  encloser = (x.encloser ∙ sym y.encloser) i;
}

one_form_told : (form : Form) (name : Labels) (shown : ShownDenial) → IsOne (IsFormTold form name shown)
one_form_told form name shown before a b x y =
    one_once IsProofSaid (λ proof. line.Proof proof) x.proof y.proof (one_proof_line form name shown x.proof y.proof x.is y.is) before a b x.once y.once

one_proof_of : (told : Option Form) (name : Labels) (shown : ShownDenial) → IsOne (IsProofOf told name shown)
one_proof_of None name shown before a b x y = x ∙ sym y
one_proof_of (Some form) name shown before a b x y = one_form_told form name shown before a b x y

-- ---- its parts

module _ (rrsets : List ReceivedRrset) where
  one_place : (n : RecordNumber) (a b : RecordPlace) → a.number ≡ n → b.number ≡ n → IsPlaceOfRecord rrsets a → IsPlaceOfRecord rrsets b → a ≡ b
  one_place n a b at there x y =
      let number : a.number ≡ b.number = at ∙ sym there in
      let Of : RecordNumber → Type 0 = λ each. IsNumbered rrsets each.rrset x.rrset in
      let rrset : x.rrset ≡ y.rrset =
      one_numbered rrsets b.number.rrset x.rrset y.rrset (subst Of number x.is_rrset) y.is_rrset in
      let owner : a.owner ≡ b.owner = x.owner ∙ ap (λ (each : ReceivedRrset). each.owner) rrset ∙ sym y.owner in
      let rtype : a.rtype.0 ≡ b.rtype.0 = x.rtype ∙ ap (λ (each : ReceivedRrset). each.rtype) rrset ∙ sym y.rtype in
      λ i. record { owner = owner i; rtype = record { 0 = rtype i }; number = number i }

  one_telling : (number : Option RecordNumber) (a b : Option RecordPlace) → IsTellingOf rrsets number a → IsTellingOf rrsets number b → a ≡ b
  one_telling None None None x y = λ i. None
  one_telling None None (Some b) x y = absurd y
  one_telling None (Some a) b x y = absurd x
  one_telling (Some n) None b x y = absurd x
  one_telling (Some n) (Some a) None x y = absurd y
  one_telling (Some n) (Some a) (Some b) x y =
      ap (λ (each : RecordPlace). Some each) (one_place n a b x.0 y.0 x.1 y.1)

  module _ (question : Labels) where
    one_part_line : (shown : ProofPart) (a b : Part) → IsPartLine rrsets question shown a → IsPartLine rrsets question shown b → a ≡ b
    one_part_line shown a b x y =
        let by : a.by ≡ b.by = one_telling shown.by a.by b.by x.by y.by in
        λ i. record {
          role = (x.role ∙ sym y.role) i;
          relation = (x.relation ∙ sym y.relation) i;
          name = (x.name ∙ sym y.name) i;
          by = by i;
        }

    one_part : (shown : ProofPart) → IsOne (IsPartTold rrsets question shown)
    one_part shown before a b x y =
        one_once IsPartSaid (λ part. line.Part part) x.part y.part (one_part_line shown x.part y.part x.is y.is) before a b x.once y.once

    one_with_parts : (shown : ShownDenial) → IsOne (IsProofWithParts rrsets question shown)
    one_with_parts shown =
        let Case : List Line → List Line → Type 0 = IsCaseFor (told_case shown.form) question shown.proof.zone in
        let Parts : List Line → List Line → Type 0 = AreEach (IsPartTold rrsets question) (form_parts shown.chain shown.form) in
        one_both Case (AreBoth (IsProofTold question shown) Parts) (one_case_for (told_case shown.form) question shown.proof.zone)
        (one_both (IsProofTold question shown) Parts (one_proof_of (told_form shown.form) question shown)
        (one_each (IsPartTold rrsets question) one_part (form_parts shown.chain shown.form)))

-- ---- the denial

module _ (setting : Setting) (apart : AreApart setting.todo) (name : Labels) where
  pub one_denial : (shown : ShownDenial) → IsOne (IsDenialTold setting name shown)
  one_denial shown =
      one_both (AreRecordsDerived setting shown.proof.zone shown.proof.records) (IsProofWithParts setting.rrsets name shown)
      (one_records setting apart shown.proof.zone shown.proof.records) (one_with_parts setting.rrsets name shown)

  pub one_expanded : (number : SignatureNumber) (shown : ShownDenial) → IsOne (IsExpandedTold setting name number shown)
  one_expanded number shown =
      one_both (IsSignatureTold setting number) (IsDenialTold setting name shown) (one_signature setting apart number) (one_denial shown)
