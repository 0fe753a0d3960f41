-- The lines of a denial, step by step.
use Rattle.std.proofs.Common.{◌≡◌, List, sym, subst}
use Rattle.std.specs.List.{Contains}
use Rattle.dnsv_names.specs.Name.{Labels}
use Rattle.dnsv_denial.specs.gathering.Evidence.{IsSecuredBy}
use Rattle.dnsv_proof_forms.specs.forms.ProofParts.{form_parts}
use Rattle.dnsv_proof_forms.specs.declared.forms.proof_part.ProofPart.{ProofPart}
use Rattle.dnsv_denial.specs.declared.proving.shown_denial.ShownDenial.{ShownDenial}
use Rattle.dnsv_canonical.specs.declared.number.RecordNumber.{RecordNumber}
use Rattle.dnsv_derivations.specs.Explained.{Setting}
use Rattle.dnsv_derivations.specs.Denials.{IsCaseFor, IsDenialTold, IsPartFit, IsPartTold, IsProofTold, IsProofWithParts, told_case}
use Rattle.dnsv_derivations.specs.derivations.OwnDerivations.{AreRecordsDerived, SecuredIn}
use Rattle.dnsv_derivations.specs.Saying.{Adds, AreBoth, AreEach}
use Rattle.dnsv_lines.specs.declared.line.Line.{Line}
use Rattle.dnsv_derivations.proofs.lemmas.denials.ShownLemmas.{ShownFacts, part_fits, record_signed}
use Rattle.dnsv_derivations.proofs.lemmas.SayingLemmas.{both_added}

module _ (setting : Setting) (name : Labels) (shown : ShownDenial) where
  pub its_records : (zone : Labels) (records : List RecordNumber) → zone ≡ shown.proof.zone → records ≡ shown.proof.records
      → ShownFacts setting name shown → (number : RecordNumber) → Contains records number
      → IsSecuredBy (SecuredIn setting) setting.rrsets zone number.rrset
  its_records zone records same_zone same_records facts number there =
      let Among : List RecordNumber → Type 0 = λ each. Contains each number in
      let By : Labels → Type 0 = λ each. IsSecuredBy (SecuredIn setting) setting.rrsets each number.rrset in
      subst By (sym same_zone)
      (record_signed setting name shown facts number (subst Among same_records there))

  pub its_parts : (parts : List ProofPart) → parts ≡ form_parts shown.chain shown.form → ShownFacts setting name shown
      → (part : ProofPart) → Contains parts part → IsPartFit setting.rrsets name part
  its_parts parts same facts part there =
      let Among : List ProofPart → Type 0 = λ each. Contains each part in
      part_fits setting name shown facts part (subst Among same there)

  records_told : (zone : Labels) (records : List RecordNumber) (old new : List Line) → zone ≡ shown.proof.zone
      → records ≡ shown.proof.records → Adds (AreRecordsDerived setting zone records) old new
      → Adds (AreRecordsDerived setting shown.proof.zone shown.proof.records) old new
  records_told zone records old new same_zone same_records told =
      let Zone : Labels → Type 0 = λ each. Adds (AreRecordsDerived setting each records) old new in
      let Records : List RecordNumber → Type 0 = λ each. Adds (AreRecordsDerived setting shown.proof.zone each) old new in
      subst Records same_records (subst Zone same_zone told)

  pub denial_told : (zone : Labels) (records : List RecordNumber) (parts : List ProofPart) (old derived cased told new : List Line)
      → zone ≡ shown.proof.zone → records ≡ shown.proof.records → parts ≡ form_parts shown.chain shown.form
      → Adds (AreRecordsDerived setting zone records) old derived
      → Adds (IsCaseFor (told_case shown.form) name shown.proof.zone) derived cased → Adds (IsProofTold name shown) cased told
      → Adds (AreEach (IsPartTold setting.rrsets name) parts) told new → Adds (IsDenialTold setting name shown) old new
  denial_told zone records parts old derived cased told new same_zone same_records same_parts one two three four =
      let Parts : List ProofPart → Type 0 = λ each. Adds (AreEach (IsPartTold setting.rrsets name) each) told new in
      let Case : List Line → List Line → Type 0 = IsCaseFor (told_case shown.form) name shown.proof.zone in
      let All : List Line → List Line → Type 0 = AreEach (IsPartTold setting.rrsets name) (form_parts shown.chain shown.form) in
      both_added (AreRecordsDerived setting shown.proof.zone shown.proof.records) (IsProofWithParts setting.rrsets name shown) old derived new
      (records_told zone records old derived same_zone same_records one)
      (both_added Case (AreBoth (IsProofTold name shown) All) derived cased new two
      (both_added (IsProofTold name shown) All cased told new three (subst Parts same_parts four)))
