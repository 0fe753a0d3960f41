-- Each line that calls keys trusted, or a signature good, is that of a first way, or of a first key; and no line of what
-- holds says that something fails.
use Rattle.std.proofs.Common.{◌≡◌, ⊎_elim, ℕ, List, [], ◌∷◌, ◌++◌, Option, Some, None, map, sym, subst}
use Rattle.std.specs.List.{AllByRecursion}
use Rattle.dnsv_names.specs.Name.{Labels, rightmost}
use Rattle.dnsv_proof_forms.specs.forms.ProofParts.{form_parts, part_name}
use Rattle.dnsv_proof_forms.specs.declared.forms.proof_part.PartName.{PartName}
use Rattle.dnsv_denial.specs.declared.proving.shown_denial.ShownDenial.{ShownDenial}
use Rattle.dnsv_canonical.specs.declared.number.RecordNumber.{RecordNumber}
use Rattle.dnsv_denial.specs.declared.unsigned_cuts.shown_cut.ShownCut.{ShownCut}
use Rattle.dnsv_denial.specs.declared.unsigned_cuts.shown_cut.ShownCut.TheVariants as cut
use Rattle.dnsv_verdict.specs.declared.link.Link.{Link}
use Rattle.dnsv_verdict.specs.declared.verdict.Verdict.{Verdict}
use Rattle.dnsv_verdict.specs.declared.verdict.Verdict.TheVariants.{SecureAnswer, SecureAlias, SecureNoName, SecureNoData, Insecure}
use Rattle.dnsv_derivations.specs.Denials.{IsCaseFor, IsDenialTold, IsPartSaid, IsPartTold, IsProofOf, IsProofSaid, IsProofTold, IsProofWithParts, told_case, told_form}
use Rattle.dnsv_derivations.specs.Explained.{Setting}
use Rattle.dnsv_holding.specs.Holding.{IsLinkTold, IsSetTold, IsSettledTold, IsUnsignedFromTold, signature_of}
use Rattle.dnsv_holding.specs.Holding.IsSetTold.{as_owned, by_wildcard}
use Rattle.dnsv_holding.specs.Holding.IsUnsignedFromTold.{by_cut, by_wildcard as loosely}
use Rattle.dnsv_derivations.specs.Saying.{AreBoth, AreEach, IsOnce}
use Rattle.dnsv_derivations.specs.derivations.Derivations.{IsDerivation, Subject}
use Rattle.dnsv_derivations.specs.derivations.Derivations.IsDerivation.{said_trusted, anchored, delegated, said_signed, signed}
use Rattle.dnsv_derivations.specs.derivations.Derivations.Subject.{keys, signature}
use Rattle.dnsv_derivations.specs.derivations.OwnDerivations.{AreRecordsDerived, IsOwnDerivation, IsSignatureTold}
use Rattle.dnsv_derivations.specs.derivations.Ways.{IsSignedLine, IsTrustedLine}
use Rattle.dnsv_derivations.specs.unsigned_cuts.ShownCuts.{IsCutTold}
use Rattle.dnsv_derivations.specs.unsigned_cuts.UnsignedCuts.{AreAllTold, IsCaseTold, IsUnusableTold}
use Rattle.dnsv_lines.specs.declared.line.Line.{Line}
use Rattle.dnsv_lines.specs.declared.line.Line.TheVariants as line
use Rattle.dnsv_lines.specs.declared.line.cut.InsecureCase.{InsecureCase}
use Rattle.dnsv_lines.specs.declared.line.cut.InsecureCase.TheVariants as case
use Rattle.dnsv_lines.specs.declared.line.cut.UnusableDs.{UnusableDs}
use Rattle.dnsv_lines.specs.declared.line.denial.Form.{Form}
use Rattle.dnsv_canonical.specs.declared.number.SignatureNumber.{SignatureNumber}

-- the line is one of these settings, if it calls something trusted or good; and it says nothing of what fails
abbrev pub IsLineOf : (Setting → Type 0) → Line → Type 0
IsLineOf Of (line.Trusted trusted) = (setting : Setting) × Of setting × (k : ℕ) × IsTrustedLine setting k trusted
IsLineOf Of (line.Signed this) = (setting : Setting) × Of setting × (number : SignatureNumber) × IsSignedLine setting number this
IsLineOf Of (line.Reason reason) = ⊥
IsLineOf Of (line.Follows untrusted) = ⊥
IsLineOf Of (line.Key key) = ⊥
IsLineOf Of _ = Unit {0}

module _ (Of : Setting → Type 0) where
  abbrev Are : List Line → Type 0
  Are lines = AllByRecursion (IsLineOf Of) lines

  pub together : (xs ys : List Line) → Are xs → Are ys → Are (xs ++ ys)
  together [] ys first second = second
  together (x ∷ xs) ys first second = (first.0, together xs ys first.1 second)

  pub both : (First Second : List Line → List Line → Type 0) (before lines : List Line) → AreBoth First Second before lines
      → ((old new : List Line) → First old new → Are new) → ((old new : List Line) → Second old new → Are new) → Are lines
  both First Second before lines told one two =
      subst Are (sym told.parts) (together told.first told.second (one before told.first told.says_first) (two (before ++ told.first) told.second told.says_second))

  pub each : {X : Type 0} (Says : X → List Line → List Line → Type 0) → ((x : X) (old new : List Line) → Says x old new → Are new)
      → (xs : List X) (before lines : List Line) → AreEach Says xs before lines → Are lines
  each Says one [] before lines told = subst Are (sym told) tt
  each Says one (x ∷ xs) before lines told =
      both (Says x) (AreEach Says xs) before lines told (one x) (λ old new rest. each Says one xs old new rest)

  once : (IsSaid : List Line → Type 0) (this : Line) → IsLineOf Of this → (before lines : List Line) → IsOnce IsSaid this before lines → Are lines
  once IsSaid this is before lines told = ⊎_elim
      (λ (said : IsSaid before × (lines ≡ [])). subst Are (sym said.1) tt)
      (λ (unsaid : (¬ IsSaid before) × (lines ≡ this ∷ [])). subst Are (sym unsaid.1) (is, tt)) told

  module _ (setting : Setting) (of : Of setting) where
    derived : (before : List Line) (subject : Subject) (lines : List Line) → IsDerivation setting before subject lines → Are lines
    derived before subject _ (said_trusted said) = tt
    derived before subject _ (said_signed said) = tt
    derived before subject _ (anchored {k = k} {trusted = trusted} unsaid is anchor) = ((setting, of, k, is), tt)
    derived before subject _ (delegated {k = k} {s = s} {trusted = trusted} {number = number} {lines = above} unsaid is ds lowest derivation) =
        together above (line.Trusted trusted ∷ []) (derived before (signature (record { rrset = number.rrset; signature = s })) above derivation)
        ((setting, of, k, is), tt)
    derived before subject _ (signed {number = number} {signed = this} {lines = above} unsaid is derivation) =
        together above (line.Signed this ∷ []) (derived before (keys this.keys) above derivation) ((setting, of, number, is), tt)

    signature_told : (number : SignatureNumber) (before lines : List Line) → IsSignatureTold setting number before lines → Are lines
    signature_told number before lines told = derived before (signature number) lines told

    records_told : (zone : Labels) (records : List RecordNumber) (before lines : List Line) → AreRecordsDerived setting zone records before lines → Are lines
    records_told zone records before lines told =
        each (λ (number : RecordNumber). IsOwnDerivation setting zone number.rrset)
        (λ number old new own. derived old (signature (record { rrset = number.rrset; signature = own.s })) new own.derivation) records before lines told

    module _ (name : Labels) where
      proof_of : (form : Option Form) (shown : ShownDenial) (before lines : List Line) → IsProofOf form name shown before lines → Are lines
      proof_of None shown before lines told = subst Are (sym told) tt
      proof_of (Some form) shown before lines told = once (IsProofSaid told.proof) (line.Proof told.proof) tt before lines told.once

      case_told : (kind : InsecureCase) (at : Labels) (of_zone : Option Labels) (before lines : List Line) → IsCaseTold kind at of_zone before lines → Are lines
      case_told kind at of_zone before lines told = subst Are (sym told.are) (tt, tt)

      case_for : (which : Option (InsecureCase × PartName)) (zone : Labels) (before lines : List Line) → IsCaseFor which name zone before lines → Are lines
      case_for None zone before lines told = subst Are (sym told) tt
      case_for (Some which) zone before lines told = case_told which.0 (part_name name which.1) (Some zone) before lines told

      with_parts : (shown : ShownDenial) (before lines : List Line) → IsProofWithParts setting.rrsets name shown before lines → Are lines
      with_parts shown before lines told =
          let Parts : List Line → List Line → Type 0 = AreEach (IsPartTold setting.rrsets name) (form_parts shown.chain shown.form) in
          both (IsCaseFor (told_case shown.form) name shown.proof.zone) (AreBoth (IsProofTold name shown) Parts) before lines told
          (case_for (told_case shown.form) shown.proof.zone)
          (λ old new rest.
          both (IsProofTold name shown) Parts old new rest
          (λ older newer proof. proof_of (told_form shown.form) shown older newer proof)
          (λ older newer parts.
          each (IsPartTold setting.rrsets name) (λ part oldest newest part_told. once (IsPartSaid part_told.part) (line.Part part_told.part) tt oldest newest part_told.once)
          (form_parts shown.chain shown.form) older newer parts))

      denial_told : (shown : ShownDenial) (before lines : List Line) → IsDenialTold setting name shown before lines → Are lines
      denial_told shown before lines told =
          both (AreRecordsDerived setting shown.proof.zone shown.proof.records) (IsProofWithParts setting.rrsets name shown) before lines told
          (records_told shown.proof.zone shown.proof.records) (with_parts shown)

      unusables : (told : List UnusableDs) → Are (map (λ unusable. line.Unusable unusable) told)
      unusables [] = tt
      unusables (unusable ∷ told) = (tt, unusables told)

      all_told : (k : ℕ) (before lines : List Line) → AreAllTold setting.rrsets k before lines → Are lines
      all_told k before lines told = subst Are (sym told.first.are) (unusables told.first.told)

      unusable_told : (at : Labels) (before lines : List Line) → IsUnusableTold setting at before lines → Are lines
      unusable_told at before lines told =
          both (IsSignatureTold setting (signature_of told.k told.s)) (AreBoth (IsCaseTold case.UnusableDs at None) (AreAllTold setting.rrsets told.k)) before lines told.told
          (signature_told (signature_of told.k told.s))
          (λ old new rest.
          both (IsCaseTold case.UnusableDs at None) (AreAllTold setting.rrsets told.k) old new rest (case_told case.UnusableDs at None) (all_told told.k))

      cut_told : (shown : ShownCut) (before lines : List Line) → IsCutTold setting name shown before lines → Are lines
      cut_told (cut.NoDs labels shown) before lines told = denial_told shown before lines told
      cut_told (cut.NoUsableDs labels) before lines told = unusable_told (rightmost name labels) before lines told
      cut_told (cut.OptOut labels shown) before lines told = denial_told shown before lines told

      set_told : (number : SignatureNumber) (before lines : List Line) → IsSetTold setting name number before lines → Are lines
      set_told number before lines (as_owned r g at own told) = signature_told number before lines told
      set_told number before lines (by_wildcard r g trust shown at expanded good is told) =
          both (IsSignatureTold setting number) (IsDenialTold setting name shown) before lines told (signature_told number) (denial_told shown)

      unsigned_from_told : (t : ℕ) (before lines : List Line) → IsUnsignedFromTold setting name t before lines → Are lines
      unsigned_from_told t before lines (by_cut shown is told) = cut_told shown before lines told
      unsigned_from_told t before lines (loosely trust good none k s first shown is told) =
          both (IsSignatureTold setting (signature_of k s)) (IsDenialTold setting name shown) before lines told (signature_told (signature_of k s))
          (denial_told shown)

      pub settled_told : (t : ℕ) (verdict : Verdict) (before lines : List Line) → IsSettledTold setting name t verdict before lines → Are lines
      settled_told t (SecureAnswer k s) before lines told = set_told (signature_of k s) before lines told
      settled_told t (SecureAlias k s) before lines told = set_told (signature_of k s) before lines told
      settled_told t (SecureNoName proof) before lines told = denial_told told.shown before lines told.told
      settled_told t (SecureNoData proof) before lines told = denial_told told.shown before lines told.told
      settled_told t (Insecure cut) before lines told = unsigned_from_told t before lines told
      settled_told t verdict before lines told = absurd told

    pub links_told : (links : List Link) (before lines : List Line) → AreEach (IsLinkTold setting) links before lines → Are lines
    links_told links before lines told =
        each (IsLinkTold setting) (λ link old new link_told. set_told link.name (signature_of link.rrset link.signature) old new link_told) links before lines told
