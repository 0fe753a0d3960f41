-- A case line has the name from which on a name may be unsigned.
use Rattle.std.proofs.Common.{◌≡◌, ◌∙◌, ◌+◌, ℕ, List, ◌++◌, Option, Some, None, inl, inr, refl, sym, ap, subst}
use Rattle.std.proofs.lemmas.List.Elements.{Contains-push}
use Rattle.std.specs.List.{Contains}
use Rattle.dnsv_names.specs.Name.{Labels, lower_case, rightmost}
use Rattle.dnsv_chain.specs.Trust.{KeptTrust, SecuredIn as KeptIn}
use Rattle.dnsv_proof_forms.specs.forms.ProofParts.{part_name}
use Rattle.dnsv_denial.specs.unsigned_cuts.ShownCut.{IsShownCut, cut_name}
use Rattle.dnsv_denial.specs.unsigned_cuts.ShownCut.IsShownCut.{no_ds, no_usable_ds, opt_out}
use Rattle.dnsv_denial.specs.gathering.EvidenceWords.{evidence_said}
use Rattle.dnsv_proof_forms.specs.declared.forms.proof_part.PartName.{PartName}
use Rattle.dnsv_proof_forms.specs.declared.forms.proof_part.PartName.TheVariants as part
use Rattle.dnsv_denial.proofs.lemmas.unsigned_cuts.ShownCutLemmas.{cut_of_shown}
use Rattle.dnsv_denial.specs.declared.proving.shown_denial.ShownDenial.{ShownDenial}
use Rattle.dnsv_denial.specs.declared.unsigned_cuts.shown_cut.ShownCut.{ShownCut}
use Rattle.dnsv_verdict.specs.Insecure.{IsUnsignedFrom}
use Rattle.dnsv_verdict.specs.Settled.{IsSettledAs}
use Rattle.dnsv_verdict.specs.declared.verdict.Verdict.TheVariants.{Insecure}
use Rattle.dnsv_verdict.proofs.CaseLemmas.{one_settled_as}
use Rattle.dnsv_verdict.proofs.SettledLemmas.{settled_as_to}
use Rattle.dnsv_derivations.specs.Denials.{IsCaseFor, IsDenialTold, told_case}
use Rattle.dnsv_derivations.specs.Explained.{Setting}
use Rattle.dnsv_derivations.specs.derivations.OwnDerivations.{IsTrustIn, SecuredIn}
use Rattle.dnsv_derivations.specs.unsigned_cuts.ShownCuts.{IsCutTold}
use Rattle.dnsv_derivations.specs.unsigned_cuts.UnsignedCuts.{IsCaseTold, IsUnusableTold}
use Rattle.dnsv_derivations.proofs.lemmas.denials.TrustLemmas.{kept_good}
use Rattle.dnsv_derivations.proofs.lemmas.unsigned_cuts.CutLemmas.{delegation_case, opt_out_case, out_closer_case}
use Rattle.dnsv_lines.specs.declared.line.Line.{Line}
use Rattle.dnsv_lines.specs.declared.line.Line.TheVariants as line
use Rattle.dnsv_lines.specs.declared.line.cut.Cut.{Cut}
use Rattle.dnsv_lines.specs.declared.line.cut.InsecureCase.{InsecureCase}
use Rattle.dnsv_lines.specs.declared.line.cut.InsecureCase.TheVariants as case
use Rattle.dnsv_holding.specs.Holding.{IsUnsignedFromTold}
use Rattle.dnsv_holding.specs.Holding.IsUnsignedFromTold.{by_cut, by_wildcard}
use Rattle.dnsv_rules.specs.Borne.{HasCase}
use Rattle.dnsv_rules.proofs.checks.TellLemmas.{AreWithin, within_back, within_front}

module _ (setting : Setting) (all : List Line) where
  -- a case line has the name
  record CaseOf (at : Labels) : Type 0 where
    told : Cut
    among : Contains all (line.Case told)
    is_name : told.name ≡ at

  case_there : (kind : InsecureCase) (at : Labels) (of_zone : Option Labels) (before lines : List Line) → IsCaseTold kind at of_zone before lines
      → AreWithin (before ++ lines) all → CaseOf at
  case_there kind at of_zone before lines told within =
      let There : List Line → Type 0 = λ more. Contains (before ++ more) (line.Case told.cut) in
      record {
        told = told.cut;
        among = within (line.Case told.cut) (subst There (sym told.are) (Contains-push before (line.Case told.cut)));
        is_name = told.is_name;
      }

  denial_there : (name : Labels) (shown : ShownDenial) (which : InsecureCase × PartName) → told_case shown.form ≡ Some which
      → (before lines : List Line) → IsDenialTold setting name shown before lines → AreWithin (before ++ lines) all
      → CaseOf (part_name name which.1)
  denial_there name shown which is before lines told within =
      let Lines : List Line → Type 0 = λ more. AreWithin (before ++ more) all in
      let Then : List Line → Type 0 = λ more. AreWithin ((before ++ told.first) ++ more) all in
      let rest = told.says_second in
      let Case : Option (InsecureCase × PartName) → Type 0 = λ each. IsCaseFor each name shown.proof.zone (before ++ told.first) rest.first in
      case_there which.0 (part_name name which.1) (Some shown.proof.zone) (before ++ told.first) rest.first (subst Case is rest.says_first)
      (within_front (before ++ told.first) rest.first rest.second all
      (subst Then rest.parts (within_back before told.first told.second all (subst Lines told.parts within))))

  unusable_there : (at : Labels) (before lines : List Line) → IsUnusableTold setting at before lines → AreWithin (before ++ lines) all → CaseOf at
  unusable_there at before lines told within =
      let whole = told.told in
      let Lines : List Line → Type 0 = λ more. AreWithin (before ++ more) all in
      let Then : List Line → Type 0 = λ more. AreWithin ((before ++ whole.first) ++ more) all in
      let rest = whole.says_second in
      case_there case.UnusableDs at None (before ++ whole.first) rest.first rest.says_first
      (within_front (before ++ whole.first) rest.first rest.second all
      (subst Then rest.parts (within_back before whole.first whole.second all (subst Lines whole.parts within))))

  cut_there : (S : ℕ → ℕ → Type 0) (name : Labels) (shown : ShownCut) → IsShownCut S setting.rrsets name shown → (before lines : List Line)
      → IsCutTold setting name shown before lines → AreWithin (before ++ lines) all → CaseOf (cut_name name shown)
  cut_there S name _ (no_ds labels shown fewest is) before lines told within =
      denial_there name shown (case.UnsignedDelegation, part.Cut labels)
      (delegation_case (evidence_said S setting.rrsets shown.proof.zone is.chain) shown.proof.zone name labels shown.form is.shows)
      before lines told within
  cut_there S name _ (no_usable_ds labels none fewest) before lines told within = unusable_there (rightmost name labels) before lines told within
  cut_there S name _ (opt_out labels shown no_delegation no_unusable most is) before lines told within =
      denial_there name shown (case.OptOut, part.NextCloser labels)
      (opt_out_case (evidence_said S setting.rrsets shown.proof.zone is.chain) shown.proof.zone name labels shown.form is.shows)
      before lines told within

  -- a verdict names one such name, by the trust too
  one_name : (trust : KeptTrust) → IsTrustIn setting trust → (name : Labels) (t : ℕ) (at other : Labels)
      → IsSettledAs (SecuredIn setting) setting.rrsets name t (Insecure at) → IsUnsignedFrom (KeptIn trust) setting.rrsets name t other → at ≡ other
  one_name trust good name t at other is from =
      let kept : IsSettledAs (KeptIn trust) setting.rrsets name t (Insecure at) =
      settled_as_to (SecuredIn setting) (KeptIn trust) (λ k s. ((good.signed k).members s).1) (kept_good setting trust good) setting.rrsets name t
      (Insecure at) is in
      let its : IsSettledAs (KeptIn trust) setting.rrsets name t (Insecure other) = (kept.0, kept.1, kept.2, kept.3, from) in
      let same : Insecure at ≡ Insecure other = one_settled_as (KeptIn trust) setting.rrsets name t (Insecure at) (Insecure other) kept its in
      cc

  named : (at other : Labels) → at ≡ other → CaseOf other → HasCase all at
  named at other same found = (found.told, found.among, ap lower_case (found.is_name ∙ sym same))

  pub case_borne : (name : Labels) (t : ℕ) (at : Labels) (before lines : List Line)
      → IsSettledAs (SecuredIn setting) setting.rrsets name t (Insecure at) → IsUnsignedFromTold setting name t before lines
      → AreWithin (before ++ lines) all → HasCase all at
  case_borne name t at before lines is (by_cut shown by told) within =
      named at (cut_name name shown)
      (one_name by.0 by.1 name t at (cut_name name shown) is (inl (cut_of_shown (KeptIn by.0) setting.rrsets name shown by.2)))
      (cut_there (KeptIn by.0) name shown by.2 before lines told within)
  case_borne name t at before lines is (by_wildcard trust good none k s first shown by told) within =
      let labels = first.such.rrsig.labels in
      let signer = first.such.rrsig.signer in
      let next = rightmost name (labels + 1) in
      let Lines : List Line → Type 0 = λ more. AreWithin (before ++ more) all in
      named at next
      (one_name trust good name t at next is (inr (none, record { k = k; s = s; earliest = first; next_closer = refl })))
      (denial_there name shown (case.OptOutWildcard, part.NextCloser labels)
      (out_closer_case (evidence_said (KeptIn trust) setting.rrsets signer by.chain) signer name labels shown.form by.shows)
      (before ++ told.first) told.second told.says_second (within_back before told.first told.second all (subst Lines told.parts within)))
