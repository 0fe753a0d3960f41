-- What each line says of a name that may be unsigned is so.
use Rattle.std.proofs.Common.{ℕ, List, ◌++◌, Option, None, inl, refl, sym, subst}
use Rattle.dnsv_names.specs.Name.{Labels, IsAtOrBelow, rightmost}
use Rattle.dnsv_names.specs.Tree.AncestorLaws.{rightmost_above}
use Rattle.dnsv_chain.specs.Trust.{KeptTrust, SecuredIn as KeptIn}
use Rattle.dnsv_denial.specs.unsigned_cuts.ShownCut.{IsShownCut}
use Rattle.dnsv_denial.specs.unsigned_cuts.ShownCut.IsShownCut.{no_ds, no_usable_ds, opt_out}
use Rattle.dnsv_denial.specs.declared.unsigned_cuts.shown_cut.ShownCut.{ShownCut}
use Rattle.dnsv_derivations.specs.Denials.{IsDenialTold}
use Rattle.dnsv_derivations.specs.Explained.{Setting}
use Rattle.dnsv_derivations.specs.Saying.{AreBoth}
use Rattle.dnsv_derivations.specs.derivations.OwnDerivations.{IsSignatureTold, IsTrustIn}
use Rattle.dnsv_derivations.specs.unsigned_cuts.ShownCuts.{IsCutTold}
use Rattle.dnsv_derivations.specs.unsigned_cuts.UnsignedCuts.{AreAllTold, IsCaseTold, IsUnusableTold}
use Rattle.dnsv_lines.specs.declared.line.Line.{Line}
use Rattle.dnsv_lines.specs.declared.line.Line.TheVariants as line
use Rattle.dnsv_lines.specs.declared.line.cut.InsecureCase.{InsecureCase}
use Rattle.dnsv_lines.specs.declared.line.cut.InsecureCase.TheVariants as case
use Rattle.dnsv_holding.specs.Holding.{IsUnsignedFromTold, signature_of}
use Rattle.dnsv_holding.specs.Holding.IsUnsignedFromTold.{by_cut, by_wildcard}
use Rattle.dnsv_explain_laws.proofs.holding.EachLemmas.{Each, mapped_each, one_each}
use Rattle.dnsv_rules.specs.Checked.{Asked}
use Rattle.dnsv_rules.proofs.checks.DerivedLemmas.{signature_so}
use Rattle.dnsv_rules.proofs.checks.ShownLemmas.{delegation_told, opt_out_told, out_closer_told}
use Rattle.dnsv_rules.proofs.checks.StepLemmas.{So, both_so, denial_so}
use Rattle.dnsv_rules.proofs.checks.TellLemmas.{AreWithin}

module _ (setting : Setting) (aliases : List Labels) (name : Labels) (t : ℕ) (all : List Line) where
  abbrev here : Asked
  here = record { aliases = aliases; name = name; rtype = t }

  abbrev Are : List Line → Type 0
  Are lines = Each (So setting here all) lines

  -- the name of a case is at or above the question's
  case_so : (kind : InsecureCase) (labels : ℕ) (of_zone : Option Labels) (before lines : List Line)
      → IsCaseTold kind (rightmost name labels) of_zone before lines → Are lines
  case_so kind labels of_zone before lines told =
      let Above : Labels → Type 0 = λ each. IsAtOrBelow name each in
      one_each (So setting here all) (line.Case told.cut) lines told.are (subst Above (sym told.is_name) (rightmost_above name labels))

  -- ---- a DS RRset without a record that can be used

  unusables_so : (k : ℕ) (before lines : List Line) → AreAllTold setting.rrsets k before lines → Are lines
  unusables_so k before lines told =
      mapped_each (So setting here all) (λ unusable. line.Unusable unusable) (λ unusable. tt) told.first.told lines told.first.are

  unusable_so : (labels : ℕ) (before lines : List Line) → IsUnusableTold setting (rightmost name labels) before lines
      → AreWithin (before ++ lines) all → Are lines
  unusable_so labels before lines told within =
      let whole = told.told in
      both_so setting here all (IsSignatureTold setting (signature_of told.k told.s))
      (AreBoth (IsCaseTold case.UnusableDs (rightmost name labels) None) (AreAllTold setting.rrsets told.k)) before lines whole within
      (λ inside. signature_so setting here all (signature_of told.k told.s) before whole.first whole.says_first)
      (λ back. both_so setting here all (IsCaseTold case.UnusableDs (rightmost name labels) None) (AreAllTold setting.rrsets told.k)
      (before ++ whole.first) whole.second whole.says_second back
      (λ inside. case_so case.UnusableDs labels None (before ++ whole.first) whole.says_second.first whole.says_second.says_first)
      (λ behind. unusables_so told.k ((before ++ whole.first) ++ whole.says_second.first) whole.says_second.second whole.says_second.says_second))

  -- ---- a cut

  cut_so : (trust : KeptTrust) → IsTrustIn setting trust → (cut : ShownCut) (before lines : List Line)
      → IsShownCut (KeptIn trust) setting.rrsets name cut → IsCutTold setting name cut before lines → AreWithin (before ++ lines) all → Are lines
  cut_so trust good _ before lines (no_ds labels shown fewest is) told within =
      denial_so setting here all name (inl refl) shown (delegation_told setting trust good all aliases name t shown labels is) before lines told within
  cut_so trust good _ before lines (no_usable_ds labels none fewest) told within = unusable_so labels before lines told within
  cut_so trust good _ before lines (opt_out labels shown no_delegation no_unusable most is) told within =
      denial_so setting here all name (inl refl) shown (opt_out_told setting trust good all aliases name t shown labels is) before lines told within

  pub unsigned_from_so : (before lines : List Line) → IsUnsignedFromTold setting name t before lines → AreWithin (before ++ lines) all → Are lines
  unsigned_from_so before lines (by_cut shown is told) within = cut_so is.0 is.1 shown before lines is.2 told within
  unsigned_from_so before lines (by_wildcard trust good none k s first shown is told) within =
      both_so setting here all (IsSignatureTold setting (signature_of k s)) (IsDenialTold setting name shown) before lines told within
      (λ inside. signature_so setting here all (signature_of k s) before told.first told.says_first)
      (λ back. denial_so setting here all name (inl refl) shown
      (out_closer_told setting trust good all aliases name t shown first.such.rrsig.labels first.such.rrsig.signer is) (before ++ told.first)
      told.second told.says_second back)
