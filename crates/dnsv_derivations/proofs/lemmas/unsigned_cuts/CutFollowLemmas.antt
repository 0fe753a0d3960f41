-- Each line of a name that may be unsigned follows from those before it.
use Rattle.std.proofs.Common.{◌+◌, ℕ, List, [], ◌∷◌, ◌++◌, None, map, refl, sym, ap, subst}
use Rattle.std.proofs.lemmas.List.Elements.{Contains-append_left}
use Rattle.dnsv_names.specs.Name.{Labels, rightmost}
use Rattle.dnsv_chain.specs.Trust.{KeptTrust, SecuredIn}
use Rattle.dnsv_denial.specs.unsigned_cuts.ShownCut.{IsShownCut}
use Rattle.dnsv_denial.specs.unsigned_cuts.ShownCut.IsShownCut.{no_ds, no_usable_ds, opt_out}
use Rattle.dnsv_canonical.specs.declared.number.RecordNumber.{RecordNumber}
use Rattle.dnsv_denial.specs.declared.unsigned_cuts.shown_cut.ShownCut.{ShownCut}
use Rattle.dnsv_derivations.specs.Explained.{Setting}
use Rattle.dnsv_derivations.specs.derivations.Derivations.Subject.{signature}
use Rattle.dnsv_derivations.specs.Following.{EachFollows, IsSaidSigned, IsSignatureSaid}
use Rattle.dnsv_derivations.specs.Following.Cases.{IsCaseBy}
use Rattle.dnsv_derivations.specs.derivations.OwnDerivations.{IsTrustIn}
use Rattle.dnsv_derivations.specs.unsigned_cuts.ShownCuts.{IsCutShownBy, IsCutTold}
use Rattle.dnsv_derivations.specs.Denials.IsShownBy.{no_ds as delegation_shown, opted_out}
use Rattle.dnsv_derivations.specs.unsigned_cuts.UnsignedCuts.{AreAllTold, AreToldFrom, IsUnusableTold}
use Rattle.dnsv_lines.specs.declared.line.Line.{Line}
use Rattle.dnsv_lines.specs.declared.line.Line.TheVariants as line
use Rattle.dnsv_lines.specs.declared.line.cut.InsecureCase.TheVariants as case
use Rattle.dnsv_lines.specs.declared.line.cut.UnusableDs.{UnusableDs}
use Rattle.dnsv_derivations.proofs.lemmas.denials.FollowLemmas.{both_follow, case_follows, denial_follows}
use Rattle.dnsv_derivations.proofs.lemmas.derivations.DerivationLemmas.{derivation_follows, signature_said}

signed_stays : (before more : List Line) (k : ℕ) → IsSaidSigned before k → IsSaidSigned (before ++ more) k
signed_stays before more k said = record {
  signed = said.signed;
  among = Contains-append_left before more (line.Signed said.signed) said.among;
  rrset = said.rrset;
}

module _ (setting : Setting) where
  each_unusable_follows : (k place : ℕ) (told : List UnusableDs) (before : List Line) → IsSaidSigned before k
      → AreToldFrom setting.rrsets k place told → EachFollows setting before (map (λ unusable. line.Unusable unusable) told)
  each_unusable_follows k place [] before said each = tt
  each_unusable_follows k place (unusable ∷ told) before said each =
      let Signed : ℕ → Type 0 = λ number. IsSaidSigned before number in (
        (each.1, subst Signed (sym (ap (λ (number : RecordNumber). number.rrset) each.0)) said),
        each_unusable_follows k (place + 1) told (before ++ line.Unusable unusable ∷ [])
            (signed_stays before (line.Unusable unusable ∷ []) k said) each.2,
      )

  all_unusable_follow : (k : ℕ) (before lines : List Line) → IsSaidSigned before k → AreAllTold setting.rrsets k before lines
      → EachFollows setting before lines
  all_unusable_follow k before lines said all =
      let Lines : List Line → Type 0 = λ each. EachFollows setting before each in
      subst Lines (sym all.first.are) (each_unusable_follows k 1 all.first.told before said all.first.each)

  unusable_said : (name : Labels) (before lines : List Line) (told : IsUnusableTold setting name before lines)
      → IsCaseBy (λ k s. IsSignatureSaid (before ++ told.told.first) (record { rrset = k; signature = s }))
      (IsSaidSigned (before ++ told.told.first)) setting.rrsets case.UnusableDs name None
  unusable_said name before lines told =
      let is = told.first.is in (
        refl,
        record {
          k = told.k;
          ds = is.ds;
          is_ds = is.is_ds;
          rtype = is.rtype;
          owner = is.owner;
          signed = signature_said setting before told.told.first (record { rrset = told.k; signature = told.s }) told.told.says_first;
          records = is.records;
          read = is.read;
          none = is.none;
        },
      )

  unusable_follows : (name : Labels) (before lines : List Line) → IsUnusableTold setting name before lines
      → EachFollows setting before lines
  unusable_follows name before lines told =
      let rest = told.told.says_second in
      let derived : List Line = before ++ told.told.first in
      both_follow setting _ _ before lines told.told
      (derivation_follows setting before (signature (record { rrset = told.k; signature = told.s })) told.told.first told.told.says_first)
      (both_follow setting _ _ derived told.told.second rest
      (case_follows setting case.UnusableDs name None derived rest.first rest.says_first (unusable_said name before lines told))
      (all_unusable_follow told.k (derived ++ rest.first) rest.second
      (signed_stays derived rest.first told.k
      (signature_said setting before told.told.first (record { rrset = told.k; signature = told.s }) told.told.says_first))
      rest.says_second))

  shown_follows : (trust : KeptTrust) → IsTrustIn setting trust → (name : Labels) (cut : ShownCut) (before lines : List Line)
      → IsShownCut (SecuredIn trust) setting.rrsets name cut → IsCutTold setting name cut before lines → EachFollows setting before lines
  shown_follows trust good name cut before lines (no_ds labels shown fewest is) told =
      denial_follows setting name shown before lines (trust, good, delegation_shown labels is) told
  shown_follows trust good name cut before lines (no_usable_ds labels none fewest) told =
      unusable_follows (rightmost name labels) before lines told
  shown_follows trust good name cut before lines (opt_out labels shown no_delegation no_unusable most is) told =
      denial_follows setting name shown before lines (trust, good, opted_out labels is) told

  pub cut_follows : (name : Labels) (cut : ShownCut) (before lines : List Line) → IsCutShownBy setting name cut
      → IsCutTold setting name cut before lines → EachFollows setting before lines
  cut_follows name cut before lines is told = shown_follows is.0 is.1 name cut before lines is.2 told
