-- How far trust holds: what is derived of each name, and that it follows.
use Rattle.std.proofs.Common.{◌≡◌, ◌+◌, ◌<◌, ◌≤◌, ℕ, zero, suc, List, [], ◌∷◌, ◌++◌, arith, get_or, length, refl, sym, ap, ◌∙◌, subst, inl, inr, ⊎_elim, ◌↔◌, Bool, true, false, Option, Some, None}
use Rattle.std.proofs.lemmas.Bool.{cases_lt}
use Rattle.std.specs.Prelude.{MatchOption, is_some}
use Rattle.dnsv_names.specs.Name.{Labels, rightmost}
use Rattle.dnsv_canonical.specs.Index.{numbers_at}
use Rattle.dnsv_canonical.specs.Rrsets.{ReceivedRrset}
use Rattle.dnsv_derivations.specs.Explained.{Setting}
use Rattle.dnsv_derivations.specs.Following.{EachFollows}
use Rattle.dnsv_derivations.specs.Saying.{Adds, AreEach}
use Rattle.dnsv_derivations.specs.derivations.Derivations.{IsDerivation, IsLowestSecured}
use Rattle.dnsv_derivations.specs.derivations.Derivations.Subject.{keys, signature}
use Rattle.dnsv_derivations.specs.derivations.HeldTo.{IsFirstDerived, IsHeldAt, IsHeldBelow, IsHeldTo, IsLowestDerived}
use Rattle.dnsv_derivations.specs.derivations.HeldTo.IsLowestDerived.{signed, unsigned}
use Rattle.dnsv_derivations.specs.derivations.OwnDerivations.{IsSignatureTold}
use Rattle.dnsv_derivations.specs.derivations.Ways.{IsTrustedLine, IsTrustedSet}
use Rattle.dnsv_lines.specs.declared.line.Line.{Line}
use Rattle.dnsv_canonical.specs.declared.number.SignatureNumber.{SignatureNumber}
use Rattle.dnsv_lines.specs.declared.line.derivation.TrustedKeys.{TrustedKeys}
use Rattle.dnsv_derivations.proofs.lemmas.SayingLemmas.{both_added, nothing_added}
use Rattle.dnsv_derivations.proofs.lemmas.denials.FollowLemmas.{both_follow, each_follow}
use Rattle.dnsv_derivations.proofs.lemmas.derivations.ClimbLemmas.{number_is}
use Rattle.dnsv_derivations.proofs.lemmas.derivations.DerivationLemmas.{derivation_follows}
use Rattle.dnsv_derivations.proofs.lemmas.derivations.WayLemmas.{way_leads}

module _ (setting : Setting) where
  -- ---- each line follows

  lowest_follows : (k : ℕ) (before lines : List Line) → IsLowestDerived setting k before lines → EachFollows setting before lines
  lowest_follows k before lines (unsigned none empty) =
      let Lines : List Line → Type 0 = λ all. EachFollows setting before all in subst Lines (sym empty) tt
  lowest_follows k before lines (signed s lowest derivation) =
      derivation_follows setting before (signature (record { rrset = k; signature = s })) lines derivation

  first_follows : (numbers : List ℕ) (before lines : List Line) → IsFirstDerived setting numbers before lines
      → EachFollows setting before lines
  first_follows [] before lines empty =
      let Lines : List Line → Type 0 = λ all. EachFollows setting before all in subst Lines (sym empty) tt
  first_follows (k ∷ rest) before lines told = ⊎_elim
      (λ (this : IsTrustedSet setting k × IsDerivation setting before (keys k) lines). derivation_follows setting before (keys k) lines this.1)
      (λ (later : (¬ IsTrustedSet setting k) × IsFirstDerived setting rest before lines). first_follows rest before lines later.1) told

  held_at_follows : (name : Labels) (before lines : List Line) → IsHeldAt setting name before lines → EachFollows setting before lines
  held_at_follows name before lines told =
      both_follow setting _ _ before lines told
      (each_follow setting (IsLowestDerived setting) (λ all. Unit {0}) (λ all more given. tt) (numbers_at setting.rrsets name 43)
      (λ k there all more given one. lowest_follows k all more one) before told.first tt told.says_first)
      (first_follows (numbers_at setting.rrsets name 48) (before ++ told.first) told.second told.says_second)

  held_below_follows : (name : Labels) (count : ℕ) (before lines : List Line) → IsHeldBelow setting name count before lines
      → EachFollows setting before lines
  held_below_follows name zero before lines empty =
      let Lines : List Line → Type 0 = λ all. EachFollows setting before all in subst Lines (sym empty) tt
  held_below_follows name (suc count) before lines told =
      both_follow setting _ _ before lines told (held_below_follows name count before told.first told.says_first)
      (held_at_follows (rightmost name count) (before ++ told.first) told.second told.says_second)

  pub held_follows : (name : Labels) (before lines : List Line) → IsHeldTo setting name before lines → EachFollows setting before lines
  held_follows name before lines told = held_below_follows name (length name + 1) before lines told

  -- ---- what is added

  pub lowest_added : (k : ℕ) (number : SignatureNumber) (old new : List Line) → number.rrset ≡ k → IsLowestSecured setting k number.signature
      → Adds (IsSignatureTold setting number) old new → Adds (IsLowestDerived setting k) old new
  lowest_added k number old new same lowest added =
      let Derives : SignatureNumber → Type 0 = λ each. IsDerivation setting old (signature each) added.more in record {
        more = added.more;
        is = added.is;
        says = signed number.signature lowest (subst Derives (number_is number k same) added.says);
      }

  pub held_at_added : (name : Labels) (all : List ReceivedRrset) (ds dnskey : List ℕ) (old mid new : List Line) → all ≡ setting.rrsets
      → ds ≡ numbers_at all name 43 → dnskey ≡ numbers_at all name 48
      → Adds (AreEach (IsLowestDerived setting) ds) old mid → Adds (IsFirstDerived setting dnskey) mid new
      → Adds (IsHeldAt setting name) old new
  held_at_added name all ds dnskey old mid new same ds_is dnskey_is one two =
      let First : List ℕ → Type 0 = λ each. Adds (AreEach (IsLowestDerived setting) each) old mid in
      let Second : List ℕ → Type 0 = λ each. Adds (IsFirstDerived setting each) mid new in
      both_added (AreEach (IsLowestDerived setting) (numbers_at setting.rrsets name 43)) (IsFirstDerived setting (numbers_at setting.rrsets name 48))
      old mid new
      (subst First (ds_is ∙ ap (λ each. numbers_at each name 43) same) one)
      (subst Second (dnskey_is ∙ ap (λ each. numbers_at each name 48) same) two)

  pub none_held : (name : Labels) (lines : List Line) → Adds (IsHeldBelow setting name 0) lines lines
  none_held name lines = nothing_added lines (IsHeldBelow setting name 0) refl

  pub more_held : (name at : Labels) (count : ℕ) (old mid new : List Line) → at ≡ rightmost name count
      → Adds (IsHeldBelow setting name count) old mid → Adds (IsHeldAt setting at) mid new
      → Adds (IsHeldBelow setting name (count + 1)) old new
  more_held name at count old mid new is before one =
      let At : Labels → Type 0 = λ each. Adds (IsHeldAt setting each) mid new in
      let To : ℕ → Type 0 = λ each. Adds (IsHeldBelow setting name each) old new in
      let next : suc count ≡ count + 1 = omega arith in
      subst To next (both_added (IsHeldBelow setting name count) (IsHeldAt setting (rightmost name count)) old mid new before (subst At is one))

  -- ---- the first trusted RRset

  -- none of the first n numbers is trusted
  abbrev pub NoneTrusted : List ℕ → ℕ → Type 0
  NoneTrusted numbers n = (i : ℕ) → i < n → i < length numbers → ¬ IsTrustedSet setting (get_or numbers i 0)

  pub none_first : (numbers : List ℕ) (n : ℕ) (before : List Line) → length numbers ≤ n → NoneTrusted numbers n
      → IsFirstDerived setting numbers before []
  none_first [] n before past none = refl
  none_first (k ∷ rest) n before past none =
      inr (
        none 0 (omega (arith, past)) (omega arith),
        none_first rest (length rest) before (omega arith) (λ i within inside. none (suc i) (omega (arith, within, past)) (omega (arith, inside))),
      )

  pub this_first : (numbers : List ℕ) (n : ℕ) (before lines : List Line) → n < length numbers → NoneTrusted numbers n
      → IsTrustedSet setting (get_or numbers n 0) → IsDerivation setting before (keys (get_or numbers n 0)) lines
      → IsFirstDerived setting numbers before lines
  this_first [] n before lines within none trusted derivation = absurd (omega (arith, within))
  this_first (k ∷ rest) zero before lines within none trusted derivation = inl (trusted, derivation)
  this_first (k ∷ rest) (suc n) before lines within none trusted derivation =
      inr (
        none 0 (omega arith) (omega arith),
        this_first rest n before lines (omega (arith, within)) (λ i below inside. none (suc i) (omega (arith, below)) (omega (arith, inside)))
            trusted derivation,
      )

  pub none_trusted : (numbers : List ℕ) → NoneTrusted numbers 0
  none_trusted numbers = λ i below within trusted. absurd (omega (arith, below))

  pub none_more : (numbers : List ℕ) (n : ℕ) → ¬ IsTrustedSet setting (get_or numbers n 0) → NoneTrusted numbers n
      → NoneTrusted numbers (n + 1)
  none_more numbers n never none = λ i below within trusted. ⊎_elim
      (λ (earlier : i < n). none i earlier within trusted)
      (λ (later : n ≤ i).
      let place : i ≡ n = omega (arith, below, later) in
      let At : ℕ → Type 0 = λ p. IsTrustedSet setting (get_or numbers p 0) in
      never (subst At place trusted))
      (cases_lt i n)

  pub none_first_added : (numbers : List ℕ) (n : ℕ) (old new : List Line) → length numbers ≤ n → NoneTrusted numbers n → new ≡ old
      → Adds (IsFirstDerived setting numbers) old new
  none_first_added numbers n old new past none same =
      let To : List Line → Type 0 = λ lines. Adds (IsFirstDerived setting numbers) old lines in
      subst To (sym same) (nothing_added old (IsFirstDerived setting numbers) (none_first numbers n old past none))

  pub first_added : (numbers : List ℕ) (n : ℕ) (old mid before more new : List Line) → n < length numbers → NoneTrusted numbers n
      → mid ≡ old → before ≡ mid → IsTrustedSet setting (get_or numbers n 0)
      → IsDerivation setting before (keys (get_or numbers n 0)) more → new ≡ mid ++ more
      → Adds (IsFirstDerived setting numbers) old new
  first_added numbers n old mid before more new within none same told trusted derivation appended =
      let Before : List Line → Type 0 = λ lines. IsDerivation setting lines (keys (get_or numbers n 0)) more in record {
        more = more;
        is = appended ∙ ap (λ front. front ++ more) same;
        says = this_first numbers n old more within none trusted (subst Before (told ∙ same) derivation);
      }

-- a DNSKEY RRset has a line just where it is trusted
pub line_or_not : (setting : Setting) (k : ℕ) (found : Option TrustedKeys) (some : Bool)
    → MatchOption found (¬ IsTrustedSet setting k) (IsTrustedLine setting k) → some ≡ is_some found → (some ≡ true) ↔ IsTrustedSet setting k
line_or_not setting k None some none is = (
  λ yes. let no : some ≡ false = is in cc,
  λ trusted. absurd (none trusted),
)
line_or_not setting k (Some trusted_keys) some line is = (
  λ yes. (line.first.is.set, line.first.is.good.is_rrset, way_leads setting k line.way line.first.is),
  λ trusted. is,
)
