-- Lines that no line before them says, and of which none stands twice.
use Rattle.std.proofs.Common.{◌≡◌, ◌≢◌, ◌++◌, ℕ, List, [], ◌∷◌, refl, sym, subst, ⊎_elim}
use Rattle.std.proofs.lemmas.List.Elements.{Contains-append_cases, Contains-append_left, Contains-append_right}
use Rattle.std.specs.List.{Contains}
use Rattle.dnsv_reasons.specs.laws.Once.{AreOnce}
use Rattle.dnsv_derivations.specs.Saying.{AreBoth, AreEach, IsOnce}
use Rattle.dnsv_lines.specs.declared.line.Line.{Line}
use Rattle.dnsv_lines.specs.declared.line.Line.TheVariants as line
use Rattle.dnsv_explain_laws.proofs.holding.MemberLemmas.{first_or_rest, none_in}
use Rattle.dnsv_explain_laws.proofs.lemmas.whole.ListLemmas.{once_append, once_one}

-- ---- what kind of line it is

-- 0 is what is derived or shown, 5 what fails
abbrev pub kind : Line → ℕ
kind (line.Trusted told) = 0
kind (line.Signed told) = 0
kind (line.Proof told) = 0
kind (line.Part told) = 0
kind (line.Case told) = 1
kind (line.Unusable told) = 2
kind (line.Hope told) = 3
kind (line.Holds told) = 4
kind (line.Reason told) = 5
kind (line.Follows told) = 5
kind (line.Key told) = 6
kind (line.Rrset told) = 7

-- each of the lines has such a kind
abbrev pub HaveKinds : (ℕ → Type 0) → List Line → Type 0
HaveKinds Such lines = (each : Line) → Contains lines each → Such (kind each)

-- none has this one
abbrev pub Lack : ℕ → List Line → Type 0
Lack n lines = HaveKinds (λ k. k ≢ n) lines

-- no line before says one of them, and none stands twice
pub record IsFresh (Such : ℕ → Type 0) (before lines : List Line) : Type 0 where
  pub once : AreOnce lines
  pub unsaid : (each : Line) → Contains lines each → ¬ Contains before each
  pub kinds : HaveKinds Such lines

pub weaker : (One Other : ℕ → Type 0) → ((n : ℕ) → One n → Other n) → (before lines : List Line) → IsFresh One before lines
    → IsFresh Other before lines
weaker One Other leads before lines fresh = record {
  once = fresh.once;
  unsaid = fresh.unsaid;
  kinds = λ each there. leads (kind each) (fresh.kinds each there);
}

-- what has another kind than the line isn't it
pub lacks : (n : ℕ) (lines : List Line) → Lack n lines → (this : Line) → kind this ≡ n → ¬ Contains lines this
lacks n lines lack this is there = lack this there is

module _ (Such : ℕ → Type 0) where
  pub kinds_append : (first second : List Line) → HaveKinds Such first → HaveKinds Such second → HaveKinds Such (first ++ second)
  kinds_append first second one two each there = ⊎_elim
      (λ (left : Contains first each). one each left)
      (λ (right : Contains second each). two each right)
      (Contains-append_cases first second each there)

  pub kinds_one : (this : Line) → Such (kind this) → HaveKinds Such (this ∷ [])
  kinds_one this such each there =
      let Kind : Line → Type 0 = λ one. Such (kind one) in
      ⊎_elim (λ (same : each ≡ this). subst Kind (sym same) such)
      (λ (later : Contains [] each). absurd (none_in [] each refl later))
      (first_or_rest this [] each there)

  pub none_fresh : (before lines : List Line) → lines ≡ [] → IsFresh Such before lines
  none_fresh before lines none =
      let Fresh : List Line → Type 0 = λ all. IsFresh Such before all in
      subst Fresh (sym none)
      (record { once = tt; unsaid = λ each there. absurd (none_in [] each refl there); kinds = λ each there. absurd (none_in [] each refl there) })

  pub one_fresh : (before lines : List Line) (this : Line) → lines ≡ this ∷ [] → ¬ Contains before this → Such (kind this)
      → IsFresh Such before lines
  one_fresh before lines this is unsaid such =
      let Fresh : List Line → Type 0 = λ all. IsFresh Such before all in
      let Before : Line → Type 0 = λ one. ¬ Contains before one in
      subst Fresh (sym is) (record {
        once = once_one this;
        unsaid = λ each there. ⊎_elim (λ (same : each ≡ this). subst Before (sym same) unsaid)
            (λ (later : Contains [] each). absurd (none_in [] each refl later))
            (first_or_rest this [] each there);
        kinds = kinds_one this such;
      })

  pub append_fresh : (before first second : List Line) → IsFresh Such before first → IsFresh Such (before ++ first) second
      → IsFresh Such before (first ++ second)
  append_fresh before first second one two = record {
    once = once_append first second one.once two.once
        (λ each left right. two.unsaid each right (Contains-append_right before first each left));
    unsaid = λ each there. ⊎_elim
        (λ (left : Contains first each). one.unsaid each left)
        (λ (right : Contains second each). λ (earlier : Contains before each). two.unsaid each right (Contains-append_left before first each earlier))
        (Contains-append_cases first second each there);
    kinds = kinds_append first second one.kinds two.kinds;
  }

  pub both_fresh : (First Second : List Line → List Line → Type 0) (before lines : List Line) (told : AreBoth First Second before lines)
      → IsFresh Such before told.first → IsFresh Such (before ++ told.first) told.second → IsFresh Such before lines
  both_fresh First Second before lines told one two =
      let Fresh : List Line → Type 0 = λ all. IsFresh Such before all in
      subst Fresh (sym told.parts) (append_fresh before told.first told.second one two)

  pub each_fresh : {X : Type 0} (Says : X → List Line → List Line → Type 0)
      → ((x : X) (old new : List Line) → Says x old new → IsFresh Such old new) → (xs : List X) (before lines : List Line)
      → AreEach Says xs before lines → IsFresh Such before lines
  each_fresh Says one [] before lines none = none_fresh before lines none
  each_fresh Says one (x ∷ xs) before lines told =
      both_fresh (Says x) (AreEach Says xs) before lines told (one x before told.first told.says_first)
      (each_fresh Says one xs (before ++ told.first) told.second told.says_second)

  pub once_fresh : (IsSaid : List Line → Type 0) (this : Line) (before lines : List Line) → IsOnce IsSaid this before lines
      → (Contains before this → IsSaid before) → Such (kind this) → IsFresh Such before lines
  once_fresh IsSaid this before lines told says such = ⊎_elim
      (λ (said : IsSaid before × (lines ≡ [])). none_fresh before lines said.1)
      (λ (unsaid : (¬ IsSaid before) × (lines ≡ this ∷ [])).
      one_fresh before lines this unsaid.1 (λ there. unsaid.0 (says there)) such)
      told
