-- Where a list has all that are such, there is one that has just these, in order, and a first of them.
use Rattle.std.proofs.Common.{◌≡◌, List, [], ◌∷◌, ◌++◌, inl, inr, ⊎_elim, refl, sym, ap, ◌∙◌, subst}
use Rattle.std.specs.BTreeSet.{insert_key}
use Rattle.std.specs.Cmp.{IsTotalOrder}
use Rattle.std.specs.List.Sorted.{IsStrictlySortedBy}
use Rattle.std.specs.Ordering.{ordering_reverse}
use Rattle.std.specs.declared.cmp.Ordering.{Ordering}
use Rattle.std.specs.declared.cmp.Ordering.TheVariants.{Less, Equal, Greater}
use Rattle.dnsv_canonical.proofs.CanonicalLemmas.{IsMember, insert_of_member, member_of_insert, member_passes, never_below_itself, rising_insert}
use Rattle.dnsv_verdict.proofs.SureLemmas.{Surely, surely, and_then, by_cases}

-- some list has each that is such
abbrev pub IsFinite : {X : Type 0} → (X → Type 0) → Type 0
IsFinite {X} P = Surely ((xs : List X) × ((x : X) → P x → IsMember x xs))

pub finite_within : {X : Type 0} (P Q : X → Type 0) → ((x : X) → P x → Q x) → IsFinite Q → IsFinite P
finite_within P Q to finite = and_then finite (λ all. surely (all.0, λ x p. all.1 x (to x p)))

pub finite_one : {X : Type 0} (P : X → Type 0) → ((x y : X) → P x → P y → x ≡ y) → IsFinite P
finite_one {X} P one =
    by_cases ((x : X) × P x) (λ found. surely (found.0 ∷ [], λ x p. inl (one x found.0 p found.1)))
    (λ none. surely ([], λ x p. none (x, p)))

member_left : {X : Type 0} (xs ys : List X) (x : X) → IsMember x xs → IsMember x (xs ++ ys)
member_left [] ys x member = absurd member
member_left (first ∷ xs) ys x (inl same) = inl same
member_left (first ∷ xs) ys x (inr later) = inr (member_left xs ys x later)

member_right : {X : Type 0} (xs ys : List X) (x : X) → IsMember x ys → IsMember x (xs ++ ys)
member_right [] ys x member = member
member_right (first ∷ xs) ys x member = inr (member_right xs ys x member)

pub finite_each : {T X : Type 0} (ts : List T) (Of : T → X → Type 0) → ((t : T) → IsFinite (Of t))
    → IsFinite (λ x. (t : T) × IsMember t ts × Of t x)
finite_each [] Of each = surely ([], λ x of. of.1)
finite_each (t ∷ ts) Of each =
    and_then (each t) (λ here. and_then (finite_each ts Of each) (λ rest. surely (
      here.0 ++ rest.0,
      λ x of.
          ⊎_elim (λ (same : of.0 ≡ t). member_left here.0 rest.0 x (here.1 x (subst (λ u. Of u x) same of.2)))
          (λ (later : IsMember of.0 ts). member_right here.0 rest.0 x (rest.1 x (of.0, later, of.2))) of.1,
    )))

module _ {X : Type 0} (cmp : X → X → Ordering) (total : IsTotalOrder cmp) (exact : (a b : X) → cmp a b ≡ Equal → a ≡ b) (P : X → Type 0) where
  -- just those of a list that are such, each once, in order
  record IsKept (xs ys : List X) : Type 0 where
    pub rising : IsStrictlySortedBy cmp ys
    pub such : (x : X) → IsMember x ys → P x
    pub each : (x : X) → IsMember x xs → P x → IsMember x ys

  nothing_kept : IsKept [] []
  unfolding IsStrictlySortedBy
  nothing_kept = record { rising = tt; such = λ x member. absurd member; each = λ x member p. member }

  kept_with : (x : X) (xs ys : List X) → P x → IsKept xs ys → IsKept (x ∷ xs) (insert_key cmp ys x)
  kept_with x xs ys p kept = record {
    rising = rising_insert cmp total exact ys x kept.rising;
    such = λ y member. ⊎_elim (λ (same : y ≡ x). subst P (sym same) p) (λ (later : IsMember y ys). kept.such y later)
        (member_of_insert cmp total exact ys x y member);
    each = λ y member q. insert_of_member cmp total exact ys x y
        (⊎_elim (λ (same : y ≡ x). inl same) (λ (later : IsMember y xs). inr (kept.each y later q)) member);
  }

  kept_without : (x : X) (xs ys : List X) → (P x → ⊥) → IsKept xs ys → IsKept (x ∷ xs) ys
  kept_without x xs ys none kept = record {
    rising = kept.rising;
    such = kept.such;
    each = λ y member q. ⊎_elim (λ (same : y ≡ x). absurd (none (subst P same q))) (λ (later : IsMember y xs). kept.each y later q) member;
  }

  some_kept : (xs : List X) → Surely ((ys : List X) × IsKept xs ys)
  some_kept [] = surely ([], nothing_kept)
  some_kept (x ∷ xs) =
      and_then (some_kept xs) (λ rest. by_cases (P x)
      (λ p. surely (insert_key cmp rest.0 x, kept_with x xs rest.0 p rest.1))
      (λ none. surely (rest.0, kept_without x xs rest.0 none rest.1)))

  -- just those that are such, in order
  pub record AreAll (ys : List X) : Type 0 where
    pub rising : IsStrictlySortedBy cmp ys
    pub such : (x : X) → IsMember x ys → P x
    pub each : (x : X) → P x → IsMember x ys

  pub some_sorted : IsFinite P → Surely ((ys : List X) × AreAll ys)
  some_sorted finite =
      and_then finite (λ all. and_then (some_kept all.0) (λ kept. surely (
        kept.0,
        record {
          rising = kept.1.rising;
          such = kept.1.such;
          each = λ x p. kept.1.each x (all.1 x p) p;
        },
      )))

  never_both : (x y : X) → cmp x y ≡ Less → cmp y x ≡ Less → ⊥
  never_both x y less more = let turned : Less ≡ Greater = sym less ∙ total.antisymm x y ∙ ap ordering_reverse more in cc

  first_of : (ys : List X) → AreAll ys → (x : X) → P x → (first : X) × P first × ((other : X) → P other → cmp other first ≡ Less → ⊥)
  unfolding IsStrictlySortedBy
  first_of [] all x p = absurd (all.each x p)
  first_of (y ∷ ys) all x p = (
    y,
    all.such y (inl refl),
    λ other q less.
        ⊎_elim (λ (same : other ≡ y). never_below_itself cmp total exact ⊥ other y same less)
        (λ (later : IsMember other ys). never_both other y less (member_passes (λ z. cmp y z ≡ Less) ys other all.rising.0 later))
        (all.each other q),
  )

  pub some_first : IsFinite P → (x : X) → P x → Surely ((first : X) × P first × ((other : X) → P other → cmp other first ≡ Less → ⊥))
  some_first finite x p = and_then (some_sorted finite) (λ all. surely (first_of all.0 all.1 x p))
