-- Lists without repeats, and how few elements another list with the same ones can have.
use Rattle.std.proofs.Common.{◌≡◌, ◌⊎◌, inl, inr, ⊎_elim, ℕ, suc, ◌≤◌, Bool, List, [], ◌∷◌, length, map, refl, sym, ap, ◌∙◌, subst, arith, ◌↔◌, IsTrue}
use Rattle.std.proofs.lemmas.List.{length-map}
use Rattle.std.proofs.lemmas.Bool.{leb-true, le-leb}
use Rattle.std.proofs.Math.Dec.{leb}
use Rattle.std.specs.Prelude.{Contains, Result, IfOk}
use Rattle.std.specs.Borrow.{Bor}
use Rattle.std.specs.declared.alloc.AllocError.{AllocError}
use Rattle.dnsv_canonical.specs.Rrsets.{ReceivedRrset}
use Rattle.dnsv_canonical.proofs.ReadableLemmas.{IfOk-same}
use Rattle.std.specs.declared.cmp.Ordering.TheVariants.{Less}
use Rattle.std.specs.List.Sorted.{IsStrictlySortedBy}
use Rattle.std.proofs.lemmas.Cmp.{nat_list_cmp_total}
use Rattle.std.proofs.lemmas.Map.Lookups.{exact_bytes}
use Rattle.dnsv_canonical.specs.Canonical.{rdata_cmp, IsCanonical}
use Rattle.dnsv_canonical.specs.Evidence.{IsDistinct, AtMost, IsSmall}
use Rattle.dnsv_canonical.proofs.CanonicalLemmas.{IsMember, IsMember-from_contains, Contains-from_member, member_passes, never_below_itself}

-- what is left of a list without one of its elements
record Without {X : Type 0} (x : X) (ys : List X) : Type 0 where
  rest : List X
  shorter : length ys ≡ suc (length rest)
  others : (y : X) → IsMember y ys → (y ≡ x) ⊎ IsMember y rest

without : {X : Type 0} (x : X) (ys : List X) → IsMember x ys → Without x ys
without x [] member = absurd member
without x (y ∷ ys) (inl same) = record { rest = ys; shorter = refl; others = λ z member. ⊎_elim (λ is. inl (is ∙ sym same)) (λ later. inr later) member }
without x (y ∷ ys) (inr later) =
    let less = without x ys later in
    record {
      rest = y ∷ less.rest;
      shorter = ap suc less.shorter;
      others = λ z member. ⊎_elim (λ is. inr (inl is)) (λ other. ⊎_elim (λ same. inl same) (λ left. inr (inr left)) (less.others z other)) member;
    }

-- a list without repeats is no longer than a list that has all of its elements
fewest : {X : Type 0} (xs ys : List X) → IsDistinct xs → ((x : X) → IsMember x xs → IsMember x ys) → length xs ≤ length ys
fewest [] ys distinct all = omega arith
fewest (x ∷ xs) ys distinct all =
    let less = without x ys (all x (inl refl)) in
    let rest : length xs ≤ length less.rest =
    fewest xs less.rest distinct.1 (λ z member.
    ⊎_elim (λ same. absurd (distinct.0 (Contains-from_member xs x (subst (λ w. IsMember w xs) same member)))) (λ left. left) (less.others z (all z (inr member)))) in
    omega (arith, less.shorter, rest)

-- where a list has each of them and none twice, there are at most as many as it is long
pub few_where_distinct : {X : Type 0} (P : X → Type 0) (limit : ℕ) (xs : List X) → IsDistinct xs → ((x : X) → Contains xs x ↔ P x) → (length xs ≤ limit) ↔ AtMost limit P
few_where_distinct P limit xs distinct members = (
  λ few. (xs, few, λ x holds. (members x).1 holds),
  λ some. let shorter : length xs ≤ length some.0 = fewest xs some.0 distinct (λ x member. IsMember-from_contains some.0 x (some.2 x ((members x).0 (Contains-from_member xs x member)))) in omega (arith, shorter, some.1),
)

rising_distinct : (xs : List (List ℕ)) → IsStrictlySortedBy rdata_cmp xs → IsDistinct xs
unfolding IsStrictlySortedBy
rising_distinct [] rises = tt
rising_distinct (x ∷ xs) rises = (
  λ again. never_below_itself rdata_cmp nat_list_cmp_total exact_bytes _ x x refl (member_passes (λ y. rdata_cmp x y ≡ Less) xs x rises.0 (IsMember-from_contains xs x again)),
  rising_distinct xs rises.1,
)

pub few_where_canonical : (limit : ℕ) (received canonical : List (List ℕ)) → IsCanonical received canonical → (length canonical ≤ limit) ↔ AtMost limit (Contains received)
few_where_canonical limit received canonical is = few_where_distinct (Contains received) limit canonical (rising_distinct canonical is.rising) is.members

-- the keys that are left of a DNSKEY RRset's RDATA
pub few_keys : (received : List (List ℕ)) (keys : List (Bor (List ℕ))) → IsCanonical received (map (λ r. r.now) keys) → IsTrue (leb (length keys) 16) ↔ AtMost 16 (Contains received)
few_keys received keys is =
    let few = few_where_canonical 16 received (map (λ r. r.now) keys) is in (
      λ t. few.0 (omega (arith, leb-true _ _ t, length-map keys (λ (r : Bor (List ℕ)). r.now))),
      λ some. le-leb _ _ (omega (arith, few.1 some, length-map keys (λ (r : Bor (List ℕ)). r.now))),
    )

pub small_by_keys : (rrset : ReceivedRrset) (received : List (List ℕ)) → received ≡ rrset.rdata → rrset.rtype ≡ 48 → length rrset.signatures ≤ 16 → (answer : Result Bool AllocError)
    → IfOk answer (λ yes. IsTrue yes ↔ AtMost 16 (Contains received)) → IfOk answer (λ yes. IsTrue yes ↔ IsSmall rrset)
small_by_keys rrset received same is few answer decides =
    IfOk-same answer decides
    (λ keys. record { keys = λ _. subst (λ xs. AtMost 16 (Contains xs)) same keys; signatures = few })
    (λ small. subst (λ xs. AtMost 16 (Contains xs)) (sym same) (small.keys is))
