-- Members of lists, and of lists of lists.
use Rattle.std.proofs.Common.{◌≡◌, ◌+◌, ◌-◌, ◌⊎◌, ℕ, suc, inl, inr, List, [], ◌∷◌, Some, refl, sym, subst, ⊎_elim, arith}
use Rattle.std.proofs.lemmas.List.Elements.{Contains-append_cases, Contains-push_cases}
use Rattle.std.specs.List.{Contains, slice_get}
use Rattle.dnsv_canonical.specs.Rrsets.{IsNumbered, ReceivedRrset}
use Rattle.dnsv_chain.specs.Trusted.{IsKeyOf}
use Rattle.dnsv_verifier.specs.Admissible.{DnskeyRecord, IsKeyAmong}
use Rattle.dnsv_derivations.specs.Listing.{AreOfNumbered}
use Rattle.dnsv_derivations.proofs.lemmas.NumberedLemmas.{among}

-- ---- members of lists

pub none_in : {X : Type 0} (xs : List X) (x : X) → xs ≡ [] → Contains xs x → ⊥
none_in {X = X} xs x none there =
    let In : List X → Type 0 = λ each. Contains each x in
    let at : Contains [] x = subst In none there in
    let within = at.1 in omega (arith, within)

-- of a list with one before others a member is the one, or among the others
pub first_or_rest : {X : Type 0} (first : X) (rest : List X) (x : X) → Contains (first ∷ rest) x → (x ≡ first) ⊎ Contains rest x
first_or_rest first rest x there = ⊎_elim
    (λ (one : Contains (first ∷ []) x). ⊎_elim
    (λ (none : Contains [] x). absurd (none_in [] x refl none))
    (λ (same : first ≡ x). inl (sym same))
    (Contains-push_cases [] first x one))
    (λ (other : Contains rest x). inr other)
    (Contains-append_cases (first ∷ []) rest x there)

module _ {X Y : Type 0} (Are : ℕ → X → List Y → Type 0) where
  -- the member is in the list of the i-th
  pub record IsMemberOf (k : ℕ) (xs : List X) (y : Y) : Type 0 where
    pub i : ℕ
    pub x : X
    pub ys : List Y
    pub at : slice_get xs i ≡ Some x
    pub are : Are (k + i) x ys
    pub there : Contains ys y

  pub member_of : (k : ℕ) (xs : List X) (ys : List Y) → AreOfNumbered Are k xs ys → (y : Y) → Contains ys y → IsMemberOf k xs y
  member_of k [] ys none y there = absurd (none_in ys y none there)
  member_of k (x ∷ xs) ys each y there =
      let In : List Y → Type 0 = λ all. Contains all y in
      ⊎_elim
      (λ (one : Contains each.first y).
      let At : ℕ → Type 0 = λ n. Are n x each.first in
      let here : k ≡ k + 0 = omega arith in
      let found : IsMemberOf k (x ∷ xs) y =
      record { i = 0; x = x; ys = each.first; at = refl; are = subst At here each.is_first; there = one } in found)
      (λ (later : Contains each.second y).
      let m = member_of (k + 1) xs each.second each.is_second y later in
      let At : ℕ → Type 0 = λ n. Are n m.x m.ys in
      let i : ℕ = m.i in
      let behind : k + 1 + i ≡ k + suc i = omega arith in
      let found : IsMemberOf k (x ∷ xs) y =
      record { i = suc i; x = m.x; ys = m.ys; at = m.at; are = subst At behind m.are; there = m.there } in found)
      (Contains-append_cases each.first each.second y (subst In each.parts there))

-- ---- numbers

pub numbered_from : {X : Type 0} (xs : List X) (i : ℕ) (x : X) → slice_get xs i ≡ Some x → IsNumbered xs (1 + i) x
numbered_from {X = X} xs i x at =
    let place : i ≡ 1 + i - 1 = omega arith in
    let At : ℕ → Type 0 = λ p. slice_get xs p ≡ Some x in (omega arith, subst At place at)

-- ---- keys

pub key_among : (rrsets : List ReceivedRrset) (k : ℕ) (set : ReceivedRrset) (key : DnskeyRecord) → IsNumbered rrsets k set
    → IsKeyOf set key → IsKeyAmong rrsets key
key_among rrsets k set key numbered stands = record {
  rrset = set;
  among = among rrsets k set numbered;
  rtype = stands.rtype;
  owner = stands.owner;
  rdata = stands.among;
  is = stands.is;
}
