-- Records of a kind, gathered by place in an RRset and then by the numbers of RRsets.
use Rattle.std.proofs.Common.{◌≡◌, ℕ, ◌+◌, ◌-◌, ◌<◌, ◌≤◌, ◌⊎◌, List, [], ◌∷◌, ◌++◌, length, get_or, take, refl, sym, ap, ◌∙◌, subst, inl, inr, ⊎_elim, arith, append-nil, append_assoc}
use Rattle.std.proofs.lemmas.Bool.{cases_lt}
use Rattle.std.proofs.lemmas.Cmp.{ranked}
use Rattle.std.proofs.lemmas.List.{get_or-take, get_or_default, length-take-le, take_all, take_more}
use Rattle.std.proofs.lemmas.List.Elements.{Contains-append_left, Contains-append_right, Contains-push_cases}
use Rattle.std.proofs.lemmas.Map.Keys.{Less-from_sorted}
use Rattle.std.specs.List.Sorted.{IsStrictlySortedBy}
use Rattle.std.specs.Ordering.{nat_cmp}
use Rattle.std.specs.Prelude.{Contains}
use Rattle.std.specs.declared.cmp.Ordering.TheVariants.{Less}
use Rattle.dnsv_denial.specs.gathering.Gathered.{AreAll}
use Rattle.dnsv_proof_forms.specs.records.Numbers.{number_cmp}
use Rattle.dnsv_canonical.specs.declared.number.RecordNumber.{RecordNumber}
use Rattle.dnsv_denial.proofs.lemmas.gathering.EvidenceLemmas.{same_rrset_less, earlier_rrset_less, all_joined, all_none, all_single, all_said}

abbrev pub UpTo : ℕ → ℕ → RecordNumber → Type 0
UpTo k place n = (n.rrset ≡ k) × (n.place ≤ place)

number_is : (n : RecordNumber) (k place : ℕ) → n.rrset ≡ k → n.place ≡ place → n ≡ record { rrset = k; place = place }
number_is n k place rrset at = λ i. record { rrset = rrset i; place = at i }

before_last : (k place : ℕ) (x : RecordNumber) → UpTo k place x → number_cmp x (record { rrset = k; place = place + 1 }) ≡ Less
before_last k place x within =
    subst (λ z. number_cmp z (record { rrset = k; place = place + 1 }) ≡ Less) (sym (number_is x k x.place within.0 refl)) (same_rrset_less k x.place (place + 1) (omega (arith, within.1)))

-- what is listed before is less
before_next : (numbers : List ℕ) (i : ℕ) → IsStrictlySortedBy nat_cmp numbers → i < length numbers → (k : ℕ) → Contains (take i numbers) k → k < get_or numbers i 0
before_next numbers i rising within k (j, early, at) =
    let count = length-take-le i numbers (omega (arith, within)) in
    let sooner : j < i = omega (arith, early, count) in
    let here : get_or (take i numbers) j k ≡ get_or numbers j k = get_or-take i numbers j k sooner in
    let less : nat_cmp (get_or numbers j 0) (get_or numbers i 0) ≡ Less = Less-from_sorted nat_cmp numbers j i 0 rising sooner within in
    let same : get_or numbers j 0 ≡ k = get_or_default numbers j 0 k (omega (arith, sooner, within)) ∙ sym here ∙ at in
    subst (λ n. n < get_or numbers i 0) same (ranked (get_or numbers j 0) (get_or numbers i 0) Less (sym less))

module _ {E X : Type 0} (number : E → RecordNumber) (value : E → X) (Is : RecordNumber → X → Type 0) where
  pub record Grown (Within : RecordNumber → Type 0) (before now : List E) : Type 0 where
    pub more : List E
    pub grown : now ≡ before ++ more
    pub are : AreAll number value Is Within more

  -- ---- in an RRset

  pub grown_none : (k : ℕ) (before : List E) → ((n : RecordNumber) (x : X) → Is n x → 1 ≤ n.place) → Grown (UpTo k 0) before before
  grown_none k before from_one = record {
    more = [];
    grown = sym (append-nil before);
    are = all_none number value Is (UpTo k 0) (λ n x within is. omega (arith, from_one n x is, within.1));
  }

  pub grown_one : (k place : ℕ) (e : E) (before now next : List E) → number e ≡ record { rrset = k; place = place + 1 } → Is (record { rrset = k; place = place + 1 }) (value e)
      → ((x : X) → Is (record { rrset = k; place = place + 1 }) x → value e ≡ x) → next ≡ now ++ e ∷ [] → Grown (UpTo k place) before now → Grown (UpTo k (place + 1)) before next
  grown_one k place e before now next same is one pushed so_far = record {
    more = so_far.more ++ e ∷ [];
    grown = pushed ∙ ap (λ front. front ++ e ∷ []) so_far.grown ∙ append_assoc before so_far.more (e ∷ []);
    are = all_joined number value Is (UpTo k place) (λ n. n ≡ record { rrset = k; place = place + 1 }) (UpTo k (place + 1)) so_far.more (e ∷ [])
        (λ x y x_is y_is. subst (λ z. number_cmp x z ≡ Less) (sym y_is) (before_last k place x x_is))
        (λ n within. (within.0, omega (arith, within.1)))
        (λ n at. (ap (λ (m : RecordNumber). m.rrset) at, omega (arith, ap (λ (m : RecordNumber). m.place) at)))
        (λ n x within its. ⊎_elim (λ (below : n.place < place + 1). inl (within.0, omega (arith, below))) (λ (above : place + 1 ≤ n.place). inr (number_is n k (place + 1) within.0 (omega (arith, above, within.1)))) (cases_lt n.place (place + 1)))
        so_far.are (all_single number value Is (record { rrset = k; place = place + 1 }) e same is one);
  }

  pub grown_not : (k place : ℕ) (before now : List E) → ((x : X) → Is (record { rrset = k; place = place + 1 }) x → ⊥)
      → Grown (UpTo k place) before now → Grown (UpTo k (place + 1)) before now
  grown_not k place before now none so_far = record {
    more = so_far.more;
    grown = so_far.grown;
    are = all_said number value Is Is (UpTo k place) (UpTo k (place + 1)) so_far.more
        (λ n x within is. ((within.0, omega (arith, within.1)), is))
        (λ n x within is. ⊎_elim (λ (below : n.place < place + 1). ((within.0, omega (arith, below)), is))
        (λ (above : place + 1 ≤ n.place). absurd (none x (subst (λ m. Is m x) (number_is n k (place + 1) within.0 (omega (arith, above, within.1))) is))) (cases_lt n.place (place + 1)))
        so_far.are;
  }

  pub grown_all : (k place : ℕ) (before now : List E) → ((n : RecordNumber) (x : X) → n.rrset ≡ k → Is n x → n.place ≤ place)
      → Grown (UpTo k place) before now → Grown (λ n. n.rrset ≡ k) before now
  grown_all k place before now within so_far = record {
    more = so_far.more;
    grown = so_far.grown;
    are = all_said number value Is Is (UpTo k place) (λ n. n.rrset ≡ k) so_far.more
        (λ n x upto is. (upto.0, is)) (λ n x same is. ((same, within n x same is), is)) so_far.are;
  }

  -- ---- RRset by RRset

  -- those of one RRset
  pub none_in : (k : ℕ) (before : List E) → ((n : RecordNumber) (x : X) → n.rrset ≡ k → Is n x → ⊥) → Grown (λ n. n.rrset ≡ k) before before
  none_in k before none = record {
    more = [];
    grown = sym (append-nil before);
    are = all_none number value Is (λ n. n.rrset ≡ k) none;
  }

  -- those of the RRsets with the first of the numbers
  abbrev pub AreListedBefore : List ℕ → ℕ → List E → Type 0
  AreListedBefore numbers i entries = AreAll number value Is (λ n. Contains (take i numbers) n.rrset) entries

  pub none_listed : (numbers : List ℕ) → AreListedBefore numbers 0 []
  none_listed numbers = all_none number value Is (λ n. Contains (take 0 numbers) n.rrset) (λ n x within is. omega (arith, within.1))

  pub listed_next : (numbers : List ℕ) (i k : ℕ) (entries more next : List E) → IsStrictlySortedBy nat_cmp numbers → i < length numbers → k ≡ get_or numbers i 0
      → AreAll number value Is (λ n. n.rrset ≡ k) more → next ≡ entries ++ more → AreListedBefore numbers i entries → AreListedBefore numbers (i + 1) next
  listed_next numbers i k entries more next rising within is are grown so_far =
      let front : take (i + 1) numbers ≡ take i numbers ++ k ∷ [] = take_more numbers i 0 within ∙ ap (λ m. take i numbers ++ m ∷ []) (sym is) in
      subst (AreListedBefore numbers (i + 1)) (sym grown)
      (all_joined number value Is (λ n. Contains (take i numbers) n.rrset) (λ n. n.rrset ≡ k) (λ n. Contains (take (i + 1) numbers) n.rrset) entries more
      (λ a b first second. earlier_rrset_less a b (subst (λ m. a.rrset < m) (sym (second ∙ is)) (before_next numbers i rising within a.rrset first)))
      (λ n listed. subst (λ xs. Contains xs n.rrset) (sym front) (Contains-append_left (take i numbers) (k ∷ []) n.rrset listed))
      (λ n same. subst (λ xs. Contains xs n.rrset) (sym front) (Contains-append_right (take i numbers) (k ∷ []) n.rrset (0, omega arith, sym same)))
      (λ n x listed its. ⊎_elim (λ (sooner : Contains (take i numbers) n.rrset). inl sooner) (λ (here : k ≡ n.rrset). inr (sym here))
      (Contains-push_cases (take i numbers) k n.rrset (subst (λ xs. Contains xs n.rrset) front listed)))
      so_far are)

  pub all_listed : (numbers : List ℕ) (i : ℕ) (entries : List E) → length numbers ≤ i → AreListedBefore numbers i entries
      → AreAll number value Is (λ n. Contains numbers n.rrset) entries
  all_listed numbers i entries past = subst (λ xs. AreAll number value Is (λ n. Contains xs n.rrset) entries) (take_all i numbers past)
