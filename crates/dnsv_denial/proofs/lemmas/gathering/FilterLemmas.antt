-- Those of a list that are such.
use Rattle.std.proofs.Common.{◌≡◌, ◌⊎◌, ℕ, ◌+◌, ◌<◌, ◌≤◌, List, [], ◌∷◌, ◌++◌, length, get_or, take, sym, ap, ◌∙◌, subst, ⊎_elim, arith}
use Rattle.std.proofs.lemmas.List.{take_all, take_more}
use Rattle.std.proofs.lemmas.List.Elements.{Contains-append_left, Contains-push, Contains-push_cases}
use Rattle.std.specs.Prelude.{◌↔◌, Contains}

module _ (Such : ℕ → Type 0) (all : List ℕ) where
  -- of the first n
  abbrev pub AreSuchTo : ℕ → List ℕ → Type 0
  AreSuchTo n kept = (k : ℕ) → Contains kept k ↔ (Contains (take n all) k × Such k)

  pub none_such : AreSuchTo 0 []
  none_such = λ k. (λ there. absurd (omega (arith, there.1)), λ both. absurd (omega (arith, both.0.1)))

  front : (n item : ℕ) → n < length all → item ≡ get_or all n 0 → take (n + 1) all ≡ take n all ++ item ∷ []
  front n item within is = take_more all n 0 within ∙ ap (λ m. take n all ++ m ∷ []) (sym is)

  cases : (n item k : ℕ) → n < length all → item ≡ get_or all n 0 → Contains (take (n + 1) all) k → Contains (take n all) k ⊎ (item ≡ k)
  cases n item k within is there = Contains-push_cases (take n all) item k (subst (λ xs. Contains xs k) (front n item within is) there)

  sooner : (n item k : ℕ) → n < length all → item ≡ get_or all n 0 → Contains (take n all) k → Contains (take (n + 1) all) k
  sooner n item k within is there = subst (λ xs. Contains xs k) (sym (front n item within is)) (Contains-append_left (take n all) (item ∷ []) k there)

  pub one_kept : (n item : ℕ) (kept : List ℕ) → n < length all → item ≡ get_or all n 0 → Such item → AreSuchTo n kept → AreSuchTo (n + 1) (kept ++ item ∷ [])
  one_kept n item kept within is such are = λ k. (
    λ there. ⊎_elim
        (λ (earlier : Contains kept k). let it = (are k).0 earlier in (sooner n item k within is it.0, it.1))
        (λ (same : item ≡ k). (subst (Contains (take (n + 1) all)) same (subst (λ xs. Contains xs item) (sym (front n item within is)) (Contains-push (take n all) item)), subst Such same such))
        (Contains-push_cases kept item k there),
    λ both. ⊎_elim
        (λ (earlier : Contains (take n all) k). Contains-append_left kept (item ∷ []) k ((are k).1 (earlier, both.1)))
        (λ (same : item ≡ k). subst (Contains (kept ++ item ∷ [])) same (Contains-push kept item))
        (cases n item k within is both.0),
  )

  pub one_left : (n item : ℕ) (kept : List ℕ) → n < length all → item ≡ get_or all n 0 → ¬ Such item → AreSuchTo n kept → AreSuchTo (n + 1) kept
  one_left n item kept within is none are = λ k. (
    λ there. let it = (are k).0 there in (sooner n item k within is it.0, it.1),
    λ both. ⊎_elim
        (λ (earlier : Contains (take n all) k). (are k).1 (earlier, both.1))
        (λ (same : item ≡ k). absurd (none (subst Such (sym same) both.1)))
        (cases n item k within is both.0),
  )

  pub all_such : (n : ℕ) (kept : List ℕ) → length all ≤ n → AreSuchTo n kept → (k : ℕ) → Contains kept k ↔ (Contains all k × Such k)
  all_such n kept whole = subst (λ xs. (k : ℕ) → Contains kept k ↔ (Contains xs k × Such k)) (take_all n all whole)
