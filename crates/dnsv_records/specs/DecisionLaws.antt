-- The laws of what is decided, for proofs: it holds, or it can't.
use Rattle.std.proofs.Common.{◌≡◌, ◌⊎◌, inl, inr, ⊎_elim, ℕ, ◌<◌, ◌≤◌, List, [], ◌∷◌, length, arith}
use Rattle.std.proofs.lemmas.Bool.{cases_lt}
use Rattle.std.proofs.lemmas.Bool.Decides.{eqb_tells}
use Rattle.std.specs.List.{AllByRecursion}
use Rattle.dnsv_records.specs.declared.nsec3.Nsec3.{Nsec3}
use Rattle.dnsv_records.specs.Nsec3.{IsUsable}

abbrev pub Or : Type 0 → Type 0
Or P = P ⊎ ¬ P

pub all_or : {X : Type 0} (P : X → Type 0) → ((x : X) → Or (P x)) → (xs : List X) → Or (AllByRecursion P xs)
all_or P each [] = inl tt
all_or P each (x ∷ xs) =
    ⊎_elim (λ here. ⊎_elim (λ rest. inl (here, rest)) (λ none. inr (λ all. none all.1)) (all_or P each xs)) (λ none. inr (λ all. none all.0)) (each x)

pub less_or : (m n : ℕ) → Or (m < n)
less_or m n = ⊎_elim (λ less. inl less) (λ not_less. inr (λ less. omega (arith, not_less, less))) (cases_lt m n)

pub at_most_or : (m n : ℕ) → Or (m ≤ n)
at_most_or m n = ⊎_elim (λ more. inr (λ most. omega (arith, more, most))) (λ most. inl most) (cases_lt n m)

pub number_or : (m n : ℕ) → Or (m ≡ n)
number_or m n = ⊎_elim (λ is. inl is.1) (λ other. inr other.1) (eqb_tells m n)

pub usable_or : (nsec3 : Nsec3) → Or (IsUsable nsec3)
usable_or nsec3 =
    ⊎_elim (λ sha1. ⊎_elim (λ flags. ⊎_elim (λ next_hash. ⊎_elim
    (λ iterations. inl (record { sha1 = sha1; flags = flags; next_hash = next_hash; iterations = iterations }))
    (λ none. inr (λ is. none is.iterations)) (at_most_or nsec3.parameters.iterations.0 500))
    (λ none. inr (λ is. none is.next_hash)) (number_or (length nsec3.next_hash) 20))
    (λ none. inr (λ is. none is.flags)) (at_most_or nsec3.flags.0 1))
    (λ none. inr (λ is. none is.sha1)) (number_or nsec3.algorithm.0 1)
