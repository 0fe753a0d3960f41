-- Stretches that all tell one kind.
use Rattle.std.proofs.Common.{◌≡◌, ℕ, ◌+◌, ◌<◌, ◌≤◌, ◌⊎◌, List, [], ◌∷◌, ◌++◌, length, get_or, take, sym, ap, ◌∙◌, subst, ⊎_elim}
use Rattle.std.proofs.lemmas.List.{take_all, take_more}
use Rattle.std.proofs.lemmas.List.Elements.{Contains-push_cases}
use Rattle.std.specs.List.{Contains}
use Rattle.dnsv_timeline.specs.declared.stretch.Stretch.{Stretch}
use Rattle.dnsv_moments.specs.validity.Said.{Said}
use Rattle.dnsv_moments.specs.declared.validity.kind.Kind.{Kind}
use Rattle.dnsv_moments.specs.Question.{TellKind}

module _ (kind : Kind) (xs : List (Stretch Said)) where
  pub more_tell : (i : ℕ) (x : Stretch Said) → i < length xs → x ≡ get_or xs i x → TellKind kind (take i xs)
      → x.said.told.kind ≡ kind → TellKind kind (take (i + 1) xs)
  more_tell i x within is so_far same =
      let longer : take (i + 1) xs ≡ take i xs ++ x ∷ [] = take_more xs i x within ∙ ap (λ (z : Stretch Said). take i xs ++ z ∷ []) (sym is) in
      subst (TellKind kind) (sym longer) (λ y found.
      ⊎_elim (λ (before : Contains (take i xs) y). so_far y before)
      (λ (here : x ≡ y). sym (ap (λ (z : Stretch Said). z.said.told.kind) here) ∙ same)
      (Contains-push_cases (take i xs) x y found))

  pub all_tell : (i : ℕ) → length xs ≤ i → TellKind kind (take i xs) → TellKind kind xs
  all_tell i past = subst (TellKind kind) (take_all i xs past)
