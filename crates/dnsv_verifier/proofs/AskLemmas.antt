-- Lists that grow by just what was looked for.
use Rattle.std.proofs.Common.{◌≡◌, ◌↔◌, ℕ, zero, suc, ◌+◌, ◌<◌, ◌≤◌, ◌⊎◌, inl, inr, ⊎_elim, List, [], ◌∷◌, ◌++◌, length, get_or, take, sym, ap, ◌∙◌, subst, arith}
use Rattle.std.proofs.lemmas.List.{take_all, take_more}
use Rattle.std.proofs.lemmas.List.Elements.{Contains-append_left, Contains-push, Contains-push_cases}
use Rattle.std.specs.List.{AllZip, Contains}
use Rattle.dnsv_verifier.specs.Asking.{AddsJust, ComesOfSome}

pub adds_nothing : {X : Type 0} (P : X → Type 0) (xs : List X) → ((x : X) → P x → ⊥) → AddsJust P xs xs
adds_nothing P xs none = record { kept = λ x found. found; added = λ x p. absurd (none x p); only = λ x found. inl found }

pub adds_one : {X : Type 0} (P : X → Type 0) (xs : List X) (e : X) → P e → ((x : X) → P x → x ≡ e)
    → AddsJust P xs (xs ++ e ∷ [])
adds_one P xs e it one = record {
  kept = λ x found. Contains-append_left xs (e ∷ []) x found;
  added = λ x p. subst (λ y. Contains (xs ++ e ∷ []) y) (sym (one x p)) (Contains-push xs e);
  only = λ x found. ⊎_elim (λ before. inl before) (λ same. inr (subst P same it)) (Contains-push_cases xs e x found);
}

pub adds_more : {X : Type 0} (P Q R : X → Type 0) (a b c : List X) → AddsJust P a b → AddsJust Q b c
    → ((x : X) → P x → R x) → ((x : X) → Q x → R x) → ((x : X) → R x → P x ⊎ Q x) → AddsJust R a c
adds_more P Q R a b c first second left right cases = record {
  kept = λ x found. second.kept x (first.kept x found);
  added = λ x r. ⊎_elim (λ p. second.kept x (first.added x p)) (λ q. second.added x q) (cases x r);
  only = λ x found. ⊎_elim (λ in_b. ⊎_elim (λ in_a. inl in_a) (λ p. inr (left x p)) (first.only x in_b)) (λ q. inr (right x q)) (second.only x found);
}

pub adds_same : {X : Type 0} (P Q : X → Type 0) (a b : List X) → AddsJust P a b → ((x : X) → P x → Q x)
    → ((x : X) → Q x → P x) → AddsJust Q a b
adds_same P Q a b adds to from = record {
  kept = adds.kept;
  added = λ x q. adds.added x (from x q);
  only = λ x found. ⊎_elim (λ old. inl old) (λ p. inr (to x p)) (adds.only x found);
}

-- a list with the same members has grown by the same
pub adds_moved : {X : Type 0} (P : X → Type 0) (a b c : List X) → AddsJust P a b
    → ((x : X) → Contains c x ↔ Contains b x) → AddsJust P a c
adds_moved P a b c adds same = record {
  kept = λ x found. (same x).1 (adds.kept x found);
  added = λ x p. (same x).1 (adds.added x p);
  only = λ x found. adds.only x ((same x).0 found);
}

-- a loop that adds what comes of each member
module _ {Y X : Type 0} (P : Y → X → Type 0) (ys : List Y) where
  pub some_none : (a : List X) → AddsJust (ComesOfSome P (take 0 ys)) a a
  some_none a = adds_nothing (ComesOfSome P []) a (λ x of. absurd (omega (arith, of.among.1)))

  pub some_more : (i : ℕ) (y : Y) (a b c : List X) → i < length ys → y ≡ get_or ys i y
      → AddsJust (ComesOfSome P (take i ys)) a b → AddsJust (P y) b c → AddsJust (ComesOfSome P (take (i + 1) ys)) a c
  some_more i y a b c within is so_far adds =
      let longer : take (i + 1) ys ≡ take i ys ++ y ∷ [] = take_more ys i y within ∙ ap (λ z. take i ys ++ z ∷ []) (sym is) in
      let Q : List Y → Type 0 = λ zs. AddsJust (ComesOfSome P zs) a c in
      subst Q (sym longer)
      (adds_more (ComesOfSome P (take i ys)) (P y) (ComesOfSome P (take i ys ++ y ∷ [])) a b c so_far adds
      (λ x of. record { source = of.source; among = Contains-append_left (take i ys) (y ∷ []) of.source of.among; is = of.is })
      (λ x p. record { source = y; among = Contains-push (take i ys) y; is = p })
      (λ x of. ⊎_elim (λ before. inl (record { source = of.source; among = before; is = of.is })) (λ same. inr (subst (λ z. P z x) (sym same) of.is)) (Contains-push_cases (take i ys) y of.source of.among)))

  pub some_all : (i : ℕ) (a b : List X) → length ys ≤ i → AddsJust (ComesOfSome P (take i ys)) a b
      → AddsJust (ComesOfSome P ys) a b
  some_all i a b past so_far =
      let Q : List Y → Type 0 = λ zs. AddsJust (ComesOfSome P zs) a b in subst Q (take_all i ys past) so_far

pub zip_at : {A B : Type 0} (R : A → B → Type 0) (xs : List A) (ys : List B) (k : ℕ) (d : A) (e : B) → AllZip R xs ys
    → k < length xs → R (get_or xs k d) (get_or ys k e)
zip_at R [] ys k d e all within = absurd (omega arith)
zip_at R (x ∷ xs) [] k d e all within = absurd all
zip_at R (x ∷ xs) (y ∷ ys) zero d e all within = all.0
zip_at R (x ∷ xs) (y ∷ ys) (suc k) d e all within = zip_at R xs ys k d e all.1 (omega arith)
