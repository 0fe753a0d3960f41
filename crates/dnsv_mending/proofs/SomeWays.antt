-- Lists of ways in which there are some.
use Rattle.std.proofs.Common.{◌≡◌, ◌⊎◌, inl, inr, ⊎_elim, ℕ, zero, suc, ◌<◌, ◌++◌, ◌&&◌, ◌||◌, Bool, true, false, if◌then◌else◌, List, [], ◌∷◌, Option, Some, map, length, flat_map, refl, sym, ap, subst, arith, slice_get}
use Rattle.std.proofs.lemmas.Bool.{false≢true}
use Rattle.std.specs.List.{list_any}
use Rattle.dnsv_mending.specs.Mend.{Mended, after, cheapest, cheapest_from, is_none, joined, ways_of}
use Rattle.dnsv_mending.specs.Price.{is_cheaper}
use Rattle.dnsv_mending.specs.Ways.{IsAmong}
use Rattle.dnsv_mending.specs.declared.told.Told.{Told}

-- ---- lists that aren't empty

pub record There (o : Option Mended) : Type 0 where
  pub m : Mended
  pub is : o ≡ Some m

pub some_left : (xs ys : List Mended) → is_none xs ≡ false → is_none (xs ++ ys) ≡ false
some_left [] ys h = absurd (false≢true (sym h))
some_left (x ∷ xs) ys h = refl

pub some_right : (xs ys : List Mended) → is_none ys ≡ false → is_none (xs ++ ys) ≡ false
some_right [] ys h = h
some_right (x ∷ xs) ys h = refl

pub some_flat : {X : Type 0} (f : X → List Mended) (xs : List X) (x : X) → IsAmong x xs → is_none (f x) ≡ false → is_none (flat_map f xs) ≡ false
some_flat f [] x among h = absurd among
some_flat f (y ∷ ys) x among h = ⊎_elim
    (λ (e : x ≡ y). some_left (f y) (flat_map f ys) (subst (λ each. is_none (f each) ≡ false) e h))
    (λ (rest : IsAmong x ys). some_right (f y) (flat_map f ys) (some_flat f ys x rest h)) among

pub some_mapped : {X Y : Type 0} (s : X → Y) (f : Y → List Mended) (xs : List X) (x : X) → IsAmong x xs → is_none (f (s x)) ≡ false
    → is_none (flat_map f (map s xs)) ≡ false
some_mapped s f [] x among h = absurd among
some_mapped s f (y ∷ ys) x among h = ⊎_elim
    (λ (e : x ≡ y). some_left (f (s y)) (flat_map f (map s ys)) (subst (λ each. is_none (f (s each)) ≡ false) e h))
    (λ (rest : IsAmong x ys). some_right (f (s y)) (flat_map f (map s ys)) (some_mapped s f ys x rest h)) among

pub some_if : (t : Bool) (xs ys : List Mended) → (t ≡ true → is_none xs ≡ false) → (t ≡ false → is_none ys ≡ false) → is_none (if t then xs else ys) ≡ false
some_if true xs ys first second = first refl
some_if false xs ys first second = second refl

pub some_after : (o : Option Mended) (n : Mended) → There o → is_none (after o n) ≡ false
some_after o n t = subst (λ (each : Option Mended). is_none (after each n) ≡ false) (sym t.is) refl

pub some_joined : (a : Option Mended) (t : Option Told) (b : Option Mended) → There a → There b → is_none (joined a t b) ≡ false
some_joined a t b x y = subst (λ (each : Option Mended). is_none (joined each t b) ≡ false) (sym x.is)
    (subst (λ (each : Option Mended). is_none (joined (Some x.m) t each) ≡ false) (sym y.is) refl)

pub some_kept : (o : Option Mended) → There o → is_none (ways_of o) ≡ false
some_kept o t = subst (λ (each : Option Mended). is_none (ways_of each) ≡ false) (sym t.is) refl

pub there_from : (ms : List Mended) (best : Mended) → There (cheapest_from (Some best) ms)
there_from [] best = record { m = best; is = refl }
there_from (x ∷ xs) best = there_from xs (if is_cheaper x.price best.price then x else best)

pub there : (ms : List Mended) → is_none ms ≡ false → There (cheapest ms)
there [] h = absurd (false≢true (sym h))
there (x ∷ xs) h = there_from xs x

pub record First {X : Type 0} (xs : List X) : Type 0 where
  pub x : X
  pub among : IsAmong x xs

pub first_of : {X : Type 0} (xs : List X) → is_none xs ≡ false → First xs
first_of [] h = absurd (false≢true (sym h))
first_of (x ∷ xs) h = record { x = x; among = inl refl }

pub record Passing {X : Type 0} (test : X → Bool) (xs : List X) : Type 0 where
  pub x : X
  pub among : IsAmong x xs
  pub passes : test x ≡ true

pub passing_case : {X : Type 0} (test : X → Bool) (x : X) (xs : List X) (t : Bool) → test x ≡ t → (t || list_any test xs) ≡ true
    → (list_any test xs ≡ true → Passing test xs) → Passing test (x ∷ xs)
passing_case test x xs true e h rest = record { x = x; among = inl refl; passes = e }
passing_case test x xs false e h rest = let p = rest h in record { x = p.x; among = inr p.among; passes = p.passes }

pub passing : {X : Type 0} (test : X → Bool) (xs : List X) → list_any test xs ≡ true → Passing test xs
passing test [] h = absurd (false≢true h)
passing test (x ∷ xs) h = passing_case test x xs (test x) refl h (passing test xs)

pub record Mapped {X Y : Type 0} (s : X → Y) (xs : List X) (y : Y) : Type 0 where
  pub x : X
  pub among : IsAmong x xs
  pub is : y ≡ s x

pub mapped_among : {X Y : Type 0} (s : X → Y) (xs : List X) (y : Y) → IsAmong y (map s xs) → Mapped s xs y
mapped_among s [] y among = absurd among
mapped_among s (x ∷ xs) y among = ⊎_elim
    (λ (e : y ≡ s x). record { x = x; among = inl refl; is = e })
    (λ (rest : IsAmong y (map s xs)). let p = mapped_among s xs y rest in record { x = p.x; among = inr p.among; is = p.is }) among

pub record At {X : Type 0} (xs : List X) (i : ℕ) : Type 0 where
  pub x : X
  pub is : slice_get xs i ≡ Some x

pub at_within : {X : Type 0} (xs : List X) (i : ℕ) → i < length xs → At xs i
at_within [] i h = absurd (omega (arith, h))
at_within (x ∷ xs) zero h = record { x = x; is = refl }
at_within (x ∷ xs) (suc i) h = let rest = at_within xs i (omega (arith, h)) in record { x = rest.x; is = rest.is }

pub record Place {X : Type 0} (xs : List X) (x : X) : Type 0 where
  pub i : ℕ
  pub is : slice_get xs i ≡ Some x

pub place_of : {X : Type 0} (xs : List X) (x : X) → IsAmong x xs → Place xs x
place_of [] x among = absurd among
place_of (y ∷ ys) x among = ⊎_elim
    (λ (e : x ≡ y). record { i = zero; is = ap Some (sym e) })
    (λ (rest : IsAmong x ys). let p = place_of ys x rest in record { i = suc p.i; is = p.is }) among

pub either_false : (a b : Bool) → (a && b) ≡ false → (a ≡ false) ⊎ (b ≡ false)
either_false true b h = inr h
either_false false b h = inl refl

pub either_true : (a b : Bool) → (a || b) ≡ true → (a ≡ true) ⊎ (b ≡ true)
either_true true b h = inl refl
either_true false b h = inr h
