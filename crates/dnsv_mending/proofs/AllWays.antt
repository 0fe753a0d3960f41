-- What holds of each way of a list.
use Rattle.std.proofs.Common.{◌≡◌, ◌⊎◌, inl, inr, ⊎_elim, ℕ, zero, suc, ◌++◌, Bool, true, false, if◌then◌else◌, List, [], ◌∷◌, Option, Some, None, map, length, flat_map, refl, sym, ap, ◌∙◌, subst, slice_get}
use Rattle.std.proofs.lemmas.Option.{same_Some, slice_get-map}
use Rattle.std.specs.List.{AllByRecursion}
use Rattle.std.specs.Option.{option_map}
use Rattle.dnsv_mending.specs.Mend.{Mended, after, cheapest, cheapest_from, following, joined, ways_of, with_fault}
use Rattle.dnsv_mending.specs.Price.{is_cheaper}
use Rattle.dnsv_mending.specs.Ways.{IsAmong}
use Rattle.dnsv_mending.specs.Zone.{kept_at}
use Rattle.dnsv_mending.specs.declared.told.Told.{Told}

-- ---- lists

pub none_some : {A : Type 0} (x : A) → None ≡ Some x → ⊥
none_some x h = cc

pub all_if : {A : Type 0} (P : A → Type 0) (t : Bool) (xs ys : List A) → (t ≡ true → AllByRecursion P xs) → (t ≡ false → AllByRecursion P ys)
    → AllByRecursion P (if t then xs else ys)
all_if P true xs ys first second = first refl
all_if P false xs ys first second = second refl

pub all_append : {A : Type 0} (P : A → Type 0) (xs ys : List A) → AllByRecursion P xs → AllByRecursion P ys → AllByRecursion P (xs ++ ys)
all_append P [] ys first second = second
all_append P (x ∷ xs) ys first second = (first.0, all_append P xs ys first.1 second)

pub all_flat : {A X : Type 0} (P : A → Type 0) (f : X → List A) (xs : List X) → ((x : X) → IsAmong x xs → AllByRecursion P (f x))
    → AllByRecursion P (flat_map f xs)
all_flat P f [] each = tt
all_flat P f (x ∷ xs) each = all_append P (f x) (flat_map f xs) (each x (inl refl)) (all_flat P f xs (λ y among. each y (inr among)))

pub all_mapped : {A X Y : Type 0} (P : A → Type 0) (s : X → Y) (f : Y → List A) (xs : List X) → ((x : X) → IsAmong x xs → AllByRecursion P (f (s x)))
    → AllByRecursion P (flat_map f (map s xs))
all_mapped P s f [] each = tt
all_mapped P s f (x ∷ xs) each = all_append P (f (s x)) (flat_map f (map s xs)) (each x (inl refl)) (all_mapped P s f xs (λ y among. each y (inr among)))

pub all_after : (P : Mended → Type 0) (o : Option Mended) (n : Mended) → ((m : Mended) → o ≡ Some m → P (following m n)) → AllByRecursion P (after o n)
all_after P None n each = tt
all_after P (Some m) n each = (each m refl, tt)

pub all_joined : (P : Mended → Type 0) (a : Option Mended) (t : Option Told) (b : Option Mended)
    → ((m n : Mended) → a ≡ Some m → b ≡ Some n → P (following m (with_fault t n))) → AllByRecursion P (joined a t b)
all_joined P None t b each = tt
all_joined P (Some m) t None each = tt
all_joined P (Some m) t (Some n) each = (each m n refl refl, tt)

pub all_ways_of : (P : Mended → Type 0) (o : Option Mended) → ((m : Mended) → o ≡ Some m → P m) → AllByRecursion P (ways_of o)
all_ways_of P None each = tt
all_ways_of P (Some m) each = (each m refl, tt)

pub either : (P : Mended → Type 0) (t : Bool) (x y : Mended) → P x → P y → P (if t then x else y)
either P true x y a b = a
either P false x y a b = b

pub of_cheapest_from : (P : Mended → Type 0) (ms : List Mended) (best m : Mended) → P best → AllByRecursion P ms → cheapest_from (Some best) ms ≡ Some m → P m
of_cheapest_from P [] best m holds all h = subst P (same_Some best m h) holds
of_cheapest_from P (x ∷ xs) best m holds all h =
    of_cheapest_from P xs (if is_cheaper x.price best.price then x else best) m (either P (is_cheaper x.price best.price) x best all.0 holds) all.1 h

-- what holds of each way holds of the cheapest
pub of_cheapest : (P : Mended → Type 0) (ms : List Mended) (m : Mended) → AllByRecursion P ms → cheapest ms ≡ Some m → P m
of_cheapest P [] m all h = absurd (none_some m h)
of_cheapest P (x ∷ xs) m all h = of_cheapest_from P xs x m all.0 all.1 h

pub among_at : {X : Type 0} (xs : List X) (i : ℕ) (x : X) → slice_get xs i ≡ Some x → IsAmong x xs
among_at [] i x h = absurd (none_some x h)
among_at (y ∷ ys) zero x h = inl (sym (same_Some y x h))
among_at (y ∷ ys) (suc i) x h = inr (among_at ys i x h)

pub at_seam : {X : Type 0} (front : List X) (x : X) (rest : List X) → slice_get (front ++ x ∷ rest) (length front) ≡ Some x
at_seam [] x rest = refl
at_seam (y ∷ ys) x rest = at_seam ys x rest

pub at_end : {X : Type 0} (xs : List X) (x : X) (i : ℕ) (y : X) → slice_get (xs ++ x ∷ []) i ≡ Some y → (slice_get xs i ≡ Some y) ⊎ ((i ≡ length xs) × (y ≡ x))
at_end [] x zero y h = inr (refl, sym (same_Some x y h))
at_end [] x (suc i) y h = absurd (none_some y h)
at_end (z ∷ xs) x zero y h = inl h
at_end (z ∷ xs) x (suc i) y h = ⊎_elim (λ (e : slice_get xs i ≡ Some y). inl e) (λ (e : (i ≡ length xs) × (y ≡ x)). inr (ap suc e.0, e.1)) (at_end xs x i y h)

pub record Mapped {A B : Type 0} (f : A → B) (o : Option A) (y : B) : Type 0 where
  pub from : A
  pub is : o ≡ Some from
  pub same : f from ≡ y

pub mapped_some : {A B : Type 0} (f : A → B) (o : Option A) (y : B) → option_map f o ≡ Some y → Mapped f o y
mapped_some f None y h = absurd (none_some y h)
mapped_some f (Some x) y h = record { from = x; is = refl; same = same_Some (f x) y h }

pub mapped_at : {A B : Type 0} (f : A → B) (xs : List A) (i : ℕ) (y : B) → slice_get (map f xs) i ≡ Some y → Mapped f (slice_get xs i) y
mapped_at f xs i y h = mapped_some f (slice_get xs i) y (sym (slice_get-map f xs i) ∙ h)

pub kept_some : (o : Option (Option Mended)) (m : Mended) → kept_at o ≡ Some m → o ≡ Some (Some m)
kept_some None m h = absurd (none_some m h)
kept_some (Some kept) m h = ap Some h

pub all_map : {A : Type 0} (P Q : A → Type 0) → ((x : A) → P x → Q x) → (xs : List A) → AllByRecursion P xs → AllByRecursion Q xs
all_map P Q f [] all = tt
all_map P Q f (x ∷ xs) all = (f x all.0, all_map P Q f xs all.1)
