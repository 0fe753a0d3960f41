-- The least way is the first of the least price.
use Rattle.std.proofs.Common.{◌≡◌, ◌⊎◌, inl, inr, ⊎_elim, Bool, true, false, if◌then◌else◌, List, [], ◌∷◌, Some, None, is_some, refl, sym, ap, ◌∙◌, subst}
use Rattle.std.proofs.lemmas.Bool.{false≢true}
use Rattle.std.proofs.lemmas.Option.{same_Some}
use Rattle.std.specs.List.{AllByRecursion}
use Rattle.dnsv_mending.specs.Price.{is_cheaper}
use Rattle.dnsv_mending.proofs.Cheapest.{cheaper_than, cheaper_too}
use Rattle.dnsv_remedies.specs.Remedy.{IsFirstOfLeast, Remedied, least, least_from}

-- of ways behind a best one none is cheaper, or the first of the least of these is
record Stays (best : Remedied) (ms : List Remedied) (m : Remedied) : Type 0 where
  same : m ≡ best
  least : AllByRecursion (λ other. is_cheaper other.price best.price ≡ false) ms

record Comes (best : Remedied) (ms : List Remedied) (m : Remedied) : Type 0 where
  cheaper : is_cheaper m.price best.price ≡ true
  first : IsFirstOfLeast m ms

here : (x : Remedied) (xs : List Remedied) (m : Remedied) → Stays x xs m → IsFirstOfLeast m (x ∷ xs)
here x xs m s = subst (λ y. IsFirstOfLeast y (x ∷ xs)) (sym s.same) (record { front = []; behind = xs; stands = refl; dearer = tt; least = s.least })

later : (x : Remedied) (xs : List Remedied) (m : Remedied) → is_cheaper m.price x.price ≡ true → IsFirstOfLeast m xs → IsFirstOfLeast m (x ∷ xs)
later x xs m cheaper f = record { front = x ∷ f.front; behind = f.behind; stands = ap (λ ys. x ∷ ys) f.stands; dearer = (cheaper, f.dearer); least = f.least }

step : (best x : Remedied) (xs : List Remedied) (m : Remedied) → ((b : Remedied) → least_from (Some b) xs ≡ Some m → Stays b xs m ⊎ Comes b xs m)
    → (t : Bool) → is_cheaper x.price best.price ≡ t → least_from (Some (if t then x else best)) xs ≡ Some m → Stays best (x ∷ xs) m ⊎ Comes best (x ∷ xs) m
step best x xs m ih true e h = ⊎_elim
    (λ (s : Stays x xs m). inr (record { cheaper = ap (λ (y : Remedied). is_cheaper y.price best.price) s.same ∙ e; first = here x xs m s }))
    (λ (c : Comes x xs m). inr (record { cheaper = cheaper_than m.price x.price best.price c.cheaper e; first = later x xs m c.cheaper c.first }))
    (ih x h)
step best x xs m ih false e h = ⊎_elim
    (λ (s : Stays best xs m). inl (record { same = s.same; least = (e, s.least) }))
    (λ (c : Comes best xs m). inr (record { cheaper = c.cheaper; first = later x xs m (cheaper_too m.price x.price best.price e c.cheaper) c.first }))
    (ih best h)

first_of : (ms : List Remedied) (best m : Remedied) → least_from (Some best) ms ≡ Some m → Stays best ms m ⊎ Comes best ms m
first_of [] best m h = inl (record { same = sym (same_Some best m h); least = tt })
first_of (x ∷ xs) best m h = step best x xs m (λ b. first_of xs b m) (is_cheaper x.price best.price) refl h

pub least_first : (ms : List Remedied) (m : Remedied) → least ms ≡ Some m → IsFirstOfLeast m ms
least_first [] m h = absurd (false≢true (ap is_some h))
least_first (x ∷ xs) m h = ⊎_elim (λ (s : Stays x xs m). here x xs m s) (λ (c : Comes x xs m). later x xs m c.cheaper c.first) (first_of xs x m h)

some_stays : (ms : List Remedied) (best : Remedied) → is_some (least_from (Some best) ms) ≡ true
some_stays [] best = refl
some_stays (x ∷ xs) best = some_stays xs (if is_cheaper x.price best.price then x else best)

pub least_none : (ms : List Remedied) → least ms ≡ None → ms ≡ []
least_none [] h = refl
least_none (x ∷ xs) h = absurd (false≢true (sym (ap is_some h) ∙ some_stays xs x))
