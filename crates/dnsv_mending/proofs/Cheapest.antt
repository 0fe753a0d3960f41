-- The cheapest way is the first of the least price.
use Rattle.std.proofs.Common.{◌≡◌, ℕ, Bool, true, false, if◌then◌else◌, ◌⊎◌, inl, inr, ⊎_elim, List, [], ◌∷◌, Some, None, is_some, refl, sym, ap, ◌∙◌, subst, arith}
use Rattle.std.proofs.lemmas.Bool.{false≢true}
use Rattle.std.proofs.lemmas.Cmp.{nat_cmp_total, on_total, then_total}
use Rattle.std.proofs.lemmas.Option.{same_Some}
use Rattle.std.specs.Cmp.{IsTotalOrder}
use Rattle.std.specs.List.{AllByRecursion}
use Rattle.std.specs.Ordering.{is_lt, ordering_reverse}
use Rattle.std.specs.declared.cmp.Ordering.{Ordering}
use Rattle.std.specs.declared.cmp.Ordering.TheVariants.{Less, Equal, Greater}
use Rattle.dnsv_names.specs.Count.{counted}
use Rattle.dnsv_mending.specs.Mend.{IsFirstOfLeast, Mended, cheapest, cheapest_from}
use Rattle.dnsv_mending.specs.Price.{add, is_cheaper, none, price_cmp}
use Rattle.dnsv_mending.specs.declared.price.Price.{Price}

price_total : IsTotalOrder price_cmp
price_total = then_total (on_total (λ (p : Price). p.missing) nat_cmp_total) (then_total (on_total (λ (p : Price). p.stripped) nat_cmp_total)
    (then_total (on_total (λ (p : Price). p.not_signing) nat_cmp_total) (then_total (on_total (λ (p : Price). p.unfit) nat_cmp_total)
    (then_total (on_total (λ (p : Price). p.lacking) nat_cmp_total) (then_total (on_total (λ (p : Price). p.time) nat_cmp_total)
    (then_total (on_total (λ (p : Price). p.not_fitting) nat_cmp_total) (then_total (on_total (λ (p : Price). p.bad) nat_cmp_total)
    (on_total (λ (p : Price). p.unanswered) nat_cmp_total))))))))

is_Less : (o : Ordering) → is_lt o ≡ true → o ≡ Less
is_Less Less h = refl
is_Less o h = absurd (false≢true h)

pub cheaper_than : (p q r : Price) → is_cheaper p q ≡ true → is_cheaper q r ≡ true → is_cheaper p r ≡ true
cheaper_than p q r a b = ap is_lt (price_total.trans p q r (is_Less (price_cmp p q) a) (is_Less (price_cmp q r) b))

by_other : (p q r : Price) (o : Ordering) → price_cmp q r ≡ o → is_lt o ≡ false → price_cmp p r ≡ Less → price_cmp p q ≡ Less
by_other p q r Less e h below = absurd (false≢true (sym h))
by_other p q r Equal e h below = price_total.antisymm p q ∙ ap ordering_reverse (price_total.congr q r p e) ∙ sym (price_total.antisymm p r) ∙ below
by_other p q r Greater e h below = price_total.trans p r q below (price_total.antisymm r q ∙ ap ordering_reverse e)

-- what is cheaper than another is cheaper than what isn't
pub cheaper_too : (p q r : Price) → is_cheaper q r ≡ false → is_cheaper p r ≡ true → is_cheaper p q ≡ true
cheaper_too p q r h below = ap is_lt (by_other p q r (price_cmp q r) refl h (is_Less (price_cmp p r) below))

-- of ways behind a best one none is cheaper, or the first of the least of these is
record Stays (best : Mended) (ms : List Mended) (m : Mended) : Type 0 where
  same : m ≡ best
  least : AllByRecursion (λ other. is_cheaper other.price best.price ≡ false) ms

record Comes (best : Mended) (ms : List Mended) (m : Mended) : Type 0 where
  cheaper : is_cheaper m.price best.price ≡ true
  first : IsFirstOfLeast m ms

here : (x : Mended) (xs : List Mended) (m : Mended) → Stays x xs m → IsFirstOfLeast m (x ∷ xs)
here x xs m s = subst (λ y. IsFirstOfLeast y (x ∷ xs)) (sym s.same) (record { front = []; behind = xs; stands = refl; dearer = tt; least = s.least })

later : (x : Mended) (xs : List Mended) (m : Mended) → is_cheaper m.price x.price ≡ true → IsFirstOfLeast m xs → IsFirstOfLeast m (x ∷ xs)
later x xs m cheaper f = record { front = x ∷ f.front; behind = f.behind; stands = ap (λ ys. x ∷ ys) f.stands; dearer = (cheaper, f.dearer); least = f.least }

step : (best x : Mended) (xs : List Mended) (m : Mended) → ((b : Mended) → cheapest_from (Some b) xs ≡ Some m → Stays b xs m ⊎ Comes b xs m)
    → (t : Bool) → is_cheaper x.price best.price ≡ t → cheapest_from (Some (if t then x else best)) xs ≡ Some m → Stays best (x ∷ xs) m ⊎ Comes best (x ∷ xs) m
step best x xs m ih true e h = ⊎_elim
    (λ (s : Stays x xs m). inr (record { cheaper = ap (λ (y : Mended). is_cheaper y.price best.price) s.same ∙ e; first = here x xs m s }))
    (λ (c : Comes x xs m). inr (record { cheaper = cheaper_than m.price x.price best.price c.cheaper e; first = later x xs m c.cheaper c.first }))
    (ih x h)
step best x xs m ih false e h = ⊎_elim
    (λ (s : Stays best xs m). inl (record { same = s.same; least = (e, s.least) }))
    (λ (c : Comes best xs m). inr (record { cheaper = c.cheaper; first = later x xs m (cheaper_too m.price x.price best.price e c.cheaper) c.first }))
    (ih best h)

first_of : (ms : List Mended) (best m : Mended) → cheapest_from (Some best) ms ≡ Some m → Stays best ms m ⊎ Comes best ms m
first_of [] best m h = inl (record { same = sym (same_Some best m h); least = tt })
first_of (x ∷ xs) best m h = step best x xs m (λ b. first_of xs b m) (is_cheaper x.price best.price) refl h

pub cheapest_first : (ms : List Mended) (m : Mended) → cheapest ms ≡ Some m → IsFirstOfLeast m ms
cheapest_first [] m h = absurd (false≢true (ap is_some h))
cheapest_first (x ∷ xs) m h = ⊎_elim (λ (s : Stays x xs m). here x xs m s) (λ (c : Comes x xs m). later x xs m c.cheaper c.first) (first_of xs x m h)

some_stays : (ms : List Mended) (best : Mended) → is_some (cheapest_from (Some best) ms) ≡ true
some_stays [] best = refl
some_stays (x ∷ xs) best = some_stays xs (if is_cheaper x.price best.price then x else best)

pub cheapest_none : (ms : List Mended) → cheapest ms ≡ None → ms ≡ []
cheapest_none [] h = refl
cheapest_none (x ∷ xs) h = absurd (false≢true (sym (ap is_some h) ∙ some_stays xs x))

none_left : (m n : ℕ) → counted m n ≡ 0 → m ≡ 0
none_left m n h = omega (arith, h)

none_right : (m n : ℕ) → counted m n ≡ 0 → n ≡ 0
none_right m n h = omega (arith, h)

-- a sum is nothing just where both are
pub none_first : (p q : Price) → add p q ≡ none → p ≡ none
none_first p q h = λ i. record {
  missing = none_left p.missing q.missing (ap (λ (r : Price). r.missing) h) i;
  stripped = none_left p.stripped q.stripped (ap (λ (r : Price). r.stripped) h) i;
  not_signing = none_left p.not_signing q.not_signing (ap (λ (r : Price). r.not_signing) h) i;
  unfit = none_left p.unfit q.unfit (ap (λ (r : Price). r.unfit) h) i;
  lacking = none_left p.lacking q.lacking (ap (λ (r : Price). r.lacking) h) i;
  time = none_left p.time q.time (ap (λ (r : Price). r.time) h) i;
  not_fitting = none_left p.not_fitting q.not_fitting (ap (λ (r : Price). r.not_fitting) h) i;
  bad = none_left p.bad q.bad (ap (λ (r : Price). r.bad) h) i;
  unanswered = none_left p.unanswered q.unanswered (ap (λ (r : Price). r.unanswered) h) i;
}

pub none_second : (p q : Price) → add p q ≡ none → q ≡ none
none_second p q h = λ i. record {
  missing = none_right p.missing q.missing (ap (λ (r : Price). r.missing) h) i;
  stripped = none_right p.stripped q.stripped (ap (λ (r : Price). r.stripped) h) i;
  not_signing = none_right p.not_signing q.not_signing (ap (λ (r : Price). r.not_signing) h) i;
  unfit = none_right p.unfit q.unfit (ap (λ (r : Price). r.unfit) h) i;
  lacking = none_right p.lacking q.lacking (ap (λ (r : Price). r.lacking) h) i;
  time = none_right p.time q.time (ap (λ (r : Price). r.time) h) i;
  not_fitting = none_right p.not_fitting q.not_fitting (ap (λ (r : Price). r.not_fitting) h) i;
  bad = none_right p.bad q.bad (ap (λ (r : Price). r.bad) h) i;
  unanswered = none_right p.unanswered q.unanswered (ap (λ (r : Price). r.unanswered) h) i;
}
