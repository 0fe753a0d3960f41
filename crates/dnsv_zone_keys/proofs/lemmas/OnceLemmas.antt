-- Keys that stand several times, each once and with its place.
use Rattle.std.proofs.Common.{◌≡◌, ℕ, ◌+◌, ◌<◌, Bool, true, false, cond, not, List, [], ◌∷◌, ◌++◌, length, take, get_or, map, Bor, refl, sym, ap, ◌∙◌, append-nil, arith}
use Rattle.std.proofs.lemmas.List.{length-map, map-append, take_more}
use Rattle.std.proofs.lemmas.List.FromFn.{length-enumerate_from}
use Rattle.std.specs.BTreeSet as sorted
use Rattle.std.specs.BTreeSet.{BTreeSet, contains}
use Rattle.std.specs.List.{AllByRecursion, enumerate_from, list_any}
use Rattle.std.specs.Str.{bytes_eq}
use Rattle.dnsv_canonical.specs.Rrsets.{first_appearances}
use Rattle.dnsv_canonical.proofs.ByRrsetLemmas.{is_seen, octets_cmp, seen_behind, seen_contains}
use Rattle.dnsv_canonical.proofs.GroupLemmas.{first_appearances-push, placed-push}
use Rattle.dnsv_zone_keys.specs.Keys.Index.{Placed}

abbrev pub pair : Placed → ℕ × List ℕ
pair placed = (placed.place, placed.key.rdata)

module _ {X : Type 0} (f : X → Bor (List ℕ)) (xs : List X) (i : ℕ) (item : X) (within : i < length xs) (at : item ≡ get_or xs i item) where
  abbrev x : Bor (List ℕ)
  x = f item

  abbrev so_far : ℕ → List (List ℕ)
  so_far n = map (λ y. (f y).now) (take n xs)

  one_more : so_far (i + 1) ≡ so_far i ++ x.now ∷ []
  one_more =
      ap (map (λ y. (f y).now)) (take_more xs i item within) ∙ map-append (λ y. (f y).now) (take i xs) (get_or xs i item ∷ [])
      ∙ (λ j. so_far i ++ (f (sym at j)).now ∷ [])

  -- once RDATA is put into the set, it is seen, and so is what was
  pub seen_more : (old new : BTreeSet (Bor (List ℕ))) → sorted.Updates octets_cmp old new x true
      → ((octets : List ℕ) → is_seen old octets ≡ list_any (λ y. bytes_eq y octets) (so_far i))
      → (octets : List ℕ) → is_seen new octets ≡ list_any (λ y. bytes_eq y octets) (so_far (i + 1))
  seen_more old new updates seen octets =
      seen_behind (so_far i) x old new updates seen octets ∙ ap (list_any (λ y. bytes_eq y octets)) (sym one_more)

  module _ (old : BTreeSet (Bor (List ℕ)))
      (seen : (octets : List ℕ) → is_seen old octets ≡ list_any (λ y. bytes_eq y octets) (so_far i))
      (found : List Placed) (once : map pair found ≡ enumerate_from 0 (first_appearances bytes_eq (so_far i))) where
    was_seen : (b : Bool) → not (contains octets_cmp old x) ≡ not b → list_any (λ y. bytes_eq y x.now) (so_far i) ≡ b
    was_seen b is = sym (seen x.now) ∙ sym (seen_contains old x) ∙ sym (twice (contains octets_cmp old x)) ∙ ap not is ∙ twice b
      where
        twice : (a : Bool) → not (not a) ≡ a
        twice true = refl
        twice false = refl

    next : (b : Bool) → list_any (λ y. bytes_eq y x.now) (so_far i) ≡ b
        → first_appearances bytes_eq (so_far (i + 1)) ≡ first_appearances bytes_eq (so_far i) ++ cond b [] (x.now ∷ [])
    next b is =
        ap (first_appearances bytes_eq) one_more ∙ first_appearances-push bytes_eq (so_far i) x.now
        ∙ (λ j. first_appearances bytes_eq (so_far i) ++ cond (is j) [] (x.now ∷ []))

    size : length found ≡ length (first_appearances bytes_eq (so_far i))
    size =
        sym (length-map found pair) ∙ ap length once ∙ length-enumerate_from 0 (first_appearances bytes_eq (so_far i))

    -- RDATA is listed where it comes for the first time
    pub once_more : (made : Placed) → not (contains octets_cmp old x) ≡ true → made.place ≡ length found → made.key.rdata ≡ x.now
        → map pair (found ++ made ∷ []) ≡ enumerate_from 0 (first_appearances bytes_eq (so_far (i + 1)))
    once_more made is place rdata =
        let all = first_appearances bytes_eq (so_far i) in
        let number : made.place ≡ 0 + length all = omega (arith, place, size) in
        map-append pair found (made ∷ []) ∙ (λ j. once j ++ (number j, rdata j) ∷ [])
        ∙ sym (placed-push 0 all x.now) ∙ ap (enumerate_from 0) (sym (next false (was_seen false is)))

    pub no_more : not (contains octets_cmp old x) ≡ false
        → map pair found ≡ enumerate_from 0 (first_appearances bytes_eq (so_far (i + 1)))
    no_more is =
        once ∙ ap (enumerate_from 0) (sym (next true (was_seen true is) ∙ append-nil (first_appearances bytes_eq (so_far i))))

pub each_push : {X : Type 0} (P : X → Type 0) (xs : List X) (x : X) → AllByRecursion P xs → P x → AllByRecursion P (xs ++ x ∷ [])
each_push P [] x each one = (one, tt)
each_push P (y ∷ xs) x each one = (each.0, each_push P xs x each.1 one)
