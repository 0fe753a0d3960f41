-- What a search by halves finds: places among places, and keys by their RDATA.
use Rattle.std.proofs.Common.{◌≡◌, ◌≢◌, ℕ, ◌+◌, ◌<◌, ◌≤◌, false, ⊎_elim, List, length, map, get_or, refl, sym, ap, ◌∙◌, arith}
use Rattle.std.proofs.lemmas.Bool.{cases_lt}
use Rattle.std.proofs.lemmas.Cmp.{nat_list_cmp_total, tied_itself}
use Rattle.std.proofs.lemmas.List.{get_or-map, get_or_default, length-map}
use Rattle.std.proofs.lemmas.List.Sorted.{searchable_from_sorted, searched}
use Rattle.std.proofs.lemmas.Map.Keys.{Less-from_sorted, non_decreasing_from_sorted, sorted_from_strictly_increasing}
use Rattle.std.proofs.lemmas.Map.Lookups.{exact_bytes}
use Rattle.std.specs.List.{HoldsAt}
use Rattle.std.specs.List.Sorted.{IsNonDecreasingBy, IsPartitionPoint, IsSortedByKey, IsStrictlyIncreasing, IsStrictlySortedBy}
use Rattle.std.specs.Ordering.{is_lt, nat_cmp, ordering_index, ordering_reverse}
use Rattle.std.specs.Prelude.{Contains, Ok, Err}
use Rattle.std.specs.declared.cmp.Ordering.{Ordering}
use Rattle.std.specs.declared.cmp.Ordering.TheVariants.{Equal, Greater, Less}
use Rattle.dnsv_canonical.specs.Canonical.{rdata_cmp}
use Rattle.dnsv_zone_faults.specs.Dnskeys.DnskeySearch.{rdata_of}
use Rattle.dnsv_zone_keys.specs.Keys.Index.{Placed}

-- ---- places

rises : (xs : List ℕ) → IsStrictlyIncreasing xs → (i j : ℕ) → i ≤ j → j < length xs → get_or xs i 0 ≤ get_or xs j 0
rises xs rising i j le within = non_decreasing_from_sorted xs (sorted_from_strictly_increasing xs rising) i j 0 le within

pub found_place : (xs : List ℕ) (x i : ℕ) → IsStrictlyIncreasing xs → HoldsAt (λ y. nat_cmp y x ≡ Equal) xs i → Contains xs x
found_place xs x i rising holds =
    let found = searched xs x (Ok i) holds (rises xs rising) in
    (i, found.0, get_or_default xs i x 0 found.0 ∙ found.1)

pub no_place : (xs : List ℕ) (x i : ℕ) → IsStrictlyIncreasing xs
    → (IsNonDecreasingBy (λ y. ordering_index (nat_cmp y x)) xs → IsPartitionPoint (λ y. nat_cmp y x ≡ Less) (λ y. nat_cmp y x ≡ Greater) xs i)
    → Contains xs x → ⊥
no_place xs x i rising parted (k, within, at) =
    let missed = searched xs x (Err i) parted (rises xs rising) in
    let value : get_or xs k 0 ≡ x = get_or_default xs k 0 x within ∙ at in
    ⊎_elim
    (λ (before : k < i). let less = missed.1 k before in omega (arith, less, value))
    (λ (behind : i ≤ k). let more = missed.2 k behind within in omega (arith, more, value))
    (cases_lt k i)

-- ---- keys by their RDATA

pub tied : (keys : List Placed) (rdata : List ℕ) (i : ℕ) (key : Placed) → key ≡ get_or keys i key
    → HoldsAt (λ (each : Placed). rdata_cmp each.key.rdata rdata ≡ Equal) keys i → key.key.rdata ≡ rdata
tied keys rdata i key at holds = exact_bytes key.key.rdata rdata (ap (λ (each : Placed). rdata_cmp each.key.rdata rdata) at ∙ holds key)

pub missed : (keys : List Placed) (rdata : List ℕ) (i : ℕ) → IsSortedByKey rdata_of rdata_cmp keys
    → (IsNonDecreasingBy (λ (each : Placed). ordering_index (rdata_cmp each.key.rdata rdata)) keys
    → IsPartitionPoint (λ (each : Placed). rdata_cmp each.key.rdata rdata ≡ Less) (λ (each : Placed). rdata_cmp each.key.rdata rdata ≡ Greater) keys i)
    → (placed : Placed) → Contains keys placed → placed.key.rdata ≢ rdata
missed keys rdata i sorted parted placed (k, within, at) same =
    let equal : rdata_cmp (get_or keys k placed).key.rdata rdata ≡ Equal =
    ap (λ (each : Placed). rdata_cmp each.key.rdata rdata) at ∙ ap (λ (r : List ℕ). rdata_cmp r rdata) same ∙ tied_itself nat_list_cmp_total rdata in
    let point = parted (searchable_from_sorted nat_list_cmp_total rdata_of keys rdata sorted) in
    ⊎_elim
    (λ (before : k < i). let less = point.0 k placed (omega arith) before in let clash : Less ≡ Equal = sym less ∙ equal in cc clash)
    (λ (behind : i ≤ k). let more = point.1 k placed behind within in let clash : Greater ≡ Equal = sym more ∙ equal in cc clash)
    (cases_lt k i)

not_less : (o : Ordering) → o ≡ Less → is_lt (ordering_reverse o) ≡ false
not_less o is = rw is refl

-- in canonical order they stand by their RDATA
pub stand_by_rdata : (keys : List Placed) → IsStrictlySortedBy rdata_cmp (map rdata_of keys) → IsSortedByKey rdata_of rdata_cmp keys
stand_by_rdata keys rising = λ k d low within.
    let count = length-map keys rdata_of in
    let less : rdata_cmp (get_or (map rdata_of keys) k (rdata_of d)) (get_or (map rdata_of keys) (k + 1) (rdata_of d)) ≡ Less =
    Less-from_sorted rdata_cmp (map rdata_of keys) k (k + 1) (rdata_of d) rising (omega arith) (omega (arith, within, count)) in
    let first = get_or-map rdata_of keys k d (rdata_of d) (omega (arith, within)) in
    let second = get_or-map rdata_of keys (k + 1) d (rdata_of d) within in
    let both : rdata_cmp (rdata_of (get_or keys k d)) (rdata_of (get_or keys (k + 1) d)) ≡ Less = (λ i. rdata_cmp (sym first i) (sym second i)) ∙ less in
    ap is_lt (nat_list_cmp_total.antisymm (rdata_of (get_or keys (k + 1) d)) (rdata_of (get_or keys k d)))
    ∙ not_less (rdata_cmp (rdata_of (get_or keys k d)) (rdata_of (get_or keys (k + 1) d))) both
