-- The keys of entries, in order.
use Rattle.std.proofs.Common.{◌≡◌, ◌<◌, ◌&&◌, ℕ, List, [], ◌∷◌, nat_eq, length, get_or, slice_get, slice_index_or, take, ◌++◌, ◌+◌, Some, map, sym, ap, ◌∙◌, subst, arith}
use Rattle.std.proofs.lemmas.Cmp.{eq_by_cmp_equiv, nat_cmp_total, nat_list_cmp_total, on_total, then_total}
use Rattle.std.proofs.lemmas.List.{map-append, take_more}
use Rattle.std.proofs.lemmas.List.Kept.{Contains-dedup, Contains-from_dedup, IsStrictlySortedBy-dedup}
use Rattle.std.proofs.lemmas.List.Sorted.{Contains-permutation, IsPermutation-sym}
use Rattle.std.specs.Cmp.{IsTotalOrder, both_tied, unsigned_ties}
use Rattle.std.specs.Cmp.Lexicographic.{pointwise, texts_ties}
use Rattle.std.specs.List.{Contains, HoldsAt, dedup}
use Rattle.std.specs.List.Sorted.{IsPermutation, IsSorted, IsStrictlySortedBy}
use Rattle.std.specs.Ordering.{eq_by_cmp, nat_cmp}
use Rattle.std.specs.declared.cmp.Ordering.TheVariants.{Equal}
use Rattle.dnsv_names.specs.Octets.{octets_cmp}
use Rattle.dnsv_canonical.specs.Rrsets.{IsNumbered}
use Rattle.dnsv_verifier.specs.EntryLaws.{octet_Equal, octets_Equal, then_Equal}
use Rattle.dnsv_verifier.specs.declared.entry.Entry.{Entry}
use Rattle.dnsv_verifier.proofs.TableLemmas.{is_eq-Equal}
use Rattle.dnsv_compact.specs.CompactList.{AreKeysOf, key_cmp, key_of_entry}
use Rattle.dnsv_compact.specs.declared.key.ListedKey.{ListedKey}
use Rattle.dnsv_compact.proofs.NumberedLemmas.{slice_get_at}

pub key_cmp_total : IsTotalOrder key_cmp
key_cmp_total =
    then_total (on_total (λ (part : ListedKey). part.algorithm.0) nat_cmp_total) (on_total (λ (part : ListedKey). part.key) nat_list_cmp_total)

pub key_Equal : (a b : ListedKey) → key_cmp a b ≡ Equal → a ≡ b
key_Equal a b e =
    let both = then_Equal (nat_cmp a.algorithm.0 b.algorithm.0) (octets_cmp a.key b.key) e in
    λ i. record { algorithm = record { 0 = octet_Equal a.algorithm.0 b.algorithm.0 both.0 i }; key = octets_Equal a.key b.key both.1 i }

key_ties : (x y : ListedKey) → (nat_eq x.algorithm.0 y.algorithm.0 && pointwise nat_eq x.key y.key) ≡ eq_by_cmp key_cmp x y
key_ties x y = both_tied _ _ _ _ (unsigned_ties x.algorithm.0 y.algorithm.0) (texts_ties x.key y.key)

-- sorted and without repeats they are the keys of the entries
pub are_keys : (entries : List Entry) (all sorted kept : List ListedKey) → all ≡ map key_of_entry entries → IsPermutation all sorted → IsSorted key_cmp sorted
    → kept ≡ dedup (λ x y. nat_eq x.algorithm.0 y.algorithm.0 && pointwise nat_eq x.key y.key) sorted → AreKeysOf entries kept
are_keys entries all sorted kept are moves ordered is =
    let by_cmp : kept ≡ dedup (eq_by_cmp key_cmp) sorted = is ∙ (λ i. dedup (λ x y. key_ties x y i) sorted) in
    record {
      rising = subst (IsStrictlySortedBy key_cmp) (sym is) (IsStrictlySortedBy-dedup key_cmp_total key_ties sorted ordered);
      members = λ key. (
        λ found. subst (λ (keys : List ListedKey). Contains keys key) are
            (Contains-permutation sorted all key (IsPermutation-sym all sorted moves)
            (Contains-from_dedup (eq_by_cmp key_cmp) sorted key (subst (λ (keys : List ListedKey). Contains keys key) by_cmp found))),
        λ found. subst (λ (keys : List ListedKey). Contains keys key) (sym by_cmp)
            (Contains-dedup (eq_by_cmp_equiv key_cmp_total) (λ x y tied. key_Equal x y (is_eq-Equal (key_cmp x y) tied)) sorted key
            (Contains-permutation all sorted key moves (subst (λ (keys : List ListedKey). Contains keys key) (sym are) found))),
      );
    }

-- one key more
pub keys_more : (entries : List Entry) (place : ℕ) (entry : Entry) (old new : List ListedKey) (key : ListedKey) → place < length entries
    → ((other : Entry) → slice_index_or entries place other ≡ entry) → key ≡ key_of_entry entry → new ≡ old ++ key ∷ []
    → old ≡ map key_of_entry (take place entries) → new ≡ map key_of_entry (take (place + 1) entries)
keys_more entries place entry old new key within at is grown so_far =
    let longer : take (place + 1) entries ≡ take place entries ++ entry ∷ [] = take_more entries place entry within ∙ ap (λ (e : Entry). take place entries ++ e ∷ []) (at entry) in
    grown ∙ (λ i. so_far i ++ is i ∷ []) ∙ sym (map-append key_of_entry (take place entries) (entry ∷ [])) ∙ ap (λ (es : List Entry). map key_of_entry es) (sym longer)

-- where a key is found
pub found_key : (keys : List ListedKey) (asked : ListedKey) (place : ℕ) → place < length keys → HoldsAt (λ key. key_cmp key asked ≡ Equal) keys place
    → IsNumbered keys (place + 1) asked
found_key keys asked place within holds =
    let there : slice_get keys place ≡ Some asked = slice_get_at keys place asked within (sym (key_Equal (get_or keys place asked) asked (holds asked))) in
    (omega arith, subst (λ (i : ℕ). slice_get keys i ≡ Some asked) (omega arith) there)
