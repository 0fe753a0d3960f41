-- The signatures of an RRset in the order of their signers.
use Rattle.std.proofs.Common.{◌≡◌, ℕ, zero, suc, ◌+◌, ◌-◌, ◌<◌, ◌≤◌, Bool, List, [], ◌∷◌, ◌++◌, Some, length, map, take, get_or, refl, sym, ap, ◌∙◌, subst, arith}
use Rattle.std.proofs.lemmas.Cmp.{back_total, nat_cmp_total, on_total, then_total}
use Rattle.std.proofs.lemmas.List.{length-map, length-take, map-append, take_more}
use Rattle.std.proofs.lemmas.List.Sorted.{Contains-permutation, IsPermutation-map, IsPermutation-sym}
use Rattle.std.proofs.lemmas.Option.{slice_get-get_or}
use Rattle.std.specs.Cmp.{IsTotalOrder}
use Rattle.std.specs.Ordering.{is_lt}
use Rattle.std.specs.Prelude.{IsPermutation, IsSortedByKey, slice_get}
use Rattle.std.specs.List.{AllByRecursion, AllZip, enumerate_from}
use Rattle.std.specs.declared.cmp.Ordering.{Ordering}
use Rattle.dnsv_records.specs.Rrsig.{IsRrsig}
use Rattle.dnsv_records.specs.declared.rrsig.Rrsig.{Rrsig}
use Rattle.dnsv_canonical.specs.Rrsets.{IsNumbered, ReceivedRrset}
use Rattle.dnsv_canonical.proofs.OrderLemmas.{each_member, each_of, whole_by_count, zip_at}
use Rattle.dnsv_canonical.proofs.GroupLemmas.{placed-push}
use Rattle.dnsv_mending.specs.declared.facts.signature.RrsetFacts.{RrsetFacts}
use Rattle.dnsv_chain.specs.Basis.{Basis}
use Rattle.dnsv_faults.specs.Rrsets.{AreInOrder, AreRrsetFacts, Rank, rank_cmp, rank_of}
use Rattle.dnsv_faults.specs.Rrsets.RrsetSearch.{rank, seen_signature}
use Rattle.dnsv_faults.specs.Signatures.{AreSignatureFacts, IsSignatureAt}
use Rattle.dnsv_faults.specs.declared.rrset.NumberedSignature.{NumberedSignature}

pub rank_cmp_total : IsTotalOrder rank_cmp
rank_cmp_total = then_total (back_total (on_total (λ (r : Rank). r.labels) nat_cmp_total)) (on_total (λ (r : Rank). r.number) nat_cmp_total)

map_get : {X Y : Type 0} (f : X → Y) (xs : List X) (k : ℕ) (d : Y) (e : X) → k < length xs → get_or (map f xs) k d ≡ f (get_or xs k e)
map_get f [] k d e within = absurd (omega (arith, within))
map_get f (x ∷ xs) zero d e within = refl
map_get f (x ∷ xs) (suc k) d e within = map_get f xs k d e (omega (arith, within))

-- what is in order by what the elements are
pub sorted_map : {X Y K : Type 0} (f : X → Y) (key : Y → K) (cmp : K → K → Ordering) (xs : List X) → IsSortedByKey (λ x. key (f x)) cmp xs
    → IsSortedByKey key cmp (map f xs)
sorted_map f key cmp [] sorted = λ k d low within. absurd (omega (arith, within))
sorted_map {X} {Y} f key cmp (x ∷ xs) sorted = λ k d low within.
    let count = length-map (x ∷ xs) f in
    let inside : k + 1 < length (x ∷ xs) = omega (arith, within, count) in
    let lt : Y → Y → Bool = λ a b. is_lt (cmp (key a) (key b)) in
    (λ i. lt (map_get f (x ∷ xs) (k + 1) d x inside i) (map_get f (x ∷ xs) k d x (omega (arith, inside)) i))
    ∙ sorted k x low inside

-- one signature more
pub one_more : (signatures : List Rrsig) (i : ℕ) (rrsig : Rrsig) (so_far : List (ℕ × Rrsig)) → i < length signatures → rrsig ≡ get_or signatures i rrsig
    → so_far ≡ enumerate_from 1 (take i signatures) → so_far ++ (i + 1, rrsig) ∷ [] ≡ enumerate_from 1 (take (i + 1) signatures)
one_more signatures i rrsig so_far within at are =
    let count = length-take i signatures in
    let number : i + 1 ≡ 1 + length (take i signatures) = omega (arith, count, within) in
    (λ j. are j ++ (number j, at j) ∷ []) ∙ sym (placed-push 1 (take i signatures) (get_or signatures i rrsig))
    ∙ ap (enumerate_from 1) (sym (take_more signatures i rrsig within))

pub its_signature : (rrset : ReceivedRrset) (signatures : List Rrsig) (i : ℕ) (rrsig : Rrsig) → AllZip IsRrsig rrset.signatures signatures
    → i < length signatures → rrsig ≡ get_or signatures i rrsig → IsSignatureAt rrset (i + 1) rrsig
its_signature rrset signatures i rrsig read within at =
    let there : slice_get signatures i ≡ Some rrsig = slice_get-get_or signatures i rrsig within ∙ ap (λ y. Some y) (sym at) in
    let own = zip_at IsRrsig rrset.signatures signatures i rrsig read there in
    let place : i + 1 - 1 ≡ i = omega arith in
    record {
      rdata = own.0;
      numbered = (omega arith, ap (λ (p : ℕ). slice_get rrset.signatures p) place ∙ own.1);
      is = own.2;
    }

-- one more of those that are put in order
pub order_more : {X : Type 0} (seen : X → ℕ × Rrsig) (signatures : List Rrsig) (i : ℕ) (rrsig : Rrsig) (old : List X) (made : X) → i < length signatures
    → rrsig ≡ get_or signatures i rrsig → seen made ≡ (i + 1, rrsig) → map seen old ≡ enumerate_from 1 (take i signatures)
    → map seen (old ++ made ∷ []) ≡ enumerate_from 1 (take (i + 1) signatures)
order_more seen signatures i rrsig old made within at is are =
    map-append seen old (made ∷ []) ∙ (λ j. map seen old ++ is j ∷ []) ∙ one_more signatures i rrsig (map seen old) within at are

pub put_in_order : (rrset : ReceivedRrset) (signatures : List Rrsig) (old new : List NumberedSignature) → AllZip IsRrsig rrset.signatures signatures
    → map seen_signature old ≡ enumerate_from 1 signatures → IsPermutation old new → IsSortedByKey rank rank_cmp new
    → AreInOrder rrset (map seen_signature new)
put_in_order rrset signatures old new read are moved sorted = record {
  signatures = signatures;
  read = read;
  moved = subst (λ (each : List (ℕ × Rrsig)). IsPermutation each (map seen_signature new)) are (IsPermutation-map seen_signature old new moved);
  rising = sorted_map seen_signature rank_of rank_cmp new sorted;
}

-- the same in another order
pub all_moved : {X : Type 0} (P : X → Type 0) (old new : List X) → IsPermutation old new → AllByRecursion P old → AllByRecursion P new
all_moved P old new moved each =
    each_member P new (λ x there. each_of P old x each (Contains-permutation new old x (IsPermutation-sym old new moved) there))

-- as many as there are
pub whole : (xs : List Rrsig) (i : ℕ) → length xs ≤ i → take i xs ≡ xs
whole xs i past = whole_by_count xs i past

pub zip_mapped : {A B C : Type 0} (R : A → C → Type 0) (f : B → A) (xs : List B) (ys : List C) → AllZip (λ x y. R (f x) y) xs ys → AllZip R (map f xs) ys
zip_mapped R f [] [] each = tt
zip_mapped R f [] (y ∷ ys) each = absurd each
zip_mapped R f (x ∷ xs) [] each = absurd each
zip_mapped R f (x ∷ xs) (y ∷ ys) each = (each.0, zip_mapped R f xs ys each.1)

pub rrset_has : (basis : Basis) (k : ℕ) (rrset : ReceivedRrset) (order : List NumberedSignature) (facts : RrsetFacts) → IsNumbered basis.rrsets k rrset
    → facts.number ≡ k → AreInOrder rrset (map seen_signature order)
    → AllZip (λ signature known. AreSignatureFacts basis k rrset signature.number known) order facts.signatures.items → AreRrsetFacts basis k facts
rrset_has basis k rrset order facts numbered number in_order each = record {
  rrset = rrset;
  numbered = numbered;
  number = number;
  order = map seen_signature order;
  in_order = in_order;
  each = zip_mapped (λ (signature : ℕ × Rrsig) known. AreSignatureFacts basis k rrset signature.0 known) seen_signature order facts.signatures.items each;
}
