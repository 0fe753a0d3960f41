-- The keys of a zone.
use Rattle.std.proofs.Common.{◌≡◌, ℕ, zero, suc, ◌+◌, ◌<◌, ◌&&◌, ◌==◌, List, [], ◌∷◌, ◌++◌, Some, length, map, take, get_or, refl, sym, ap, ◌∙◌, subst, arith, append_assoc, append-nil}
use Rattle.std.proofs.lemmas.List.{take_more}
use Rattle.std.proofs.lemmas.List.Elements.{Contains-get_or}
use Rattle.std.specs.Prelude.{Contains, filter, nat_eq, slice_get}
use Rattle.std.specs.List.{AllByRecursion, enumerate_from}
use Rattle.std.specs.Cmp.Lexicographic.{pointwise}
use Rattle.std.specs.Str.{bytes_eq}
use Rattle.dnsv_names.specs.Name.{Labels, SameName, lower_case}
use Rattle.dnsv_canonical.specs.Canonical.{IsCanonical}
use Rattle.dnsv_canonical.specs.Index.{numbers_at}
use Rattle.dnsv_canonical.specs.Rrsets.{ReceivedRrset, first_appearances}
use Rattle.dnsv_canonical.proofs.CanonicalLemmas.{canonical_unique}
use Rattle.dnsv_canonical.proofs.OrderLemmas.{each_kept, each_of}
use Rattle.dnsv_canonical.proofs.NumberLemmas.{each_number, IsOneAt, one_numbered}
use Rattle.dnsv_records.specs.declared.dnskey.Dnskey.{Dnskey}
use Rattle.dnsv_rrsets.specs.declared.canonical_order.ReadRecord.{ReadRecord}
use Rattle.dnsv_verifier.specs.Admissible.{DnskeyRecord}
use Rattle.dnsv_zone_keys.specs.Keys.Index.{HaveAllOf, IsPlaced, Placed}
use Rattle.dnsv_zone_keys.specs.Keys.{AreRecordsOf, AreStanding, AreZoneKeys, IsKeyPlaced}
use Rattle.dnsv_zone_keys.specs.Keys.ZoneSearch.{AddsRecords, AreKeysOf, IsDnskeyNumber, IsOf}
use Rattle.dnsv_zone_keys.proofs.lemmas.OnceLemmas.{pair}

-- ---- what stands at a zone

-- one RRset more
pub stand_more : (rrsets : List ReceivedRrset) (numbers : List ℕ) (standing : List (List ℕ)) (n : ℕ) (records : List (List ℕ))
    → AreStanding rrsets numbers standing → AreRecordsOf rrsets n records → AreStanding rrsets (numbers ++ n ∷ []) (standing ++ records)
stand_more rrsets [] standing n records are its =
    (records, [], its, refl, ap (λ front. front ++ records) are ∙ sym (append-nil records))
stand_more rrsets (m ∷ numbers) standing n records are its = (
  are.0,
  are.1 ++ records,
  are.2,
  stand_more rrsets numbers are.1 n records are.3 its,
  ap (λ front. front ++ records) are.4 ∙ append_assoc are.0 are.1 records,
)

one_records : (rrsets : List ReceivedRrset) (n : ℕ) (a b : List (List ℕ)) → AreRecordsOf rrsets n a → AreRecordsOf rrsets n b → a ≡ b
one_records rrsets n a b first second =
    let same = one_numbered rrsets n first.rrset second.rrset first.numbered second.numbered in
    canonical_unique second.rrset.rdata a b (subst (λ (r : ReceivedRrset). IsCanonical r.rdata a) same first.canonical) second.canonical

pub one_standing : (rrsets : List ReceivedRrset) (numbers : List ℕ) (a b : List (List ℕ)) → AreStanding rrsets numbers a → AreStanding rrsets numbers b → a ≡ b
one_standing rrsets [] a b first second = first ∙ sym second
one_standing rrsets (n ∷ numbers) a b first second =
    let records = one_records rrsets n first.0 second.0 first.2 second.2 in
    let others = one_standing rrsets numbers first.1 second.1 first.3 second.3 in
    first.4 ∙ (λ i. records i ++ others i) ∙ sym second.4

pub one_zone_keys : (rrsets : List ReceivedRrset) (zone : Labels) (a b : List (List ℕ)) → AreZoneKeys rrsets zone a → AreZoneKeys rrsets zone b → a ≡ b
one_zone_keys rrsets zone a b first second =
    first.once ∙ ap (first_appearances bytes_eq) (one_standing rrsets (numbers_at rrsets zone 48) first.standing second.standing first.stand second.stand)
    ∙ sym second.once

pub stand_next : (rrsets : List ReceivedRrset) (numbers : List ℕ) (i d : ℕ) (old new : List (ReadRecord Dnskey)) → i < length numbers
    → AreStanding rrsets (take i numbers) (map (λ each. each.rdata.now) old) → AddsRecords rrsets (get_or numbers i d) old new
    → AreStanding rrsets (take (i + 1) numbers) (map (λ each. each.rdata.now) new)
stand_next rrsets numbers i d old new within so_far adds =
    let more = stand_more rrsets (take i numbers) (map (λ (each : ReadRecord Dnskey). each.rdata.now) old) (get_or numbers i d) adds.records so_far adds.are in
    let longer = take_more numbers i d within in
    subst (λ (ns : List ℕ). AreStanding rrsets ns (map (λ (each : ReadRecord Dnskey). each.rdata.now) new)) (sym longer)
    (subst (λ (standing : List (List ℕ)). AreStanding rrsets (take i numbers ++ get_or numbers i d ∷ []) standing) (sym adds.added) more)

-- ---- a zone by another spelling

pub same_numbers : (rrsets : List ReceivedRrset) (a b : Labels) (rtype : ℕ) → SameName a b → numbers_at rrsets a rtype ≡ numbers_at rrsets b rtype
same_numbers rrsets a b rtype same = λ i.
    map (λ (numbered : ℕ × ReceivedRrset). numbered.0)
    (filter (λ (numbered : ℕ × ReceivedRrset). pointwise (pointwise nat_eq) (lower_case numbered.1.owner) (same i) && (numbered.1.rtype == rtype)) (enumerate_from 1 rrsets))

pub same_zone_keys : (rrsets : List ReceivedRrset) (a b : Labels) (keys : List (List ℕ)) → SameName a b → AreZoneKeys rrsets a keys → AreZoneKeys rrsets b keys
same_zone_keys rrsets a b keys same are = record {
  standing = are.standing;
  stand = subst (λ (numbers : List ℕ). AreStanding rrsets numbers are.standing) (same_numbers rrsets a b 48 same) are.stand;
  once = are.once;
}

pub placed_same : (rrsets : List ReceivedRrset) (a b : Labels) (place : ℕ) (key : DnskeyRecord) → SameName a b → IsKeyPlaced rrsets a place key → IsKeyPlaced rrsets b place key
placed_same rrsets a b place key same is = record {
  keys = is.keys;
  are = same_zone_keys rrsets a b is.keys same is.are;
  at = is.at;
  read = is.read;
  owner = is.owner ∙ same;
}

-- ---- the numbers of its RRsets

pub dnskey_number : (rrsets : List ReceivedRrset) (zone : Labels) (numbers : List ℕ) (i d : ℕ) → numbers ≡ numbers_at rrsets zone 48 → i < length numbers → IsDnskeyNumber rrsets (get_or numbers i d)
dnskey_number rrsets zone numbers i d are within =
    let n : ℕ = get_or numbers i d in
    let there : Contains numbers n = Contains-get_or numbers i d within in
    let one = each_of (IsOneAt rrsets zone 48) (numbers_at rrsets zone 48) n (each_number rrsets zone 48) (subst (λ (all : List ℕ). Contains all n) are there) in
    record { rrset = one.rrset; numbered = one.is_rrset; rtype = one.same_type }

-- where there are none there is no key
no_keys : (rrsets : List ReceivedRrset) (zone : Labels) (keys : List (List ℕ)) → numbers_at rrsets zone 48 ≡ [] → AreZoneKeys rrsets zone keys → keys ≡ []
no_keys rrsets zone keys none are =
    let stand : AreStanding rrsets [] are.standing = subst (λ (numbers : List ℕ). AreStanding rrsets numbers are.standing) none are.stand in
    are.once ∙ ap (first_appearances bytes_eq) stand

pub no_key_placed : (rrsets : List ReceivedRrset) (zone : Labels) (place : ℕ) (key : DnskeyRecord) → numbers_at rrsets zone 48 ≡ [] → IsKeyPlaced rrsets zone place key → ⊥
no_key_placed rrsets zone place key none is =
    let empty : slice_get {X = List ℕ} [] place ≡ Some key.rdata = subst (λ (keys : List (List ℕ)). slice_get keys place ≡ Some key.rdata) (no_keys rrsets zone is.keys none is.are) is.at in
    cc

-- ---- keys with their places

-- each stands at its place
at_place : (n : ℕ) (placed : List Placed) (keys : List (List ℕ)) → map pair placed ≡ enumerate_from n keys
    → AllByRecursion (λ (p : Placed). (i : ℕ) × (p.place ≡ n + i) × (slice_get keys i ≡ Some p.key.rdata)) placed
at_place n [] keys are = tt
at_place n (p ∷ placed) [] are = absurd (cc are)
at_place n (p ∷ placed) (key ∷ keys) are =
    let place : p.place ≡ n = ap (λ (each : List (ℕ × List ℕ)). (get_or each 0 (n, key)).0) are in
    let rdata : p.key.rdata ≡ key = ap (λ (each : List (ℕ × List ℕ)). (get_or each 0 (n, key)).1) are in
    let rest : map pair placed ≡ enumerate_from (n + 1) keys = cc in (
      (0, omega (arith, place), ap (λ k. Some k) (sym rdata)),
      each_kept (λ (q : Placed). (i : ℕ) × (q.place ≡ n + 1 + i) × (slice_get keys i ≡ Some q.key.rdata))
          (λ (q : Placed). (i : ℕ) × (q.place ≡ n + i) × (slice_get (key ∷ keys) i ≡ Some q.key.rdata)) placed
          (λ q found. let at = found.1 in (suc found.0, omega (arith, at), found.2)) (at_place (n + 1) placed keys rest),
    )

-- what stands at a place is among them
from_place : (n : ℕ) (placed : List Placed) (keys : List (List ℕ)) → map pair placed ≡ enumerate_from n keys
    → (i : ℕ) (rdata : List ℕ) → slice_get keys i ≡ Some rdata
    → (p : Placed) × Contains placed p × (p.place ≡ n + i) × (p.key.rdata ≡ rdata)
from_place n [] [] are i rdata at = absurd (cc at)
from_place n [] (key ∷ keys) are i rdata at = absurd (cc are)
from_place n (p ∷ placed) [] are i rdata at = absurd (cc at)
from_place n (p ∷ placed) (key ∷ keys) are zero rdata at =
    let place : p.place ≡ n = ap (λ (each : List (ℕ × List ℕ)). (get_or each 0 (n, key)).0) are in
    let its : p.key.rdata ≡ key = ap (λ (each : List (ℕ × List ℕ)). (get_or each 0 (n, key)).1) are in
    let same : key ≡ rdata = cc at in
    let own : p.key.rdata ≡ rdata = its ∙ same in
    (p, (0, omega arith, refl), omega (arith, place), own)
from_place n (p ∷ placed) (key ∷ keys) are (suc i) rdata at =
    let rest : map pair placed ≡ enumerate_from (n + 1) keys = cc in
    let found = from_place (n + 1) placed keys rest i rdata at in
    let there = found.1.1 in
    let place = found.2 in
    (found.0, (suc found.1.0, omega (arith, there), found.1.2), omega (arith, place), found.3)

module _ (rrsets : List ReceivedRrset) (zone : Labels) (placed : List Placed) (are : AreKeysOf rrsets zone placed) where
  both : (xs : List Placed) (P Q : Placed → Type 0) → AllByRecursion P xs → AllByRecursion Q xs → AllByRecursion (λ x. P x × Q x) xs
  both [] P Q p q = tt
  both (x ∷ xs) P Q p q = ((p.0, q.0), both xs P Q p.1 q.1)

  pub keys_placed : AllByRecursion (IsPlaced rrsets) placed
  keys_placed =
      let At : Placed → Type 0 = λ p. (i : ℕ) × (p.place ≡ 0 + i) × (slice_get are.keys i ≡ Some p.key.rdata) in
      each_kept (λ p. At p × IsOf zone p) (IsPlaced rrsets) placed (λ p its.
      let of_zone : IsOf zone p = its.1 in
      let same : SameName zone p.key.owner = ap lower_case (sym of_zone.owner_is) in
      let place : its.0.0 ≡ p.place = let at = its.0.1 in omega (arith, at) in
      record {
        keys = are.keys;
        are = same_zone_keys rrsets zone p.key.owner are.keys same are.are;
        at = subst (λ (i : ℕ). slice_get are.keys i ≡ Some p.key.rdata) place its.0.2;
        read = of_zone.read;
        owner = refl;
      })
      (both placed At (IsOf zone) (at_place 0 placed are.keys are.order) are.each)

  pub keys_all : HaveAllOf rrsets placed zone
  keys_all place key is =
      let same = one_zone_keys rrsets zone is.keys are.keys is.are are.are in
      let found = from_place 0 placed are.keys are.order place key.rdata (subst (λ (keys : List (List ℕ)). slice_get keys place ≡ Some key.rdata) same is.at) in
      let place_is = found.2 in
      let of_zone : IsOf zone found.0 = each_of (IsOf zone) placed found.0 are.each found.1 in record {
        placed = found.0;
        among = found.1;
        place_is = omega (arith, place_is);
        rdata = found.3;
        owner = ap lower_case of_zone.owner_is;
      }
