-- The keys of a DNSKEY RRset, as they are read.
use Rattle.std.proofs.Common.{◌≡◌, ◌<◌, ◌≤◌, ℕ, zero, suc, Some, List, [], ◌∷◌, length, map, get_or, take, refl, sym, ap, ◌∙◌, subst, arith}
use Rattle.std.proofs.lemmas.List.{get_or-map, length-map, take_all}
use Rattle.std.proofs.lemmas.Option.{slice_get-get_or}
use Rattle.std.specs.List.{AllByRecursion, slice_get}
use Rattle.dnsv_records.specs.Dnskey.{IsDnskey}
use Rattle.dnsv_records.specs.declared.dnskey.Dnskey.{Dnskey}
use Rattle.dnsv_canonical.specs.Canonical.{IsCanonical}
use Rattle.dnsv_canonical.specs.Rrsets.{ReceivedRrset}
use Rattle.dnsv_verifier.proofs.NumberLemmas.{contains_from_map, contains_map}
use Rattle.dnsv_verifier.specs.Admissible.{DnskeyRecord}
use Rattle.dnsv_chain.specs.Trusted.{IsKeyOf}
use Rattle.dnsv_derivations.specs.derivations.WaySearch.{AreKeysInOrder, key_of}

-- what is so of each is so of the one at a place
pub each_at : {X : Type 0} (P : X → Type 0) (xs : List X) (i : ℕ) (x : X) → AllByRecursion P xs → i < length xs
    → x ≡ get_or xs i x → P x
each_at P [] i x all within is = absurd (omega (arith, within))
each_at P (y ∷ xs) zero x all within is = subst P (sym is) all.0
each_at P (y ∷ xs) (suc i) x all within is = each_at P xs i x all.1 (omega (arith, within)) is

pub mapped_at : {X Y : Type 0} (f : X → Y) (xs : List X) (i : ℕ) (x : X) → i < length xs → x ≡ get_or xs i x
    → slice_get (map f xs) i ≡ Some (f x)
mapped_at f xs i x within at =
    let size = length-map xs f in
    slice_get-get_or (map f xs) i (f x) (omega (arith, size, within))
    ∙ ap (λ y. Some y) (get_or-map f xs i x (f x) within ∙ ap f (sym at))

module _ {X : Type 0} (rdata : X → List ℕ) (dnskey : X → Dnskey) (set : ReceivedRrset) (records : List X) where
  abbrev as_key : X → DnskeyRecord
  as_key x = key_of set.owner (rdata x) (dnskey x)

  rdata_kept : (xs : List X) → map (λ (key : DnskeyRecord). key.rdata) (map as_key xs) ≡ map rdata xs
  rdata_kept [] = refl
  rdata_kept (x ∷ xs) = ap (λ rest. rdata x ∷ rest) (rdata_kept xs)

  pub keys_are : set.rtype ≡ 48 → IsCanonical set.rdata (map rdata records)
      → AllByRecursion (λ x. IsDnskey (rdata x) (dnskey x)) records → AreKeysInOrder set (map as_key records)
  keys_are rtype canonical read =
      let Canonical : List (List ℕ) → Type 0 = λ all. IsCanonical set.rdata all in record {
        canonical = subst Canonical (sym (rdata_kept records)) canonical;
        each = λ key there.
            let source = contains_from_map as_key records key there in
            let mapped = contains_map rdata records source.0 source.1 in
            let Is : DnskeyRecord → Type 0 = λ one. IsKeyOf set one in
            subst Is source.2 (record {
              rtype = rtype;
              owner = refl;
              among = (canonical.members (rdata source.0)).0 mapped;
              is = each_at (λ x. IsDnskey (rdata x) (dnskey x)) records source.1.0 source.0 read source.1.1 (sym source.1.2);
            });
      }

  -- the same under another name
  pub keys_read : (items : List X) → items ≡ records → set.rtype ≡ 48 → IsCanonical set.rdata (map rdata records)
      → AllByRecursion (λ x. IsDnskey (rdata x) (dnskey x)) records → AreKeysInOrder set (map as_key items)
  keys_read items same rtype canonical read =
      subst (λ (each : List X). AreKeysInOrder set (map as_key each)) (sym same) (keys_are rtype canonical read)

pub all_made : {X Y : Type 0} (f : X → Y) (made : List Y) (items xs : List X) (n : ℕ) → made ≡ map f (take n items) → items ≡ xs
    → length items ≤ n → made ≡ map f xs
all_made f made items xs n is same past = is ∙ ap (map f) (take_all n items past ∙ same)

-- ---- the same list under another name

pub mapped_there : {X Y : Type 0} (f : X → Y) (items records : List X) (i : ℕ) (x : X) → items ≡ records → i < length items
    → x ≡ get_or items i x → slice_get (map f records) i ≡ Some (f x)
mapped_there {X = X} f items records i x same within at =
    let There : List X → Type 0 = λ each. slice_get (map f each) i ≡ Some (f x) in
    subst There same (mapped_at f items i x within at)

pub read_there : {X : Type 0} (P : X → Type 0) (items records : List X) (i : ℕ) (x : X) → items ≡ records → AllByRecursion P records
    → i < length items → x ≡ get_or items i x → P x
read_there {X = X} P items records i x same all within at =
    let All : List X → Type 0 = λ each. AllByRecursion P each in
    each_at P items i x (subst All (sym same) all) within at

pub mapped_long : {X Y : Type 0} (f : X → Y) (items records : List X) (n : ℕ) → items ≡ records → length items ≤ n
    → length (map f records) ≤ n
mapped_long {X = X} f items records n same past =
    let size = length-map items f in
    let Long : List X → Type 0 = λ each. length (map f each) ≤ n in
    subst Long same (omega (arith, size, past))
