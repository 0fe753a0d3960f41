-- Whether octets are a record: for each there is an answer.
use Rattle.std.proofs.Common.{◌≡◌, inl, inr, ⊎_elim, ℕ, ◌+◌, ◌-◌, ◌<◌, Bool, true, false, List, [], ◌∷◌, ◌++◌, length, get_or, take, drop, refl, sym, ap, ◌∙◌, subst, arith}
use Rattle.std.proofs.lemmas.List.{length-take-le, take-append-drop, length-append}
use Rattle.std.proofs.lemmas.Slice.Eq.{bytes_eq-Decides}
use Rattle.std.specs.List.{flat_map}
use Rattle.std.specs.Str.{bytes_eq}
use Rattle.dnsv_names.specs.Octets.{number_at}
use Rattle.dnsv_records.specs.declared.dnskey.Dnskey.{Dnskey}
use Rattle.dnsv_records.specs.declared.ds.Ds.{Ds}
use Rattle.dnsv_records.specs.declared.nsec3.Nsec3.{Nsec3}
use Rattle.dnsv_records.specs.Bitmap.{Block, block_octets, IsBitmap, WindowsRise}
use Rattle.dnsv_records.specs.Bitmap.Blocks.{blocks_of, IsGoodBlock, AreBlocks}
use Rattle.dnsv_records.specs.DecisionLaws.{Or, all_or, at_most_or, less_or, number_or}
use Rattle.dnsv_records.specs.Dnskey.{IsDnskey}
use Rattle.dnsv_records.specs.Ds.{IsDs}
use Rattle.dnsv_records.specs.Layout.{BeginsWithCounted}
use Rattle.dnsv_records.specs.Nsec3.{IsNsec3}
use Rattle.dnsv_records.proofs.BitmapLemmas.{Bitmap-types_of, AreBlocks-Bitmap}
use Rattle.dnsv_records.proofs.RecordLemmas.{same_counted}

octets_or : (xs ys : List ℕ) → Or (xs ≡ ys)
octets_or xs ys = test (bytes_eq xs ys) refl where
  test : (answer : Bool) → bytes_eq xs ys ≡ answer → Or (xs ≡ ys)
  test true is = inl ((bytes_eq-Decides xs ys).0 is)
  test false is = inr (λ same. let turned : true ≡ false = sym ((bytes_eq-Decides xs ys).1 same) ∙ is in cc)

-- ---- the bitmap

block_or : (block : Block) → Or (IsGoodBlock block)
block_or block =
    ⊎_elim (λ number. ⊎_elim (λ octets. ⊎_elim (λ some. ⊎_elim (λ few. ⊎_elim
    (λ zero. inr (λ good. good.last zero))
    (λ last. inl (record { number = number; octets = octets; some = some; few = few; last = last }))
    (number_or (get_or block.bits (length block.bits - 1) 0) 0))
    (λ none. inr (λ good. none good.few)) (at_most_or (length block.bits) 32))
    (λ none. inr (λ good. none good.some)) (less_or 0 (length block.bits)))
    (λ none. inr (λ good. none good.octets)) (all_or (λ octet. octet < 256) (λ octet. less_or octet 256) block.bits))
    (λ none. inr (λ good. none good.number)) (less_or block.window 256)

rising_or : (least : ℕ) (blocks : List Block) → Or (WindowsRise least blocks)
rising_or least [] = inl tt
rising_or least (block ∷ blocks) =
    ⊎_elim (λ here. ⊎_elim (λ rest. inl (here, rest)) (λ none. inr (λ rise. none rise.1)) (rising_or (block.window + 1) blocks)) (λ none. inr (λ rise. none rise.0)) (at_most_or least block.window)

blocks_or : (octets : List ℕ) → Or (AreBlocks 0 octets)
blocks_or octets =
    ⊎_elim (λ written. ⊎_elim (λ rising. ⊎_elim
    (λ each. inl (record { written = written; rising = rising; each = each }))
    (λ none. inr (λ are. none are.each)) (all_or IsGoodBlock block_or (blocks_of octets)))
    (λ none. inr (λ are. none are.rising)) (rising_or 0 (blocks_of octets)))
    (λ none. inr (λ are. none are.written)) (octets_or octets (flat_map block_octets (blocks_of octets)))

pub bitmap_or : (octets : List ℕ) → Or (IsBitmap octets)
bitmap_or octets =
    ⊎_elim (λ are. inl (_, Bitmap-types_of octets are)) (λ none. inr (λ is. none (AreBlocks-Bitmap octets is.0 is.1))) (blocks_or octets)

-- ---- the records

counted_or : (octets : List ℕ) → Or (BeginsWithCounted octets)
counted_or [] = inr (λ is. let none = is.2 in cc)
counted_or (n ∷ rest) =
    ⊎_elim
    (λ within.
    let size : n ≡ length (take n rest) = sym (length-take-le n rest within) in
    inl (take n rest, drop n rest, (λ i. size i ∷ sym (take-append-drop n rest) i)))
    (λ beyond. inr (λ is.
    let whole : n ∷ rest ≡ length is.0 ∷ (is.0 ++ is.1) = is.2 in
    let count : n ≡ length is.0 = ap (λ xs. get_or xs 0 0) whole in
    let behind : rest ≡ is.0 ++ is.1 = ap (drop 1) whole in
    beyond (omega (arith, count, ap length behind, length-append is.0 is.1))))
    (at_most_or n (length rest))

pub dnskey_or : (rdata : List ℕ) → Or ((dnskey : Dnskey) × IsDnskey rdata dnskey)
dnskey_or rdata =
    ⊎_elim
    (λ head. inl (
      record { flags = record { 0 = number_at rdata 0 2 }; protocol = number_at rdata 2 1; algorithm = record { 0 = number_at rdata 3 1 }; key = drop 4 rdata },
      record { head = head; flags = refl; protocol = refl; algorithm = refl; key = refl },
    ))
    (λ none. inr (λ is. none is.1.head)) (at_most_or 4 (length rdata))

pub ds_or : (rdata : List ℕ) → Or ((ds : Ds) × IsDs rdata ds)
ds_or rdata =
    ⊎_elim
    (λ head. inl (
      record { key_tag = record { 0 = number_at rdata 0 2 }; algorithm = record { 0 = number_at rdata 2 1 }; digest_type = record { 0 = number_at rdata 3 1 }; digest = drop 4 rdata },
      record { head = head; key_tag = refl; algorithm = refl; digest_type = refl; digest = refl },
    ))
    (λ none. inr (λ is. none is.1.head)) (at_most_or 4 (length rdata))

pub nsec3_or : (rdata : List ℕ) → Or ((nsec3 : Nsec3) × IsNsec3 rdata nsec3)
nsec3_or rdata =
    ⊎_elim (λ head. ⊎_elim (λ salt. ⊎_elim (λ hash. ⊎_elim
    (λ bitmap. inl (
      record {
        algorithm = record { 0 = number_at rdata 0 1 };
        flags = record { 0 = number_at rdata 1 1 };
        parameters = record { iterations = record { 0 = number_at rdata 2 2 }; salt = salt.0 };
        next_hash = hash.0;
        types = bitmap.0;
      },
      record { head = head; algorithm = refl; flags = refl; iterations = refl; behind_salt = salt.1; salt = salt.2; bits = hash.1; next_hash = hash.2; bitmap = bitmap.1 },
    ))
    (λ none. inr (λ is.
    let rest = (same_counted (drop 4 rdata) salt.0 is.0.parameters.salt salt.1 is.1.behind_salt salt.2 is.1.salt).1 in
    let bits = (same_counted salt.1 hash.0 is.0.next_hash hash.1 is.1.bits hash.2 (rest ∙ is.1.next_hash)).1 in
    none (subst IsBitmap (sym bits) (is.0.types, is.1.bitmap)))) (bitmap_or hash.1))
    (λ none. inr (λ is. none (is.0.next_hash, is.1.bits, (same_counted (drop 4 rdata) salt.0 is.0.parameters.salt salt.1 is.1.behind_salt salt.2 is.1.salt).1 ∙ is.1.next_hash))) (counted_or salt.1))
    (λ none. inr (λ is. none (is.0.parameters.salt, is.1.behind_salt, is.1.salt))) (counted_or (drop 4 rdata)))
    (λ none. inr (λ is. none is.1.head)) (at_most_or 4 (length rdata))
