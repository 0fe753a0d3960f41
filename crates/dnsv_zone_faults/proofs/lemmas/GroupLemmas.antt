-- The trust anchors and the DS records of a zone, one after another.
use Rattle.std.proofs.Common.{◌≡◌, ◌↔◌, ◌+◌, ◌<◌, ◌==◌, ℕ, if◌then◌else◌, inl, inr, Bool, true, false, List, [], ◌∷◌, ◌++◌, Some, None, length, get_or, map, take, refl, sym, ap, ◌∙◌, subst, arith, IsTrue}
use Rattle.std.proofs.lemmas.Bool.Decides.{nat_tests}
use Rattle.std.proofs.lemmas.List.{length-map, length-take, map-append, take_more}
use Rattle.std.specs.List.{AllByRecursion, AllZip}
use Rattle.std.specs.Prelude.{Contains}
use Rattle.dnsv_names.specs.Name.{Labels}
use Rattle.dnsv_records.specs.Ds.{IsDs}
use Rattle.dnsv_records.specs.declared.ds.Ds.{Ds}
use Rattle.dnsv_canonical.specs.Index.{numbers_at}
use Rattle.dnsv_canonical.specs.Rdata.{rdata_of_type}
use Rattle.dnsv_canonical.specs.Rrsets.{ReceivedRrset}
use Rattle.dnsv_canonical.proofs.ListLemmas.{each_at}
use Rattle.dnsv_canonical.proofs.OrderLemmas.{each_of}
use Rattle.dnsv_anchors.specs.Ds.{GoesBefore, IsIgnored}
use Rattle.dnsv_anchors.specs.declared.anchor.Anchor.{Anchor}
use Rattle.dnsv_digest.specs.DigestAlgorithm.{digest_algorithm_of}
use Rattle.dnsv_digest.specs.declared.digest_algorithm.DigestAlgorithm.TheVariants.{Sha1, Sha256, Sha384}
use Rattle.dnsv_chain.specs.Basis.{Basis}
use Rattle.dnsv_canonical.proofs.NumberLemmas.{IsOneAt, each_number}
use Rattle.dnsv_rrsets.specs.declared.canonical_order.ReadRecord.{ReadRecord}
use Rattle.dnsv_lines.specs.declared.line.fault.zone.EntryNumber.TheVariants as number
use Rattle.dnsv_mending.specs.declared.facts.keys.VoucherFacts.{VoucherFacts}
use Rattle.dnsv_mending.specs.declared.facts.zone.DsFacts.{DsFacts}
use Rattle.std.proofs.lemmas.List.Elements.{Contains-get_or}
use Rattle.dnsv_zone_faults.specs.Groups.{AreAnchorFactsFrom, AreDsFacts, AreRecordFacts, IsRecordFacts}
use Rattle.dnsv_zone_faults.specs.Groups.GroupSearch.{AddsAnchor, AddsDs, HasStronger, IsDsNumber}
use Rattle.dnsv_zone_keys.specs.Keys.Index.{Placed}
use Rattle.dnsv_zone_keys.specs.Vouchers.{AreVoucherFacts}
use Rattle.dnsv_zone_keys.specs.Vouchers.Wanted.{by_digest}
use Rattle.dnsv_zone_keys.specs.Vouchers.VoucherSearch.{AreKeysOfZone}

-- ---- anchors

-- what is added behind one that stands in front is added without it
record IsBehind (keys : List Placed) (zone : Labels) (n : ℕ) (x : Anchor) (first : VoucherFacts) (others new : List VoucherFacts) : Type 0 where
  rest : List VoucherFacts
  adds : AddsAnchor keys zone n x others rest
  is : new ≡ first ∷ rest

behind : (keys : List Placed) (zone : Labels) (n : ℕ) (x : Anchor) (first : VoucherFacts) (others new : List VoucherFacts)
    → AddsAnchor keys zone n x (first ∷ others) new → IsBehind keys zone n x first others new
behind keys zone n x first others new (inl both) = record {
  rest = others ++ both.1.known ∷ [];
  adds = inl (both.0, record { known = both.1.known; is = both.1.is; added = refl });
  is = both.1.added;
}
behind keys zone n x first others new (inr both) = record { rest = others; adds = inr (both.0, refl); is = both.1 }

module _ (rrsets : List ReceivedRrset) (zone : Labels) (keys : List Placed) (are : AreKeysOfZone rrsets zone keys) where
  first_anchor : (n : ℕ) (x : Anchor) (old new : List VoucherFacts) → old ≡ [] → AddsAnchor keys zone n x old new
      → AreAnchorFactsFrom rrsets zone n (x ∷ []) new
  first_anchor n x old new none (inl both) =
      inl (both.0, (both.1.known, [], both.1.is rrsets zone are, refl, both.1.added ∙ ap (λ (front : List VoucherFacts). front ++ both.1.known ∷ []) none))
  first_anchor n x old new none (inr both) = inr (both.0, both.1 ∙ none)

  pub anchor_more : (n : ℕ) (xs : List Anchor) (x : Anchor) (old new : List VoucherFacts) → AreAnchorFactsFrom rrsets zone n xs old
      → AddsAnchor keys zone (n + length xs) x old new → AreAnchorFactsFrom rrsets zone n (xs ++ x ∷ []) new
  anchor_more n [] x old new so_far adds =
      let number_is : n + 0 ≡ n = omega arith in
      first_anchor n x old new so_far (subst (λ (k : ℕ). AddsAnchor keys zone k x old new) number_is adds)
  anchor_more n (y ∷ ys) x old new (inl both) adds =
      let number_is : n + length (y ∷ ys) ≡ n + 1 + length ys = omega arith in
      let known = both.1.0 in
      let others = both.1.1 in
      let its = behind keys zone (n + 1 + length ys) x known others new
      (subst (λ (k : ℕ). AddsAnchor keys zone k x (known ∷ others) new) number_is
      (subst (λ (front : List VoucherFacts). AddsAnchor keys zone (n + length (y ∷ ys)) x front new) both.1.4 adds)) in
      inl (both.0, (known, its.rest, both.1.2, anchor_more (n + 1) ys x others its.rest both.1.3 its.adds, its.is))
  anchor_more n (y ∷ ys) x old new (inr both) adds =
      let number_is : n + length (y ∷ ys) ≡ n + 1 + length ys = omega arith in
      inr (both.0, anchor_more (n + 1) ys x old new both.1 (subst (λ (k : ℕ). AddsAnchor keys zone k x old new) number_is adds))

  pub anchor_next : (anchors : List Anchor) (i : ℕ) (x : Anchor) (old new : List VoucherFacts) → i < length anchors → x ≡ get_or anchors i x
      → AreAnchorFactsFrom rrsets zone 1 (take i anchors) old → AddsAnchor keys zone (i + 1) x old new
      → AreAnchorFactsFrom rrsets zone 1 (take (i + 1) anchors) new
  anchor_next anchors i x old new within at so_far adds =
      let count = length-take i anchors in
      let number_is : i + 1 ≡ 1 + length (take i anchors) = omega (arith, count, within) in
      let longer : take (i + 1) anchors ≡ take i anchors ++ x ∷ [] = take_more anchors i x within ∙ ap (λ y. take i anchors ++ y ∷ []) (sym at) in
      subst (λ (each : List Anchor). AreAnchorFactsFrom rrsets zone 1 each new) (sym longer)
      (anchor_more 1 (take i anchors) x old new so_far (subst (λ (k : ℕ). AddsAnchor keys zone k x old new) number_is adds))

-- ---- the records of a DS RRset

pub record_more : (rrsets : List ReceivedRrset) (zone : Labels) (k : ℕ) (values : List Ds) (n : ℕ) (xs : List (List ℕ)) (ys : List VoucherFacts)
    (x : List ℕ) (y : VoucherFacts) → AreRecordFacts rrsets zone k values n xs ys → IsRecordFacts rrsets zone k values (n + length xs) x y
    → AreRecordFacts rrsets zone k values n (xs ++ x ∷ []) (ys ++ y ∷ [])
record_more rrsets zone k values n [] [] x y so_far one =
    let number_is : n + 0 ≡ n = omega arith in
    (subst (λ (m : ℕ). IsRecordFacts rrsets zone k values m x y) number_is one, tt)
record_more rrsets zone k values n [] (b ∷ ys) x y so_far one = absurd so_far
record_more rrsets zone k values n (a ∷ xs) [] x y so_far one = absurd so_far
record_more rrsets zone k values n (a ∷ xs) (b ∷ ys) x y so_far one =
    let number_is : n + length (a ∷ xs) ≡ n + 1 + length xs = omega arith in
    (so_far.0, record_more rrsets zone k values (n + 1) xs ys x y so_far.1 (subst (λ (m : ℕ). IsRecordFacts rrsets zone k values m x y) number_is one))

abbrev pub octets : ReadRecord Ds → List ℕ
octets each = each.rdata.now

-- those so far, in whichever zone has the keys
abbrev pub AreRecordsTo : List Placed → ℕ → List Ds → List (ReadRecord Ds) → List VoucherFacts → Type 0
AreRecordsTo keys k values records known =
    (rrsets : List ReceivedRrset) (zone : Labels) → AreKeysOfZone rrsets zone keys → AreRecordFacts rrsets zone k values 1 (map octets records) known

pub record_next : (keys : List Placed) (k : ℕ) (values : List Ds) (records : List (ReadRecord Ds)) (i : ℕ) (x : ReadRecord Ds)
    (old : List VoucherFacts) (y : VoucherFacts) → i < length records → x ≡ get_or records i x
    → AllByRecursion (λ (each : ReadRecord Ds). IsDs each.rdata.now each.record.now) records
    → ((rrsets : List ReceivedRrset) (zone : Labels) → AreKeysOfZone rrsets zone keys
    → AreVoucherFacts rrsets zone (number.Ds (record { rrset = k; place = i + 1 })) (by_digest values x.record.now) y)
    → AreRecordsTo keys k values (take i records) old → AreRecordsTo keys k values (take (i + 1) records) (old ++ y ∷ [])
record_next keys k values records i x old y within at read known so_far rrsets zone are =
    let count = length-take i records in
    let mapped = length-map (take i records) octets in
    let number_is : i + 1 ≡ 1 + length (map octets (take i records)) = omega (arith, count, mapped, within) in
    let longer : map octets (take (i + 1) records) ≡ map octets (take i records) ++ octets x ∷ [] =
    ap (map octets) (take_more records i x within) ∙ map-append octets (take i records) (get_or records i x ∷ [])
    ∙ (λ j. map octets (take i records) ++ octets (sym at j) ∷ []) in
    let its : IsDs x.rdata.now x.record.now =
    subst (λ (each : ReadRecord Ds). IsDs each.rdata.now each.record.now) (sym at) (each_at (λ (each : ReadRecord Ds). IsDs each.rdata.now each.record.now) records i x read within) in
    let one : IsRecordFacts rrsets zone k values (i + 1) (octets x) y = (x.record.now, its, known rrsets zone are) in
    subst (λ (rdata : List (List ℕ)). AreRecordFacts rrsets zone k values 1 rdata (old ++ y ∷ [])) (sym longer)
    (record_more rrsets zone k values 1 (map octets (take i records)) old (octets x) y (so_far rrsets zone are)
    (subst (λ (m : ℕ). IsRecordFacts rrsets zone k values m (octets x) y) number_is one))

-- what a DS RRset is read as
pub ds_read : (set : ReceivedRrset) (values : List Ds) → set.rtype ≡ 43 → AllZip IsDs (rdata_of_type 43 set) values → AllZip IsDs set.rdata values
ds_read set values is read =
    let typed : (set.rtype == 43) ≡ true = grind (arith, nat_tests, is) in
    subst (λ (b : Bool). AllZip IsDs (if b then set.rdata else []) values) typed read

-- ---- DS RRsets

pub ds_number : (rrsets : List ReceivedRrset) (zone : Labels) (numbers : List ℕ) (i d : ℕ) → numbers ≡ numbers_at rrsets zone 43 → i < length numbers
    → IsDsNumber rrsets (get_or numbers i d)
ds_number rrsets zone numbers i d are within =
    let n : ℕ = get_or numbers i d in
    let there : Contains numbers n = Contains-get_or numbers i d within in
    let one = each_of (IsOneAt rrsets zone 43) (numbers_at rrsets zone 43) n (each_number rrsets zone 43) (subst (λ (all : List ℕ). Contains all n) are there) in
    record { rrset = one.rrset; numbered = one.is_rrset; rtype = one.same_type }

zip_push : {A B : Type 0} (R : A → B → Type 0) (xs : List A) (ys : List B) (x : A) (y : B) → AllZip R xs ys → R x y → AllZip R (xs ++ x ∷ []) (ys ++ y ∷ [])
zip_push R [] [] x y each one = (one, tt)
zip_push R [] (b ∷ ys) x y each one = absurd each
zip_push R (a ∷ xs) [] x y each one = absurd each
zip_push R (a ∷ xs) (b ∷ ys) x y each one = (each.0, zip_push R xs ys x y each.1 one)

pub ds_next : (basis : Basis) (zone : Labels) (keys : List Placed) (numbers : List ℕ) (i d : ℕ) (old new : List DsFacts) → i < length numbers
    → AreKeysOfZone basis.rrsets zone keys → AllZip (AreDsFacts basis zone) (take i numbers) old → AddsDs basis keys (get_or numbers i d) old new
    → AllZip (AreDsFacts basis zone) (take (i + 1) numbers) new
ds_next basis zone keys numbers i d old new within are so_far adds =
    let longer = take_more numbers i d within in
    subst (λ (ns : List ℕ). AllZip (AreDsFacts basis zone) ns new) (sym longer)
    (subst (λ (all : List DsFacts). AllZip (AreDsFacts basis zone) (take i numbers ++ get_or numbers i d ∷ []) all) (sym adds.added)
    (zip_push (AreDsFacts basis zone) (take i numbers) old (get_or numbers i d) adds.known so_far (adds.is zone are)))

-- ---- digest types

-- what goes before one digest type goes before the other by the same algorithm
goes_too : (first a b : ℕ) → digest_algorithm_of a ≡ digest_algorithm_of b → GoesBefore first a → GoesBefore first b
goes_too first a b same before = (before.0, before.1, before.2, sym same ∙ before.3, before.4)

ignored_type : (records : List Ds) (ds : Ds) (number : ℕ) (b : Bool) → digest_algorithm_of ds.digest_type.0 ≡ digest_algorithm_of number
    → (IsTrue b ↔ HasStronger records number) → IsTrue b ↔ IsIgnored records ds
ignored_type records ds number b same test = (
  λ t. let has = test.0 t in record {
    other = has.ds;
    among = has.among;
    before = goes_too has.ds.digest_type.0 number ds.digest_type.0 (sym same) has.is;
  },
  λ ignored. test.1 (record {
    ds = ignored.other;
    among = ignored.among;
    is = goes_too ignored.other.digest_type.0 ds.digest_type.0 number same ignored.before;
  }),
)

pub ignored_sha1 : (records : List Ds) (ds : Ds) (b : Bool) → digest_algorithm_of ds.digest_type.0 ≡ Some Sha1
    → (IsTrue b ↔ HasStronger records 1) → IsTrue b ↔ IsIgnored records ds
ignored_sha1 records ds b is test = ignored_type records ds 1 b is test

pub ignored_sha256 : (records : List Ds) (ds : Ds) (b : Bool) → digest_algorithm_of ds.digest_type.0 ≡ Some Sha256
    → (IsTrue b ↔ HasStronger records 2) → IsTrue b ↔ IsIgnored records ds
ignored_sha256 records ds b is test = ignored_type records ds 2 b is test

pub ignored_sha384 : (records : List Ds) (ds : Ds) (b : Bool) → digest_algorithm_of ds.digest_type.0 ≡ Some Sha384
    → (IsTrue b ↔ HasStronger records 4) → IsTrue b ↔ IsIgnored records ds
ignored_sha384 records ds b is test = ignored_type records ds 4 b is test

pub no_type : (records : List Ds) (ds : Ds) → digest_algorithm_of ds.digest_type.0 ≡ None → IsTrue false ↔ IsIgnored records ds
no_type records ds none = (
  λ t. absurd (cc t),
  λ ignored. let before = ignored.before in let clash : Some before.1 ≡ None = sym before.3 ∙ none in absurd (cc clash),
)

-- the DS record of an anchor stands beside no other
pub alone : (ds : Ds) → IsTrue false ↔ IsIgnored [] ds
alone ds = (λ t. absurd (cc t), λ ignored. absurd (let there = ignored.among in omega (arith, there.1)))
