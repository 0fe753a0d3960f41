-- The keys of all zones, gathered one zone after another, and those that a signature names.
use Rattle.std.proofs.Common.{◌≡◌, ◌↔◌, ℕ, zero, suc, ◌+◌, ◌-◌, ◌<◌, ◌≤◌, ◌==◌, Bool, true, false, not, ⊎_elim, List, [], ◌∷◌, ◌++◌, Some, length, get_or, refl, sym, ap, ◌∙◌, subst, arith}
use Rattle.std.proofs.lemmas.Bool.{cases_lt, false≢true}
use Rattle.std.proofs.lemmas.Cmp.{nat_cmp_total, tied_itself}
use Rattle.std.proofs.lemmas.List.Elements.{Contains-append_left, Contains-append_right}
use Rattle.std.proofs.lemmas.List.Sorted.{Contains-permutation, IsPermutation-sym}
use Rattle.std.proofs.lemmas.Bool.Decides.{nat_tests}
use Rattle.std.proofs.lemmas.Option.{slice_get-get_or}
use Rattle.std.specs.Prelude.{Contains, IsPermutation, IsTrue, nat_eq, slice_get}
use Rattle.std.specs.List.{AllByRecursion}
use Rattle.std.specs.Ordering.{nat_cmp, ordering_then}
use Rattle.std.specs.declared.cmp.Ordering.TheVariants.{Equal}
use Rattle.dnsv_names.specs.Name.{Labels, SameName}
use Rattle.dnsv_names.specs.Order.{canonical_cmp}
use Rattle.dnsv_names.specs.Order.OrderLaws.{SameName_Equal, canonical_Equal}
use Rattle.dnsv_canonical.specs.Index.{numbers_at}
use Rattle.dnsv_canonical.specs.Rrsets.{IsNumbered, ReceivedRrset}
use Rattle.dnsv_canonical.proofs.OrderLemmas.{each_of}
use Rattle.dnsv_records.specs.Dnskey.{IsDnskey}
use Rattle.dnsv_records.specs.Dnskey.KeyTag.{key_tag_of}
use Rattle.dnsv_records.specs.declared.dnskey.Dnskey.{Dnskey}
use Rattle.dnsv_records.specs.declared.rrsig.Rrsig.{Rrsig}
use Rattle.dnsv_records.proofs.OneRecord.{one_dnskey}
use Rattle.dnsv_canonical.proofs.NumberLemmas.{each_number, IsOneAt, one_numbered}
use Rattle.dnsv_verifier.specs.Admissible.{DnskeyRecord}
use Rattle.dnsv_verifier.specs.Asking.{key_name_cmp, name_of_key, named_by}
use Rattle.dnsv_verifier.specs.EntryLaws.{octet_Equal, then_Equal}
use Rattle.dnsv_zone_keys.specs.Keys.Index.{AreIndexed, HasPlaced, HaveAllOf, IsNamedBySigner, IsPlaced, Placed}
use Rattle.dnsv_zone_keys.specs.Keys.{IsKeyPlaced, IsNamed, IsZoneKey, NamesKey, NamesZoneKey}
use Rattle.dnsv_zone_keys.specs.Keys.KeySearch.{AreNamedOf, HasZoneKey}
use Rattle.dnsv_zone_keys.specs.Keys.ZoneSearch.{AddsZone, AreKeysOf, IsFirstOfKeys}
use Rattle.dnsv_zone_keys.proofs.lemmas.ZoneKeyLemmas.{keys_all, keys_placed, no_key_placed, placed_same, same_numbers}

each_append : {X : Type 0} (P : X → Type 0) (xs ys : List X) → AllByRecursion P xs → AllByRecursion P ys → AllByRecursion P (xs ++ ys)
each_append P [] ys first second = second
each_append P (x ∷ xs) ys first second = (first.0, each_append P xs ys first.1 second)

-- ---- more keys beside them

in_front : (zone : Labels) (place : ℕ) (key : DnskeyRecord) (all more : List Placed) → HasPlaced all zone place key → HasPlaced (all ++ more) zone place key
in_front zone place key all more has = record {
  placed = has.placed;
  among = Contains-append_left all more has.placed has.among;
  place_is = has.place_is;
  rdata = has.rdata;
  owner = has.owner;
}

behind : (zone : Labels) (place : ℕ) (key : DnskeyRecord) (all more : List Placed) → HasPlaced more zone place key → HasPlaced (all ++ more) zone place key
behind zone place key all more has = record {
  placed = has.placed;
  among = Contains-append_right all more has.placed has.among;
  place_is = has.place_is;
  rdata = has.rdata;
  owner = has.owner;
}

-- ---- the zones of the RRsets so far

pub record AreIndexedTo (rrsets : List ReceivedRrset) (count : ℕ) (all : List Placed) : Type 0 where
  pub each : AllByRecursion (IsPlaced rrsets) all
  pub every : (number : ℕ) (rrset : ReceivedRrset) → number ≤ count → IsNumbered rrsets number rrset
      → IsFirstOfKeys rrsets number rrset → HaveAllOf rrsets all rrset.owner

pub more_indexed : (rrsets : List ReceivedRrset) (count : ℕ) (rrset : ReceivedRrset) (old new : List Placed)
    → IsNumbered rrsets (count + 1) rrset → AreIndexedTo rrsets count old → AddsZone rrsets (count + 1) rrset old new
    → AreIndexedTo rrsets (count + 1) new
more_indexed rrsets count rrset old new its so_far adds =
    subst (λ (all : List Placed). AreIndexedTo rrsets (count + 1) all) (sym adds.are) (record {
      each = each_append (IsPlaced rrsets) old adds.added so_far.each adds.each;
      every = λ number other within numbered first. ⊎_elim
          (λ (earlier : number < count + 1). λ place key is.
          in_front other.owner place key old adds.added (so_far.every number other (omega (arith, earlier)) numbered first place key is))
          (λ (later : count + 1 ≤ number).
          let number_is : number ≡ count + 1 = omega (arith, later, within) in
          let same : other ≡ rrset = one_numbered rrsets (count + 1) other rrset (subst (λ (n : ℕ). IsNumbered rrsets n other) number_is numbered) its in
          let first_here : IsFirstOfKeys rrsets (count + 1) rrset =
          subst (λ (r : ReceivedRrset). IsFirstOfKeys rrsets (count + 1) r) same (subst (λ (n : ℕ). IsFirstOfKeys rrsets n other) number_is first) in
          let all : HaveAllOf rrsets (old ++ adds.added) rrset.owner =
          λ place key is. behind rrset.owner place key old adds.added (adds.every first_here place key is) in
          subst (λ (r : ReceivedRrset). HaveAllOf rrsets (old ++ adds.added) r.owner) (sym same) all)
          (cases_lt number (count + 1));
    })

-- the first DNSKEY RRset of a zone is one that adds its keys
module _ (rrsets : List ReceivedRrset) (count : ℕ) (all : List Placed) (past : length rrsets ≤ count) (so_far : AreIndexedTo rrsets count all) where
  zone_has : (zone : Labels) (numbers : List ℕ) → numbers_at rrsets zone 48 ≡ numbers → HaveAllOf rrsets all zone
  zone_has zone [] is place key placed = absurd (no_key_placed rrsets zone place key is placed)
  zone_has zone (n ∷ others) is place key placed =
      let each : AllByRecursion (IsOneAt rrsets zone 48) (n ∷ others) = subst (λ (ns : List ℕ). AllByRecursion (IsOneAt rrsets zone 48) ns) is (each_number rrsets zone 48) in
      let one = each.0 in
      let at = one.is_rrset in
      let inside = numbered_within rrsets n one.rrset at in
      let within : n ≤ count = omega (arith, inside, past) in
      let first : IsFirstOfKeys rrsets n one.rrset = (others, same_numbers rrsets one.rrset.owner zone 48 one.owner ∙ is) in
      let found = so_far.every n one.rrset within at first place key (placed_same rrsets zone one.rrset.owner place key (sym one.owner) placed) in
      record { placed = found.placed; among = found.among; place_is = found.place_is; rdata = found.rdata; owner = found.owner ∙ one.owner }
    where
      within_list : {X : Type 0} (xs : List X) (k : ℕ) (x : X) → slice_get xs k ≡ Some x → k < length xs
      within_list [] k x at = absurd (cc at)
      within_list (y ∷ xs) zero x at = omega arith
      within_list (y ∷ xs) (suc k) x at = let rest = within_list xs k x at in omega (arith, rest)

      numbered_within : {X : Type 0} (xs : List X) (n : ℕ) (x : X) → IsNumbered xs n x → n ≤ length xs
      numbered_within xs n x at = let inside = within_list xs (n - 1) x at.1 in omega (arith, inside)

  pub all_indexed : AreIndexed rrsets all
  all_indexed = record {
    each = λ placed among. each_of (IsPlaced rrsets) all placed so_far.each among;
    every = λ zone. zone_has zone (numbers_at rrsets zone 48) refl;
  }

-- in another order they are the same
pub indexed_moved : (rrsets : List ReceivedRrset) (old new : List Placed) → IsPermutation old new → AreIndexed rrsets old → AreIndexed rrsets new
indexed_moved rrsets old new moved are = record {
  each = λ placed among. are.each placed (Contains-permutation new old placed (IsPermutation-sym old new moved) among);
  every = λ zone place key is.
      let has = are.every zone place key is in record {
        placed = has.placed;
        among = Contains-permutation old new has.placed moved has.among;
        place_is = has.place_is;
        rdata = has.rdata;
        owner = has.owner;
      };
}

-- what stands at a place has the number behind it
pub numbered_at : {X : Type 0} (all xs : List X) (i : ℕ) (x : X) → xs ≡ all → i < length xs → x ≡ get_or xs i x → IsNumbered all (i + 1) x
numbered_at {X = X} all xs i x same within at =
    let place : i + 1 - 1 ≡ i = omega arith in
    let found : slice_get xs i ≡ Some x = slice_get-get_or xs i x within ∙ ap (λ y. Some y) (sym at) in
    let There : List X → Type 0 = λ each. slice_get each i ≡ Some x in
    (omega arith, ap (λ (p : ℕ). slice_get all p) place ∙ subst There same found)

pub as_many : {X : Type 0} (all xs : List X) (n : ℕ) → xs ≡ all → length xs ≤ n → length all ≤ n
as_many {X = X} all xs n same past = let Past : List X → Type 0 = λ each. length each ≤ n in subst Past same past

-- the first number of the RRsets of an owner
pub first_is : (rrsets : List ReceivedRrset) (rrset : ReceivedRrset) (numbers : List ℕ) (first number : ℕ) → numbers ≡ numbers_at rrsets rrset.owner 48
    → slice_get numbers 0 ≡ Some first → IsTrue (nat_eq first number) ↔ IsFirstOfKeys rrsets number rrset
first_is rrsets rrset [] first number are at = absurd (cc at)
first_is rrsets rrset (n ∷ others) first number are at =
    let head : n ≡ first = cc at in (
      λ t. let same : first ≡ number = grind (arith, nat_tests, t) in (others, sym are ∙ ap (λ (k : ℕ). k ∷ others) (head ∙ same)),
      λ its.
          let whole : n ∷ others ≡ number ∷ its.0 = are ∙ its.1 in
          let same : n ≡ number = ap (λ (each : List ℕ). get_or each 0 number) whole in
          let both : first ≡ number = sym head ∙ same in
          grind (arith, nat_tests, both),
    )

-- what a zone adds
pub adds_keys : (rrsets : List ReceivedRrset) (number : ℕ) (rrset : ReceivedRrset) (old own new : List Placed)
    → AreKeysOf rrsets rrset.owner own → new ≡ old ++ own → AddsZone rrsets number rrset old new
adds_keys rrsets number rrset old own new are joined = record {
  added = own;
  are = joined;
  each = keys_placed rrsets rrset.owner own are;
  every = λ first. keys_all rrsets rrset.owner own are;
}

-- ---- the keys that a signature names

-- a key that the signature names is tied to what it names keys by
tied_numbers : (a b : ℕ) → a ≡ b → nat_cmp a b ≡ Equal
tied_numbers a b same = ap (λ n. nat_cmp a n) (sym same) ∙ tied_itself nat_cmp_total a

pub named_tied : (rrsig : Rrsig) (key : DnskeyRecord) → IsNamedBySigner rrsig key → key_name_cmp (name_of_key key) (named_by rrsig) ≡ Equal
named_tied rrsig key is =
    let tags = tied_numbers (key_tag_of key.rdata) rrsig.key_tag.0 is.named.tag in
    let algorithms = tied_numbers key.dnskey.algorithm.0 rrsig.algorithm.0 is.named.algorithm in
    let owners = SameName_Equal key.owner rrsig.signer is.owner in
    rw (tags, algorithms, owners) refl

-- and a key that is tied to it is one
pub tied_named : (rrsig : Rrsig) (key : DnskeyRecord) → key_name_cmp (name_of_key key) (named_by rrsig) ≡ Equal → IsNamedBySigner rrsig key
tied_named rrsig key tied =
    let owner = then_Equal (ordering_then (nat_cmp (key_tag_of key.rdata) rrsig.key_tag.0) (nat_cmp key.dnskey.algorithm.0 rrsig.algorithm.0)) (canonical_cmp key.owner rrsig.signer) tied in
    let numbers = then_Equal (nat_cmp (key_tag_of key.rdata) rrsig.key_tag.0) (nat_cmp key.dnskey.algorithm.0 rrsig.algorithm.0) owner.0 in
    record {
      named = record {
        tag = octet_Equal (key_tag_of key.rdata) rrsig.key_tag.0 numbers.0;
        algorithm = octet_Equal key.dnskey.algorithm.0 rrsig.algorithm.0 numbers.1;
      };
      owner = canonical_Equal key.owner rrsig.signer owner.1;
    }

module _ (rrsets : List ReceivedRrset) (all : List Placed) (are : AreIndexed rrsets all) (rrsig : Rrsig) (found : List Placed)
    (among : (placed : Placed) → Contains found placed → Contains all placed)
    (every : (placed : Placed) → Contains all placed → IsNamedBySigner rrsig placed.key → Contains found placed) where
  -- a placed key of the signer, as the signer has it
  pub of_signer : (placed : Placed) → Contains found placed → SameName placed.key.owner rrsig.signer
      → IsKeyPlaced rrsets rrsig.signer placed.place placed.key
  of_signer placed there owner =
      placed_same rrsets placed.key.owner rrsig.signer placed.place placed.key owner (are.each placed (among placed there))

  -- a key of the signer that the signature names, as it is found
  pub record IsFoundAs (place : ℕ) (key : DnskeyRecord) : Type 0 where
    pub placed : Placed
    pub there : Contains found placed
    pub place_is : placed.place ≡ place
    pub rdata : placed.key.rdata ≡ key.rdata
    pub dnskey : placed.key.dnskey ≡ key.dnskey
    pub named : IsNamedBySigner rrsig placed.key

  pub found_as : (place : ℕ) (key : DnskeyRecord) → IsKeyPlaced rrsets rrsig.signer place key → IsNamed rrsig key → IsFoundAs place key
  found_as place key is named =
      let has = are.every rrsig.signer place key is in
      let own = are.each has.placed has.among in
      let dnskey : has.placed.key.dnskey ≡ key.dnskey =
      one_dnskey key.rdata has.placed.key.dnskey key.dnskey
      (subst (λ (octets : List ℕ). IsDnskey octets has.placed.key.dnskey) has.rdata own.read) is.read in
      let its : IsNamedBySigner rrsig has.placed.key = record {
        named = record {
          tag = rw has.rdata named.tag;
          algorithm = ap (λ (d : Dnskey). d.algorithm.0) dnskey ∙ named.algorithm;
        };
        owner = has.owner;
      } in record {
        placed = has.placed;
        there = every has.placed has.among its;
        place_is = has.place_is;
        rdata = has.rdata;
        dnskey = dnskey;
        named = its;
      }

  pub zone_key_too : (a b : DnskeyRecord) → a.dnskey ≡ b.dnskey → IsZoneKey b → IsZoneKey a
  zone_key_too a b same is = record {
    protocol = ap (λ (d : Dnskey). d.protocol) same ∙ is.protocol;
    zone_key = rw same is.zone_key;
  }

-- ---- what it names, by those that are found

module _ (rrsets : List ReceivedRrset) (rrsig : Rrsig) (named : List Placed) (are : AreNamedOf rrsets rrsig named) where
  its_key : (placed : Placed) → Contains named placed → NamesKey rrsets rrsig
  its_key placed there = let its = are.each placed there in record {
    place = placed.place;
    key = placed.key;
    placed = of_signer rrsets are.all are.indexed rrsig named are.among are.every placed there its.owner;
    named = its.named;
  }

  key_found : (names : NamesKey rrsets rrsig) → IsFoundAs rrsets are.all are.indexed rrsig named are.among are.every names.place names.key
  key_found names = found_as rrsets are.all are.indexed rrsig named are.among are.every names.place names.key names.placed names.named

  by_count : (keys : List Placed) → keys ≡ named → (IsTrue (length keys == 0) ↔ (¬ NamesKey rrsets rrsig))
  by_count [] same = (
    λ yes names.
        let never = subst (λ (each : List Placed). Contains each (key_found names).placed) (sym same) (key_found names).there in
        absurd (omega (arith, never.1)),
    λ none. refl,
  )
  by_count (x ∷ keys) same =
      let size : (length (x ∷ keys) == 0) ≡ false = grind (arith, nat_tests) in (
        λ yes. absurd (false≢true (sym size ∙ yes)),
        λ none. absurd (none (its_key x (subst (λ (each : List Placed). Contains each x) same (0, omega arith, refl)))),
      )

  some_count : (keys : List Placed) → keys ≡ named → (IsTrue (not (length keys == 0)) ↔ NamesKey rrsets rrsig)
  some_count [] same = (
    λ yes. absurd (false≢true yes),
    λ names.
        let never = subst (λ (each : List Placed). Contains each (key_found names).placed) (sym same) (key_found names).there in
        absurd (omega (arith, never.1)),
  )
  some_count (x ∷ keys) same =
      let size : (length (x ∷ keys) == 0) ≡ false = grind (arith, nat_tests) in (
        λ yes. its_key x (subst (λ (each : List Placed). Contains each x) same (0, omega arith, refl)),
        λ names. ap not size,
      )

pub names_none : (rrsets : List ReceivedRrset) (rrsig : Rrsig) (named : List Placed) (b : Bool) → AreNamedOf rrsets rrsig named
    → b ≡ (length named == 0) → IsTrue b ↔ (¬ NamesKey rrsets rrsig)
names_none rrsets rrsig named b are test =
    subst (λ (t : Bool). IsTrue t ↔ (¬ NamesKey rrsets rrsig)) (sym test) (by_count rrsets rrsig named are named refl)

pub names_some : (rrsets : List ReceivedRrset) (rrsig : Rrsig) (named : List Placed) (b : Bool) → AreNamedOf rrsets rrsig named
    → b ≡ (length named == 0) → IsTrue (not b) ↔ NamesKey rrsets rrsig
names_some rrsets rrsig named b are test =
    subst (λ (t : Bool). IsTrue (not t) ↔ NamesKey rrsets rrsig) (sym test) (some_count rrsets rrsig named are named refl)

pub names_zone : (rrsets : List ReceivedRrset) (rrsig : Rrsig) (named : List Placed) (b : Bool) → AreNamedOf rrsets rrsig named
    → (IsTrue b ↔ HasZoneKey named) → IsTrue b ↔ NamesZoneKey rrsets rrsig
names_zone rrsets rrsig named b are test = (
  λ yes.
      let has = test.0 yes in
      let its = are.each has.placed has.among in record {
        place = has.placed.place;
        key = has.placed.key;
        placed = of_signer rrsets are.all are.indexed rrsig named are.among are.every has.placed has.among its.owner;
        named = its.named;
        zone_key = has.is;
      },
  λ names.
      let is = found_as rrsets are.all are.indexed rrsig named are.among are.every names.place names.key names.placed names.named in
      test.1 (record {
        placed = is.placed;
        among = is.there;
        is = zone_key_too rrsets are.all are.indexed rrsig named are.among are.every is.placed.key names.key is.dnskey names.zone_key;
      }),
)

pub not_so : (b : Bool) → (IsTrue b → ⊥) → IsTrue (not b)
not_so true never = absurd (never refl)
not_so false never = refl
