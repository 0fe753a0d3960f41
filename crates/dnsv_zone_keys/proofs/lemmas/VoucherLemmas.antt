-- Which keys of a zone an anchor or a DS record matches, or why none.
use Rattle.std.proofs.Common.{◌≡◌, ◌↔◌, ◌==◌, ℕ, Bool, true, false, inl, inr, List, [], ◌∷◌, ◌++◌, Option, Some, None, length, refl, sym, ap, ◌∙◌, subst, arith, IsTrue}
use Rattle.std.proofs.lemmas.List.Kept.{Contains-dedup_nat, Contains-from_dedup}
use Rattle.std.proofs.lemmas.List.Sorted.{Contains-permutation, IsPermutation-sym}
use Rattle.std.proofs.lemmas.Map.Keys.{IsStrictlyIncreasing-dedup}
use Rattle.std.specs.List.{dedup}
use Rattle.std.specs.Option.{option_map}
use Rattle.std.specs.List.Sorted.{IsStrictlyIncreasing}
use Rattle.std.specs.Ordering.{nat_cmp}
use Rattle.std.specs.Prelude.{Contains, IsPermutation, IsSorted}
use lib.Dec.{eqb}
use Rattle.dnsv_names.specs.Name.{Labels, SameName, lower_case, wire}
use Rattle.dnsv_records.specs.Dnskey.{IsDnskey}
use Rattle.dnsv_records.specs.Dnskey.KeyTag.{key_tag_of}
use Rattle.dnsv_records.specs.declared.dnskey.Dnskey.{Dnskey}
use Rattle.dnsv_records.specs.declared.ds.Ds.{Ds}
use Rattle.dnsv_records.proofs.OneRecord.{one_dnskey}
use Rattle.dnsv_canonical.specs.Rrsets.{ReceivedRrset}
use Rattle.dnsv_chain.specs.Ds.{HasDigestOf}
use Rattle.dnsv_digest.specs.Digest.{ds_digest_of}
use Rattle.dnsv_digest.specs.DigestAlgorithm.{digest_algorithm_of, hash_of}
use Rattle.dnsv_digest.specs.declared.digest_algorithm.DigestAlgorithm.{DigestAlgorithm}
use Rattle.dnsv_digest.specs.declared.digest_algorithm.DigestAlgorithm.TheVariants.{Sha1, Sha256, Sha384}
use Rattle.dnsv_lines.specs.declared.line.fault.zone.EntryNumber.{EntryNumber}
use Rattle.dnsv_lines.specs.declared.line.fault.zone.WhyEntry.{WhyEntry}
use Rattle.dnsv_lines.specs.declared.line.fault.zone.WhyEntry.TheVariants as why
use Rattle.dnsv_mending.specs.declared.facts.keys.VoucherFacts.{VoucherFacts}
use Rattle.dnsv_verifier.specs.Admissible.{DnskeyRecord}
use Rattle.dnsv_verifier.specs.Asking.{GivesEach}
use Rattle.dnsv_canonical.proofs.OrderLemmas.{each_of}
use Rattle.dnsv_zone_keys.specs.Keys.Index.{IsPlaced, Placed}
use Rattle.dnsv_zone_keys.specs.Keys.{IsKeyPlaced}
use Rattle.dnsv_zone_keys.specs.Vouchers.{AreMatches, AreVoucherFacts, HasNoKey, HasSuchKey, HasTag, IsFirstOf, IsMatchOf, IsVoucherFault, IsWantedBy, Wanted, voucher_faults, wanted_key}
use Rattle.dnsv_zone_keys.specs.Vouchers.Wanted.{by_digest, whole_key}
use Rattle.dnsv_zone_keys.specs.Vouchers.VoucherSearch.{AreKeysOfZone, ArePlacesOf, HasAmong, IsKeptDigest, IsKeyWord, IsPlaceOf, IsUnusableWord, tag_of}
use Rattle.dnsv_zone_keys.specs.Keys.ZoneSearch.{AreKeysOf, IsOf}
use Rattle.dnsv_zone_keys.proofs.lemmas.ZoneKeyLemmas.{keys_all, keys_placed, placed_same}

-- ---- digests that are kept

kept_by : (n m : ℕ) (key : DnskeyRecord) (kept : Option (List ℕ)) → digest_algorithm_of n ≡ digest_algorithm_of m → IsKeptDigest n key kept
    → IsKeptDigest m key kept
kept_by n m key None same is = tt
kept_by n m key (Some digest) same is =
    ap (λ (a : Option DigestAlgorithm). option_map (λ (t : DigestAlgorithm). hash_of t (wire (lower_case key.owner) ++ key.rdata)) a) (sym same) ∙ is

pub kept_itself : (n : ℕ) (key : DnskeyRecord) (kept : Option (List ℕ)) → kept ≡ ds_digest_of n key.owner key.rdata → IsKeptDigest n key kept
kept_itself n key None is = tt
kept_itself n key (Some digest) is = sym is

pub kept_is : (ds : Ds) (key : DnskeyRecord) (kept : Option (List ℕ)) (digest : List ℕ) (b : Bool) → kept ≡ Some digest
    → IsKeptDigest ds.digest_type.0 key kept → (IsTrue b ↔ (digest ≡ ds.digest)) → IsTrue b ↔ HasDigestOf ds key
kept_is ds key None digest b is kept test = absurd (cc is)
kept_is ds key (Some own) digest b is kept test =
    let same : own ≡ digest = cc is in (
      λ yes. kept ∙ ap (λ (octets : List ℕ). Some octets) (same ∙ test.0 yes),
      λ has. let both : Some own ≡ Some ds.digest = sym kept ∙ has in let owns : own ≡ ds.digest = cc both in test.1 (sym same ∙ owns),
    )

pub kept_sha1 : (n : ℕ) (key : DnskeyRecord) (kept : Option (List ℕ)) → digest_algorithm_of n ≡ Some Sha1 → IsKeptDigest 1 key kept → IsKeptDigest n key kept
kept_sha1 n key kept is = kept_by 1 n key kept (sym is)

pub kept_sha256 : (n : ℕ) (key : DnskeyRecord) (kept : Option (List ℕ)) → digest_algorithm_of n ≡ Some Sha256 → IsKeptDigest 2 key kept → IsKeptDigest n key kept
kept_sha256 n key kept is = kept_by 2 n key kept (sym is)

pub kept_sha384 : (n : ℕ) (key : DnskeyRecord) (kept : Option (List ℕ)) → digest_algorithm_of n ≡ Some Sha384 → IsKeptDigest 4 key kept → IsKeptDigest n key kept
kept_sha384 n key kept is = kept_by 4 n key kept (sym is)

-- ---- what matches a key asks for it, and what asks for it asks for its tag

pub match_wanted : (wanted : Wanted) (key : DnskeyRecord) → IsMatchOf wanted key → IsWantedBy wanted key
match_wanted (by_digest records ds) key is = is.0
match_wanted (whole_key rdata) key is = is

pub wanted_tag : (wanted : Wanted) (key : DnskeyRecord) → IsWantedBy wanted key → HasTag wanted key
wanted_tag (by_digest records ds) key is = is.0
wanted_tag (whole_key rdata) key is = is

match_tag : (wanted : Wanted) (key : DnskeyRecord) → IsMatchOf wanted key → HasTag wanted key
match_tag wanted key is = wanted_tag wanted key (match_wanted wanted key is)

tag_is : (wanted : Wanted) (key : DnskeyRecord) → HasTag wanted key → key_tag_of key.rdata ≡ (wanted_key wanted).tag.0
tag_is (by_digest records ds) key is = is
tag_is (whole_key rdata) key is = ap key_tag_of is

-- ---- a key by another spelling of its owner

pub record IsSameKey (a b : DnskeyRecord) : Type 0 where
  pub rdata : a.rdata ≡ b.rdata
  pub dnskey : a.dnskey ≡ b.dnskey
  pub owner : SameName a.owner b.owner

tag_moves : (wanted : Wanted) (a b : DnskeyRecord) → IsSameKey a b → HasTag wanted b → HasTag wanted a
tag_moves (by_digest records ds) a b same is = ap key_tag_of same.rdata ∙ is
tag_moves (whole_key rdata) a b same is = same.rdata ∙ is

wanted_moves : (wanted : Wanted) (a b : DnskeyRecord) → IsSameKey a b → IsWantedBy wanted b → IsWantedBy wanted a
wanted_moves (by_digest records ds) a b same is =
    (ap key_tag_of same.rdata ∙ is.0, ap (λ (d : Dnskey). d.algorithm.0) same.dnskey ∙ is.1)
wanted_moves (whole_key rdata) a b same is = same.rdata ∙ is

pub match_moves : (wanted : Wanted) (a b : DnskeyRecord) → IsSameKey a b → IsMatchOf wanted b → IsMatchOf wanted a
match_moves (by_digest records ds) a b same is =
    (wanted_moves (by_digest records ds) a b same is.0, rw (same.owner, same.rdata) is.1)
match_moves (whole_key rdata) a b same is = same.rdata ∙ is

-- ---- the keys of a zone

module _ (rrsets : List ReceivedRrset) (zone : Labels) (all : List Placed) (are : AreKeysOfZone rrsets zone all) (wanted : Wanted)
    (tagged : List Placed) (among : (placed : Placed) → Contains tagged placed → Contains all placed)
    (every : (placed : Placed) → Contains all placed → tag_of placed ≡ (wanted_key wanted).tag.0 → Contains tagged placed) where
  record IsFound (place : ℕ) (key : DnskeyRecord) : Type 0 where
    placed : Placed
    there : Contains tagged placed
    place_is : placed.place ≡ place
    same : IsSameKey placed.key key

  find : (place : ℕ) (key : DnskeyRecord) → IsKeyPlaced rrsets zone place key → HasTag wanted key → IsFound place key
  find place key is tag =
      let has = are.every place key is in
      let own = are.each has.placed has.among in
      record {
        placed = has.placed;
        there = every has.placed has.among (ap key_tag_of has.rdata ∙ tag_is wanted key tag);
        place_is = has.place_is;
        same = record {
          rdata = has.rdata;
          dnskey = one_dnskey key.rdata has.placed.key.dnskey key.dnskey
              (subst (λ (octets : List ℕ). IsDnskey octets has.placed.key.dnskey) has.rdata own.read) is.read;
          owner = has.owner ∙ sym is.owner;
        };
      }

  such_key : (Such : DnskeyRecord → Type 0) → HasAmong Such tagged → HasSuchKey rrsets zone Such
  such_key Such some = (some.placed.place, some.placed.key, are.each some.placed (among some.placed some.among), some.such)

  no_key : (Such : DnskeyRecord → Type 0) → ((a b : DnskeyRecord) → IsSameKey a b → Such b → Such a)
      → ((key : DnskeyRecord) → Such key → HasTag wanted key) → ¬ HasAmong Such tagged → HasNoKey rrsets zone Such
  no_key Such moves tags none place key is such =
      let found = find place key is (tags key such) in
      none (record { placed = found.placed; among = found.there; such = moves found.placed.key key found.same such })

  -- of the words about keys, for what can be used
  by_keys : (word : Option WhyEntry) → IsKeyWord tagged wanted word
      → IsFirstOf (IsVoucherFault rrsets zone wanted) (why.KeyMissing ∷ why.KeyAlgorithm ∷ why.DigestDiffers ∷ []) word
  by_keys None matched =
      let its = such_key (IsMatchOf wanted) matched in
      let asked = match_wanted wanted its.1 its.3 in
      inr (
        λ missing. missing its.0 its.1 its.2 (wanted_tag wanted its.1 asked),
        inr (λ other. other.1 its.0 its.1 its.2 asked, inr (λ differs. differs.1 its.0 its.1 its.2 its.3, refl)),
      )
  by_keys (Some why.KeyMissing) none = inl (no_key (HasTag wanted) (tag_moves wanted) (λ key is. is) none, refl)
  by_keys (Some why.KeyAlgorithm) both =
      let its = such_key (HasTag wanted) both.0 in
      inr (λ missing. missing its.0 its.1 its.2 its.3, inl ((its, no_key (IsWantedBy wanted) (wanted_moves wanted) (wanted_tag wanted) both.1), refl))
  by_keys (Some why.DigestDiffers) both =
      let its = such_key (IsWantedBy wanted) both.0 in
      inr (
        λ missing. missing its.0 its.1 its.2 (wanted_tag wanted its.1 its.3),
        inr (λ other. other.1 its.0 its.1 its.2 its.3, inl ((its, no_key (IsMatchOf wanted) (match_moves wanted) (match_tag wanted) both.1), refl)),
      )
  by_keys (Some why.Algorithm) never = absurd never
  by_keys (Some why.DigestType) never = absurd never
  by_keys (Some why.DigestIgnored) never = absurd never

  -- where a key is matched no word is said
  unsaid : (word : Option WhyEntry) → IsKeyWord tagged wanted word → HasAmong (IsMatchOf wanted) tagged → word ≡ None
  unsaid None is matched = refl
  unsaid (Some why.KeyMissing) none matched =
      absurd (none (record { placed = matched.placed; among = matched.among; such = match_tag wanted matched.placed.key matched.such }))
  unsaid (Some why.KeyAlgorithm) both matched =
      absurd (both.1 (record { placed = matched.placed; among = matched.among; such = match_wanted wanted matched.placed.key matched.such }))
  unsaid (Some why.DigestDiffers) both matched = absurd (both.1 matched)
  unsaid (Some why.Algorithm) never matched = absurd never
  unsaid (Some why.DigestType) never matched = absurd never
  unsaid (Some why.DigestIgnored) never matched = absurd never

  matches_are : (word : Option WhyEntry) (places : List ℕ) → IsKeyWord tagged wanted word → ArePlacesOf tagged (IsMatchOf wanted) places
      → AreMatches rrsets zone wanted word places
  matches_are word places said are_places = record {
    rising = are_places.rising;
    members = λ place. (
      λ there.
          let from = are_places.only place there in
          let its : HasAmong (IsMatchOf wanted) tagged = record { placed = from.0; among = from.1; such = from.2.such } in (
            unsaid word said its,
            (
              from.0.key,
              subst (λ (n : ℕ). IsKeyPlaced rrsets zone n from.0.key) (sym from.2.is) (are.each from.0 (among from.0 from.1)),
              from.2.such,
            ),
          ),
      λ its.
          let key = its.1.0 in
          let found = find place key its.1.1 (match_tag wanted key its.1.2) in
          subst (λ (n : ℕ). Contains places n) found.place_is
          (are_places.all found.placed found.there (match_moves wanted found.placed.key key found.same its.1.2)),
    );
  }

  pub usable_facts : (number : EntryNumber) (facts : VoucherFacts) → facts.number ≡ number → facts.name ≡ wanted_key wanted
      → IsUnusableWord wanted None → IsKeyWord tagged wanted facts.why → ArePlacesOf tagged (IsMatchOf wanted) facts.matches.items
      → AreVoucherFacts rrsets zone number wanted facts
  usable_facts number facts its_number its_name usable said places = record {
    number_is = its_number;
    name = its_name;
    fault = inr (λ never. never usable.0, inr (usable.1, inr (usable.2, by_keys facts.why said)));
    matched = matches_are facts.why facts.matches.items said places;
  }

module _ (rrsets : List ReceivedRrset) (zone : Labels) (wanted : Wanted) where
  first_unusable : (word : WhyEntry) → IsUnusableWord wanted (Some word)
      → IsFirstOf (IsVoucherFault rrsets zone wanted) voucher_faults (Some word)
  first_unusable why.Algorithm is = inl (is, refl)
  first_unusable why.DigestType is = inr (λ never. never is.0, inl (is.1, refl))
  first_unusable why.DigestIgnored is = inr (λ never. never is.0, inr (is.1, inl (is.2, refl)))
  first_unusable word is = absurd is

  no_matches : (word : WhyEntry) → AreMatches rrsets zone wanted (Some word) []
  no_matches word = record {
    rising = IsStrictlyIncreasing-dedup [] (λ k d low within. absurd (omega (arith, within)));
    members = λ place. (λ there. absurd (omega (arith, there.1)), λ its. let never : Some word ≡ None = its.0 in absurd (cc never));
  }

  pub unusable_facts : (number : EntryNumber) (word : Option WhyEntry) (facts : VoucherFacts) → facts.number ≡ number → facts.name ≡ wanted_key wanted
      → facts.why ≡ word → facts.matches.items ≡ [] → (word ≡ None → ⊥) → IsUnusableWord wanted word
      → AreVoucherFacts rrsets zone number wanted facts
  unusable_facts number None facts its_number its_name its_why none some is = absurd (some refl)
  unusable_facts number (Some word) facts its_number its_name its_why none some is = record {
    number_is = its_number;
    name = its_name;
    fault = subst (λ (w : Option WhyEntry). IsFirstOf (IsVoucherFault rrsets zone wanted) voucher_faults w) (sym its_why) (first_unusable word is);
    matched = subst (λ (w : Option WhyEntry). AreMatches rrsets zone wanted w facts.matches.items) (sym its_why)
        (subst (λ (places : List ℕ). AreMatches rrsets zone wanted (Some word) places) (sym none) (no_matches word));
  }

-- ---- places in order

pub places_are : (keys : List Placed) (Such : DnskeyRecord → Type 0) (found sorted places : List ℕ)
    → GivesEach (IsPlaceOf Such) (λ (placed : Placed). Such placed.key) keys found → IsPermutation found sorted
    → IsSorted nat_cmp sorted → places ≡ dedup eqb sorted → ArePlacesOf keys Such places
places_are keys Such found sorted places gives moved ordered is = record {
  rising = subst IsStrictlyIncreasing (sym is) (IsStrictlyIncreasing-dedup sorted ordered);
  only = λ place there.
      let among = Contains-from_dedup eqb sorted place (subst (λ (ns : List ℕ). Contains ns place) is there) in
      let from = gives.only place (Contains-permutation sorted found place (IsPermutation-sym found sorted moved) among) in
      (from.source, from.among, from.is);
  all = λ placed there matched.
      let one = gives.all placed there matched in
      let here = Contains-permutation found sorted one.0 moved one.1 in
      subst (λ (n : ℕ). Contains places n) one.2.is
      (subst (λ (ns : List ℕ). Contains ns one.0) (sym is) (Contains-dedup_nat sorted one.0 here));
}

-- where some place is told, a key is matched
pub some_match : (keys : List Placed) (wanted : Wanted) (matches : List ℕ) (b : Bool) → ArePlacesOf keys (IsMatchOf wanted) matches → b ≡ (length matches == 0)
    → b ≡ false → HasAmong (IsMatchOf wanted) keys
some_match keys wanted [] b are test so = let turned : true ≡ false = sym test ∙ so in absurd (cc turned)
some_match keys wanted (n ∷ matches) b are test so =
    let from = are.only n (0, omega arith, refl) in record { placed = from.0; among = from.1; such = from.2.such }

-- the keys of a zone in another order
pub zone_keys_moved : (rrsets : List ReceivedRrset) (zone : Labels) (placed keys sorted : List Placed) → AreKeysOf rrsets zone placed → keys ≡ placed
    → IsPermutation keys sorted → AreKeysOfZone rrsets zone sorted
zone_keys_moved rrsets zone placed keys sorted are same moved =
    let back : (p : Placed) → Contains sorted p → Contains placed p =
    λ p there. subst (λ (each : List Placed). Contains each p) same (Contains-permutation sorted keys p (IsPermutation-sym keys sorted moved) there) in
    let forth : (p : Placed) → Contains placed p → Contains sorted p =
    λ p there. Contains-permutation keys sorted p moved (subst (λ (each : List Placed). Contains each p) (sym same) there) in
    record {
      each = λ p there.
          let here = back p there in
          let own = each_of (IsPlaced rrsets) placed p (keys_placed rrsets zone placed are) here in
          let its : IsOf zone p = each_of (IsOf zone) placed p are.each here in
          placed_same rrsets p.key.owner zone p.place p.key (ap lower_case its.owner_is) own;
      every = λ place key is.
          let has = keys_all rrsets zone placed are place key is in record {
            placed = has.placed;
            among = forth has.placed has.among;
            place_is = has.place_is;
            rdata = has.rdata;
            owner = has.owner;
          };
    }
