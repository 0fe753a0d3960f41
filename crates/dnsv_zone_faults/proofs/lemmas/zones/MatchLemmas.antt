-- What anchors and DS records match among the keys of a zone, and which signatures are good.
use Rattle.std.proofs.Common.{◌≡◌, ◌⊎◌, ◌+◌, ℕ, zero, suc, inl, inr, ⊎_elim, List, [], ◌∷◌, Option, Some, None, refl, sym, ap, ◌∙◌, subst, arith, IsTrue}
use Rattle.std.specs.Prelude.{Contains}
use Rattle.std.specs.List.{AllByRecursion}
use Rattle.dnsv_names.specs.Name.{Labels, SameName}
use Rattle.dnsv_names.specs.Octets.{number_at}
use Rattle.dnsv_records.specs.Algorithm.{is_supported}
use Rattle.dnsv_records.specs.Dnskey.{IsDnskey}
use Rattle.dnsv_records.specs.Ds.{IsDs}
use Rattle.dnsv_records.specs.declared.ds.Ds.{Ds}
use Rattle.dnsv_records.proofs.OneRecord.{one_ds}
use Rattle.dnsv_canonical.specs.Rrsets.{ReceivedRrset}
use Rattle.dnsv_anchors.specs.Anchor.{anchor_owner}
use Rattle.dnsv_chain.specs.Anchor.{IsAnchorMatch}
use Rattle.dnsv_anchors.specs.Ds.{IsSupported}
use Rattle.dnsv_chain.specs.Ds.{HasDigestOf}
use Rattle.dnsv_anchors.specs.declared.anchor.Anchor.{Anchor}
use Rattle.dnsv_anchors.specs.declared.anchor.Anchor.TheVariants as given
use Rattle.dnsv_digest.specs.DigestAlgorithm.{digest_algorithm_of}
use Rattle.dnsv_digest.specs.declared.digest_algorithm.DigestAlgorithm.{DigestAlgorithm}
use Rattle.dnsv_digest.specs.Digest.{ds_digest_of}
use Rattle.dnsv_lines.specs.declared.line.fault.zone.EntryNumber.{EntryNumber}
use Rattle.dnsv_lines.specs.declared.line.fault.zone.EntryNumber.TheVariants as number
use Rattle.dnsv_lines.specs.declared.line.fault.zone.WhyEntry.{WhyEntry}
use Rattle.dnsv_mending.specs.declared.facts.keys.VoucherFacts.{VoucherFacts}
use Rattle.dnsv_verifier.specs.Admissible.{DnskeyRecord}
use Rattle.dnsv_zone_keys.specs.Keys.{IsKeyPlaced}
use Rattle.dnsv_zone_keys.specs.Vouchers.{AreVoucherFacts, HasUnknownDigest, IsFirstOf, IsIgnoredBeside, IsMatchOf, IsVoucherFault, Wanted, voucher_faults, wanted_key}
use Rattle.dnsv_zone_keys.specs.Vouchers.Wanted.{by_digest}
use Rattle.dnsv_zone_faults.specs.Groups.{AreAnchorFactsFrom, AreRecordFacts, anchor_wanted}
use Rattle.dnsv_zone_faults.proofs.lemmas.zones.PlaceLemmas.{placed_rdata, read_same}
use Rattle.dnsv_zone_keys.proofs.lemmas.VoucherLemmas.{IsSameKey, match_moves, match_wanted, wanted_tag}

-- ---- one voucher

no_first : {X : Type 0} (Such : X → Type 0) (xs : List X) (found : Option X) → AllByRecursion (λ (x : X). Such x → ⊥) xs → IsFirstOf Such xs found → found ≡ None
no_first Such [] found none is = is
no_first Such (x ∷ xs) found none (inl is) = absurd (none.0 is.0)
no_first Such (x ∷ xs) found none (inr rest) = no_first Such xs found none.1 rest.1

-- it can be used
pub record IsOfUse (wanted : Wanted) : Type 0 where
  pub supported : IsTrue (is_supported (wanted_key wanted).algorithm.0)
  pub digest : ¬ HasUnknownDigest wanted
  pub counts : ¬ IsIgnoredBeside wanted

module _ (rrsets : List ReceivedRrset) (zone : Labels) (n : EntryNumber) (wanted : Wanted) (facts : VoucherFacts) (are : AreVoucherFacts rrsets zone n wanted facts)
    (place : ℕ) (key : DnskeyRecord) (placed : IsKeyPlaced rrsets zone place key) where
  -- what is of use and matches the key of the zone has its place
  pub match_there : IsOfUse wanted → IsMatchOf wanted key → (facts.why ≡ None) × Contains facts.matches.items place
  match_there useful is =
      let asked = match_wanted wanted key is in
      let why : facts.why ≡ None =
      no_first (IsVoucherFault rrsets zone wanted) voucher_faults facts.why (
        λ f. f useful.supported,
        (
          useful.digest,
          (
            useful.counts,
            (
              λ f. f place key placed (wanted_tag wanted key asked),
              (
                λ f. f.1 place key placed asked,
                (λ f. f.1 place key placed is, tt),
              ),
            ),
          ),
        ),
      ) are.fault in
      (why, (are.matched.members place).1 (why, (key, placed, is)))

  -- what has the place matches it, and is of use
  pub matches_it : Contains facts.matches.items place → (facts.why ≡ None) × IsMatchOf wanted key
  matches_it there =
      let its = (are.matched.members place).0 there in
      let other = its.1.0 in
      let rdata = placed_rdata rrsets zone place key other placed its.1.1 in
      let same : IsSameKey key other = record {
        rdata = rdata;
        dnskey = read_same key other rdata placed.read its.1.1.read;
        owner = placed.owner ∙ sym its.1.1.owner;
      } in
      (its.0, match_moves wanted key other same its.1.2)

none_such : {X : Type 0} (Such : X → Type 0) (xs : List X) (found : Option X) → IsFirstOf Such xs found → found ≡ None → AllByRecursion (λ (x : X). Such x → ⊥) xs
none_such Such [] found is none = tt
none_such Such (x ∷ xs) found (inl is) none = absurd (let clash = sym is.1 ∙ none in cc clash)
none_such Such (x ∷ xs) found (inr rest) none = (rest.0, none_such Such xs found rest.1 none)

-- where no word is said of it, none is true
pub nothing_said : (rrsets : List ReceivedRrset) (zone : Labels) (n : EntryNumber) (wanted : Wanted) (facts : VoucherFacts) → AreVoucherFacts rrsets zone n wanted facts
    → facts.why ≡ None → AllByRecursion (λ (word : WhyEntry). IsVoucherFault rrsets zone wanted word → ⊥) voucher_faults
nothing_said rrsets zone n wanted facts are none = none_such (IsVoucherFault rrsets zone wanted) voucher_faults facts.why are.fault none

-- ---- a digest

pub digest_supported : (ds : Ds) (key : DnskeyRecord) → HasDigestOf ds key → IsSupported ds.digest_type.0
digest_supported ds key has = by (digest_algorithm_of ds.digest_type.0) refl
  where
    by : (found : Option DigestAlgorithm) → digest_algorithm_of ds.digest_type.0 ≡ found → IsSupported ds.digest_type.0
    by None is =
        let none : ds_digest_of ds.digest_type.0 key.owner key.rdata ≡ None = rw is refl in
        let clash : Some ds.digest ≡ None = sym has ∙ none in absurd (cc clash)
    by (Some supported) is = (supported, is)

-- ---- anchors

-- an anchor that matches a key of its zone, as what it asks for
pub anchor_match : (anchor : Anchor) (key : DnskeyRecord) → IsAnchorMatch anchor key → IsMatchOf (anchor_wanted anchor) key
anchor_match (given.Ds owner ds) key is = ((sym is.key_tag, sym is.algorithm), is.digest)
anchor_match (given.Key owner rdata) key is = sym is.1

pub match_anchor : (anchor : Anchor) (key : DnskeyRecord) → SameName (anchor_owner anchor) key.owner → IsMatchOf (anchor_wanted anchor) key → IsAnchorMatch anchor key
match_anchor (given.Ds owner ds) key same is = record { same_owner = same; algorithm = sym is.0.1; key_tag = sym is.0.0; digest = is.1 }
match_anchor (given.Key owner rdata) key same is = (same, sym is)

pub anchor_match_owner : (anchor : Anchor) (key : DnskeyRecord) → IsAnchorMatch anchor key → SameName (anchor_owner anchor) key.owner
anchor_match_owner (given.Ds owner ds) key is = is.same_owner
anchor_match_owner (given.Key owner rdata) key is = is.0

-- and is of use, where the algorithm of the key is supported
pub anchor_of_use : (anchor : Anchor) (key : DnskeyRecord) → IsDnskey key.rdata key.dnskey → IsTrue (is_supported key.dnskey.algorithm.0) → IsAnchorMatch anchor key
    → IsOfUse (anchor_wanted anchor)
anchor_of_use (given.Ds owner ds) key read supported is = record {
  supported = subst (λ (n : ℕ). IsTrue (is_supported n)) (sym is.algorithm) supported;
  digest = λ unknown. unknown (digest_supported ds key is.digest);
  counts = λ ignored. let there = ignored.among in absurd (omega (arith, there.1));
}
anchor_of_use (given.Key owner rdata) key read supported is = record {
  supported = subst (λ (n : ℕ). IsTrue (is_supported n)) (read.algorithm ∙ ap (λ (r : List ℕ). number_at r 3 1) (sym is.1)) supported;
  digest = λ never. never;
  counts = λ never. never;
}

-- what is found of an anchor or a DS record
pub record IsKnown (rrsets : List ReceivedRrset) (zone : Labels) (wanted : Wanted) (facts : List VoucherFacts) : Type 0 where
  pub known : VoucherFacts
  pub n : EntryNumber
  pub among : Contains facts known
  pub are : AreVoucherFacts rrsets zone n wanted known

in_front : (rrsets : List ReceivedRrset) (zone : Labels) (wanted : Wanted) (first : VoucherFacts) (others facts : List VoucherFacts) → facts ≡ first ∷ others
    → IsKnown rrsets zone wanted others → IsKnown rrsets zone wanted facts
in_front rrsets zone wanted first others facts is one = record {
  known = one.known;
  n = one.n;
  among = subst (λ (each : List VoucherFacts). Contains each one.known) (sym is) (suc one.among.0, let within = one.among.1 in omega (arith, within), one.among.2);
  are = one.are;
}

pub anchor_known : (rrsets : List ReceivedRrset) (zone : Labels) (n : ℕ) (anchors : List Anchor) (facts : List VoucherFacts) (anchor : Anchor)
    → AreAnchorFactsFrom rrsets zone n anchors facts → Contains anchors anchor → SameName (anchor_owner anchor) zone
    → IsKnown rrsets zone (anchor_wanted anchor) facts
anchor_known rrsets zone n [] facts anchor are there same = absurd (let within = there.1 in omega (arith, within))
anchor_known rrsets zone n (x ∷ xs) facts anchor (inl both) (zero, within, at) same = record {
  known = both.1.0;
  n = number.Anchor n;
  among = subst (λ (each : List VoucherFacts). Contains each both.1.0) (sym both.1.4) (0, omega arith, refl);
  are = subst (λ (a : Anchor). AreVoucherFacts rrsets zone (number.Anchor n) (anchor_wanted a) both.1.0) at both.1.2;
}
anchor_known rrsets zone n (x ∷ xs) facts anchor (inl both) (suc i, within, at) same =
    in_front rrsets zone (anchor_wanted anchor) both.1.0 both.1.1 facts both.1.4
    (anchor_known rrsets zone (n + 1) xs both.1.1 anchor both.1.3 (i, omega (arith, within), at) same)
anchor_known rrsets zone n (x ∷ xs) facts anchor (inr both) (zero, within, at) same =
    absurd (both.0 (subst (λ (a : Anchor). SameName (anchor_owner a) zone) (sym at) same))
anchor_known rrsets zone n (x ∷ xs) facts anchor (inr both) (suc i, within, at) same =
    anchor_known rrsets zone (n + 1) xs facts anchor both.1 (i, omega (arith, within), at) same

-- the anchor of which it is found
pub record IsOfAnchor (rrsets : List ReceivedRrset) (zone : Labels) (anchors : List Anchor) (known : VoucherFacts) : Type 0 where
  pub anchor : Anchor
  pub n : EntryNumber
  pub among : Contains anchors anchor
  pub owner : SameName (anchor_owner anchor) zone
  pub are : AreVoucherFacts rrsets zone n (anchor_wanted anchor) known

of_more : (rrsets : List ReceivedRrset) (zone : Labels) (x : Anchor) (xs : List Anchor) (known : VoucherFacts) → IsOfAnchor rrsets zone xs known
    → IsOfAnchor rrsets zone (x ∷ xs) known
of_more rrsets zone x xs known of = record {
  anchor = of.anchor;
  n = of.n;
  among = (suc of.among.0, let within = of.among.1 in omega (arith, within), of.among.2);
  owner = of.owner;
  are = of.are;
}

pub first_or_later : {X : Type 0} (y : X) (ys : List X) (x : X) → Contains (y ∷ ys) x → (y ≡ x) ⊎ Contains ys x
first_or_later y ys x (zero, within, at) = inl at
first_or_later y ys x (suc i, within, at) = inr (i, omega (arith, within), at)

pub of_anchor : (rrsets : List ReceivedRrset) (zone : Labels) (n : ℕ) (anchors : List Anchor) (facts : List VoucherFacts) (known : VoucherFacts)
    → AreAnchorFactsFrom rrsets zone n anchors facts → Contains facts known → IsOfAnchor rrsets zone anchors known
of_anchor rrsets zone n [] facts known are there =
    absurd (let none = subst (λ (each : List VoucherFacts). Contains each known) are there in let within = none.1 in omega (arith, within))
of_anchor rrsets zone n (x ∷ xs) facts known (inl both) there = ⊎_elim
    (λ (same : both.1.0 ≡ known). record {
      anchor = x;
      n = number.Anchor n;
      among = (0, omega arith, refl);
      owner = both.0;
      are = subst (λ (k : VoucherFacts). AreVoucherFacts rrsets zone (number.Anchor n) (anchor_wanted x) k) same both.1.2;
    })
    (λ (later : Contains both.1.1 known). of_more rrsets zone x xs known (of_anchor rrsets zone (n + 1) xs both.1.1 known both.1.3 later))
    (first_or_later both.1.0 both.1.1 known (subst (λ (each : List VoucherFacts). Contains each known) both.1.4 there))
of_anchor rrsets zone n (x ∷ xs) facts known (inr both) there = of_more rrsets zone x xs known (of_anchor rrsets zone (n + 1) xs facts known both.1 there)

-- ---- DS records

pub record_known : (rrsets : List ReceivedRrset) (zone : Labels) (k : ℕ) (values : List Ds) (place : ℕ) (canonical : List (List ℕ)) (facts : List VoucherFacts)
    (rdata : List ℕ) (ds : Ds) → AreRecordFacts rrsets zone k values place canonical facts → Contains canonical rdata → IsDs rdata ds
    → IsKnown rrsets zone (by_digest values ds) facts
record_known rrsets zone k values place [] facts rdata ds are there read = absurd (let within = there.1 in omega (arith, within))
record_known rrsets zone k values place (x ∷ xs) [] rdata ds are there read = absurd are
record_known rrsets zone k values place (x ∷ xs) (known ∷ facts) rdata ds are (zero, within, at) read =
    let its = are.0 in
    let same : its.0 ≡ ds = one_ds rdata its.0 ds (subst (λ (r : List ℕ). IsDs r its.0) at its.1) read in record {
      known = known;
      n = number.Ds (record { rrset = k; place = place });
      among = (0, omega arith, refl);
      are = subst (λ (d : Ds). AreVoucherFacts rrsets zone (number.Ds (record { rrset = k; place = place })) (by_digest values d) known) same its.2;
    }
record_known rrsets zone k values place (x ∷ xs) (known ∷ facts) rdata ds are (suc i, within, at) read =
    in_front rrsets zone (by_digest values ds) known facts (known ∷ facts) refl
    (record_known rrsets zone k values (place + 1) xs facts rdata ds are.1 (i, omega (arith, within), at) read)

-- the record of which it is found
pub record IsOfRecord (rrsets : List ReceivedRrset) (zone : Labels) (values : List Ds) (canonical : List (List ℕ)) (known : VoucherFacts) : Type 0 where
  pub rdata : List ℕ
  pub ds : Ds
  pub n : EntryNumber
  pub among : Contains canonical rdata
  pub read : IsDs rdata ds
  pub are : AreVoucherFacts rrsets zone n (by_digest values ds) known

pub of_record : (rrsets : List ReceivedRrset) (zone : Labels) (k : ℕ) (values : List Ds) (place : ℕ) (canonical : List (List ℕ)) (facts : List VoucherFacts)
    (known : VoucherFacts) → AreRecordFacts rrsets zone k values place canonical facts → Contains facts known → IsOfRecord rrsets zone values canonical known
of_record rrsets zone k values place [] [] known are there = absurd (let within = there.1 in omega (arith, within))
of_record rrsets zone k values place [] (y ∷ facts) known are there = absurd are
of_record rrsets zone k values place (x ∷ xs) [] known are there = absurd are
of_record rrsets zone k values place (x ∷ xs) (y ∷ facts) known are (zero, within, at) = record {
  rdata = x;
  ds = are.0.0;
  n = number.Ds (record { rrset = k; place = place });
  among = (0, omega arith, refl);
  read = are.0.1;
  are = subst (λ (v : VoucherFacts). AreVoucherFacts rrsets zone (number.Ds (record { rrset = k; place = place })) (by_digest values are.0.0) v) at are.0.2;
}
of_record rrsets zone k values place (x ∷ xs) (y ∷ facts) known are (suc i, within, at) =
    let of = of_record rrsets zone k values (place + 1) xs facts known are.1 (i, omega (arith, within), at) in record {
      rdata = of.rdata;
      ds = of.ds;
      n = of.n;
      among = (suc of.among.0, let inside = of.among.1 in omega (arith, inside), of.among.2);
      read = of.read;
      are = of.are;
    }
