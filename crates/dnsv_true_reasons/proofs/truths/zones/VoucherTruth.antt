-- What is told of trust anchors and DS records is so, and which keys they don't fit.
use Rattle.std.proofs.Common.{◌≡◌, ◌+◌, ◌&&◌, ◌||◌, ℕ, zero, suc, Bool, true, false, inl, inr, List, [], ◌∷◌, Option, Some, None, refl, sym, ap, ◌∙◌, subst, slice_get, nat_eq, arith}
use Rattle.std.proofs.lemmas.Bool.{eq-eqb, false≢true}
use Rattle.std.proofs.lemmas.Option.{same_Some}
use Rattle.std.specs.List.{list_any}
use Rattle.std.specs.Prelude.{Contains}
use Rattle.dnsv_names.specs.Name.{Labels, SameName}
use Rattle.dnsv_names.specs.Octets.{number_at}
use Rattle.dnsv_records.specs.Dnskey.{IsDnskey}
use Rattle.dnsv_records.specs.Dnskey.KeyTag.{key_tag_of}
use Rattle.dnsv_records.specs.Ds.{IsDs}
use Rattle.dnsv_records.specs.declared.ds.Ds.{Ds}
use Rattle.dnsv_canonical.specs.Rrsets.{ReceivedRrset}
use Rattle.dnsv_anchors.specs.Anchor.{anchor_owner}
use Rattle.dnsv_anchors.specs.declared.anchor.Anchor.{Anchor}
use Rattle.dnsv_zone_faults.specs.Groups.{AreAnchorFactsFrom, AreRecordFacts, anchor_wanted}
use Rattle.dnsv_zone_keys.specs.Keys.{IsKeyPlaced}
use Rattle.dnsv_zone_keys.specs.Vouchers.{AreVoucherFacts, HasNoKey, HasSuchKey, IsFirstOf, IsMatchOf, IsVoucherFault, IsWantedBy, HasTag, Wanted, voucher_faults, wanted_key}
use Rattle.dnsv_zone_keys.specs.Vouchers.Wanted.{by_digest, whole_key}
use Rattle.dnsv_zone_keys.proofs.lemmas.VoucherLemmas.{match_wanted, wanted_tag}
use Rattle.dnsv_zone_faults.proofs.lemmas.zones.MatchLemmas.{nothing_said}
use Rattle.dnsv_zone_keys.proofs.lemmas.ZoneKeyLemmas.{placed_same}
use Rattle.dnsv_lines.specs.declared.line.derivation.KeyName.{KeyName}
use Rattle.dnsv_lines.specs.declared.line.fault.zone.EntryNumber.{EntryNumber}
use Rattle.dnsv_lines.specs.declared.line.fault.zone.EntryNumber.TheVariants as number
use Rattle.dnsv_lines.specs.declared.line.fault.zone.WhyEntry.{WhyEntry}
use Rattle.dnsv_lines.specs.declared.line.fault.zone.WhyEntry.TheVariants as why
use Rattle.dnsv_mending.specs.Keys.{fits, fits_by, is_name, is_tag, signing}
use Rattle.dnsv_mending.specs.Ways.{IsAmong}
use Rattle.dnsv_mending.specs.declared.facts.keys.DnskeyFacts.{DnskeyFacts}
use Rattle.dnsv_mending.specs.declared.facts.keys.HeldKey.{HeldKey}
use Rattle.dnsv_mending.specs.declared.facts.keys.VoucherFacts.{VoucherFacts}
use Rattle.dnsv_mending.proofs.AllWays.{none_some}
use Rattle.dnsv_verifier.specs.Admissible.{DnskeyRecord}
use Rattle.dnsv_true_reasons.specs.truth.Entries.{Fits}
use Rattle.dnsv_true_reasons.specs.truth.Entries.Fits.{beside_stronger, matching, without_algorithm, without_digest, without_match, without_name, without_tag}

-- ---- a zone by another spelling

no_key_moves : (rrsets : List ReceivedRrset) (a b : Labels) (Such : DnskeyRecord → Type 0) → SameName a b → HasNoKey rrsets a Such
    → HasNoKey rrsets b Such
no_key_moves rrsets a b Such same none place key placed such = none place key (placed_same rrsets b a place key (sym same) placed) such

some_key_moves : (rrsets : List ReceivedRrset) (a b : Labels) (Such : DnskeyRecord → Type 0) → SameName a b → HasSuchKey rrsets a Such
    → HasSuchKey rrsets b Such
some_key_moves rrsets a b Such same some = (some.0, some.1, placed_same rrsets a b some.0 some.1 same some.2, some.3)

pub fault_moves : (rrsets : List ReceivedRrset) (a b : Labels) (wanted : Wanted) (w : WhyEntry) → SameName a b
    → IsVoucherFault rrsets a wanted w
    → IsVoucherFault rrsets b wanted w
fault_moves rrsets a b wanted why.KeyMissing same is = no_key_moves rrsets a b (HasTag wanted) same is
fault_moves rrsets a b wanted why.KeyAlgorithm same is =
    (some_key_moves rrsets a b (HasTag wanted) same is.0, no_key_moves rrsets a b (IsWantedBy wanted) same is.1)
fault_moves rrsets a b wanted why.DigestDiffers same is =
    (some_key_moves rrsets a b (IsWantedBy wanted) same is.0, no_key_moves rrsets a b (IsMatchOf wanted) same is.1)
fault_moves rrsets a b wanted w same is = is

pub fits_moves : (rrsets : List ReceivedRrset) (a b : Labels) (wanted : Wanted) (key : DnskeyRecord) → SameName a b
    → Fits rrsets a wanted key → Fits rrsets b wanted key
fits_moves rrsets a b wanted key same (without_algorithm f) = without_algorithm f
fits_moves rrsets a b wanted key same (without_digest f) = without_digest f
fits_moves rrsets a b wanted key same (beside_stronger f) = beside_stronger f
fits_moves rrsets a b wanted key same (matching m) = matching m
fits_moves rrsets a b wanted key same (without_match none is) = without_match (no_key_moves rrsets a b (IsMatchOf wanted) same none) is
fits_moves rrsets a b wanted key same (without_name none is) = without_name (no_key_moves rrsets a b (IsWantedBy wanted) same none) is
fits_moves rrsets a b wanted key same (without_tag none) = without_tag (no_key_moves rrsets a b (HasTag wanted) same none)

-- ---- the first that is so

pub first_is : {X : Type 0} (Such : X → Type 0) (xs : List X) (found : Option X) (x : X) → IsFirstOf Such xs found → found ≡ Some x → Such x
first_is Such [] found x first is = absurd (none_some x (sym first ∙ is))
first_is Such (y ∷ ys) found x (inl here) is = subst Such (same_Some y x (sym here.1 ∙ is)) here.0
first_is Such (y ∷ ys) found x (inr later) is = first_is Such ys found x later.1 is

record DiffersFirst (Such : WhyEntry → Type 0) : Type 0 where
  algorithm : ¬ Such why.Algorithm
  digest_type : ¬ Such why.DigestType
  ignored : ¬ Such why.DigestIgnored
  missing : ¬ Such why.KeyMissing
  is : Such why.DigestDiffers

differs_first : (Such : WhyEntry → Type 0) → IsFirstOf Such voucher_faults (Some why.DigestDiffers) → DiffersFirst Such
differs_first Such (inl x) = absurd (cc x.1)
differs_first Such (inr (a, inl x)) = absurd (cc x.1)
differs_first Such (inr (a, inr (b, inl x))) = absurd (cc x.1)
differs_first Such (inr (a, inr (b, inr (c, inl x)))) = absurd (cc x.1)
differs_first Such (inr (a, inr (b, inr (c, inr (d, inl x))))) = absurd (cc x.1)
differs_first Such (inr (a, inr (b, inr (c, inr (d, inr (e, inl x)))))) = record
    { algorithm = a; digest_type = b; ignored = c; missing = d; is = x.0 }
differs_first Such (inr (a, inr (b, inr (c, inr (d, inr (e, inr (f, none))))))) = absurd (cc none)

record AlgorithmFirst (Such : WhyEntry → Type 0) : Type 0 where
  algorithm : ¬ Such why.Algorithm
  digest_type : ¬ Such why.DigestType
  ignored : ¬ Such why.DigestIgnored
  missing : ¬ Such why.KeyMissing
  is : Such why.KeyAlgorithm

algorithm_first : (Such : WhyEntry → Type 0) → IsFirstOf Such voucher_faults (Some why.KeyAlgorithm) → AlgorithmFirst Such
algorithm_first Such (inl x) = absurd (cc x.1)
algorithm_first Such (inr (a, inl x)) = absurd (cc x.1)
algorithm_first Such (inr (a, inr (b, inl x))) = absurd (cc x.1)
algorithm_first Such (inr (a, inr (b, inr (c, inl x)))) = absurd (cc x.1)
algorithm_first Such (inr (a, inr (b, inr (c, inr (d, inl x))))) = record
    { algorithm = a; digest_type = b; ignored = c; missing = d; is = x.0 }
algorithm_first Such (inr (a, inr (b, inr (c, inr (d, inr (e, inl x)))))) = absurd (cc x.1)
algorithm_first Such (inr (a, inr (b, inr (c, inr (d, inr (e, inr (f, none))))))) = absurd (cc none)

-- ---- the keys that it doesn't fit

pub any_of : (n : ℕ) (xs : List ℕ) → Contains xs n → list_any (nat_eq n) xs ≡ true
any_of n [] there = absurd (let within = there.1 in omega (arith, within))
any_of n (x ∷ xs) (zero, within, is) = ap (λ b. b || list_any (nat_eq n) xs) (eq-eqb n x (sym is))
any_of n (x ∷ xs) (suc i, within, is) = later (nat_eq n x) (any_of n xs (i, omega (arith, within), is))
  where
    later : (b : Bool) → list_any (nat_eq n) xs ≡ true → (b || list_any (nat_eq n) xs) ≡ true
    later true e = refl
    later false e = e

key_place : (r : DnskeyFacts) (held : HeldKey) → (signing r held).key ≡ held.key
unfolding signing
key_place r held = refl

key_name : (r : DnskeyFacts) (held : HeldKey) → (signing r held).name ≡ held.name
unfolding signing
key_name r held = refl

wanted_tag_is : (wanted : Wanted) (key : DnskeyRecord) → HasTag wanted key → (wanted_key wanted).tag.0 ≡ key_tag_of key.rdata
wanted_tag_is (by_digest records ds) key is = sym is
wanted_tag_is (whole_key rdata) key is = ap key_tag_of (sym is)

wanted_algorithm_is : (wanted : Wanted) (key : DnskeyRecord) → IsDnskey key.rdata key.dnskey → IsWantedBy wanted key
    → (wanted_key wanted).algorithm.0 ≡ key.dnskey.algorithm.0
wanted_algorithm_is (by_digest records ds) key read is = sym is.1
wanted_algorithm_is (whole_key rdata) key read is = ap (λ octets. number_at octets 3 1) (sym is) ∙ sym read.algorithm

module _ (rrsets : List ReceivedRrset) (zone : Labels) (n : EntryNumber) (wanted : Wanted) (v : VoucherFacts)
    (are : AreVoucherFacts rrsets zone n wanted v)
    (r : DnskeyFacts) (held : HeldKey) (key : DnskeyRecord) (placed : IsKeyPlaced rrsets zone held.key key)
    (tag : held.name.tag.0 ≡ key_tag_of key.rdata) (algorithm : held.name.algorithm.0 ≡ key.dnskey.algorithm.0) where
  same_tag : HasTag wanted key → is_tag v.name (signing r held).name ≡ true
  same_tag is = eq-eqb v.name.tag.0 (signing r held).name.tag.0
      (ap (λ (name : KeyName). name.tag.0) are.name ∙ wanted_tag_is wanted key is ∙ sym tag
      ∙ ap (λ (name : KeyName). name.tag.0) (sym (key_name r held)))

  both_on : (a b : Bool) → a ≡ true → b ≡ true → (a && b) ≡ true
  both_on true b first second = second
  both_on false b first second = absurd (false≢true first)

  same_name : IsWantedBy wanted key → is_name v.name (signing r held).name ≡ true
  same_name is = both_on (is_tag v.name (signing r held).name) _ (same_tag (wanted_tag wanted key is))
      (eq-eqb v.name.algorithm.0 (signing r held).name.algorithm.0
      (ap (λ (name : KeyName). name.algorithm.0) are.name ∙ wanted_algorithm_is wanted key placed.read is ∙ sym algorithm
      ∙ ap (λ (name : KeyName). name.algorithm.0) (sym (key_name r held))))

  abbrev Such : WhyEntry → Type 0
  Such w = IsVoucherFault rrsets zone wanted w

  by_match : v.why ≡ None → list_any (nat_eq (signing r held).key) v.matches.items ≡ false → Fits rrsets zone wanted key → ⊥
  by_match none unfit (without_algorithm f) = (nothing_said rrsets zone n wanted v are none).0 f
  by_match none unfit (without_digest f) = (nothing_said rrsets zone n wanted v are none).1.0 f
  by_match none unfit (beside_stronger f) = (nothing_said rrsets zone n wanted v are none).1.1.0 f
  by_match none unfit (matching m) =
      let there : Contains v.matches.items held.key = (are.matched.members held.key).1 (none, (key, placed, m)) in
      false≢true (sym unfit ∙ ap (λ p. list_any (nat_eq p) v.matches.items) (key_place r held) ∙ any_of held.key v.matches.items there)
  by_match none unfit (without_match never is) = (nothing_said rrsets zone n wanted v are none).1.1.1.1.1.0
      ((held.key, key, placed, is), never)
  by_match none unfit (without_name never is) = (nothing_said rrsets zone n wanted v are none).1.1.1.1.0
      ((held.key, key, placed, is), never)
  by_match none unfit (without_tag never) = (nothing_said rrsets zone n wanted v are none).1.1.1.0 never

  by_name : is_name v.name (signing r held).name ≡ false → DiffersFirst (λ w. IsVoucherFault rrsets zone wanted w)
      → Fits rrsets zone wanted key → ⊥
  by_name unfit first (without_algorithm f) = first.algorithm f
  by_name unfit first (without_digest f) = first.digest_type f
  by_name unfit first (beside_stronger f) = first.ignored f
  by_name unfit first (matching m) = first.is.1 held.key key placed m
  by_name unfit first (without_match never is) = false≢true (sym unfit ∙ same_name is)
  by_name unfit first (without_name never is) = let some = first.is.0 in never some.0 some.1 some.2 some.3
  by_name unfit first (without_tag never) = first.missing never

  by_tag : is_tag v.name (signing r held).name ≡ false → AlgorithmFirst (λ w. IsVoucherFault rrsets zone wanted w)
      → Fits rrsets zone wanted key → ⊥
  by_tag unfit first (without_algorithm f) = first.algorithm f
  by_tag unfit first (without_digest f) = first.digest_type f
  by_tag unfit first (beside_stronger f) = first.ignored f
  by_tag unfit first (matching m) = first.is.1 held.key key placed (match_wanted wanted key m)
  by_tag unfit first (without_match never is) = first.is.1 held.key key placed is
  by_tag unfit first (without_name never is) = false≢true (sym unfit ∙ same_tag is)
  by_tag unfit first (without_tag never) = first.missing never

  by_why : (w : Option WhyEntry) → v.why ≡ w → fits_by v (signing r held) w ≡ false
      → IsFirstOf (λ x. IsVoucherFault rrsets zone wanted x) voucher_faults w
      → Fits rrsets zone wanted key → ⊥
  by_why None is unfit first it = by_match is unfit it
  by_why (Some why.DigestDiffers) is unfit first it = by_name unfit (differs_first (λ w. IsVoucherFault rrsets zone wanted w) first) it
  by_why (Some why.KeyAlgorithm) is unfit first it = by_tag unfit (algorithm_first (λ w. IsVoucherFault rrsets zone wanted w) first) it
  by_why (Some why.KeyMissing) is unfit first it = absurd (false≢true (sym unfit))
  by_why (Some why.Algorithm) is unfit first it = absurd (false≢true (sym unfit))
  by_why (Some why.DigestType) is unfit first it = absurd (false≢true (sym unfit))
  by_why (Some why.DigestIgnored) is unfit first it = absurd (false≢true (sym unfit))

  -- what doesn't fit by the facts doesn't fit
  pub not_fitting : fits v (signing r held) ≡ false → Fits rrsets zone wanted key → ⊥
  not_fitting unfit it = by_why v.why refl unfit are.fault it

-- ---- trust anchors and DS records, by their numbers

pub record AnchorThere (rrsets : List ReceivedRrset) (zone : Labels) (n : ℕ) (anchors : List Anchor) (known : VoucherFacts) : Type 0 where
  pub i : ℕ
  pub anchor : Anchor
  pub at : slice_get anchors i ≡ Some anchor
  pub owner : SameName (anchor_owner anchor) zone
  pub are : AreVoucherFacts rrsets zone (number.Anchor (n + i)) (anchor_wanted anchor) known

anchor_behind : (rrsets : List ReceivedRrset) (zone : Labels) (n : ℕ) (x : Anchor) (xs : List Anchor) (known : VoucherFacts)
    → AnchorThere rrsets zone (n + 1) xs known
    → AnchorThere rrsets zone n (x ∷ xs) known
anchor_behind rrsets zone n x xs known rest =
    let place : n + 1 + rest.i ≡ n + suc rest.i = omega arith in record {
      i = suc rest.i;
      anchor = rest.anchor;
      at = rest.at;
      owner = rest.owner;
      are = subst (λ (p : ℕ). AreVoucherFacts rrsets zone (number.Anchor p) (anchor_wanted rest.anchor) known) place rest.are;
    }

pub anchor_there : (rrsets : List ReceivedRrset) (zone : Labels) (n : ℕ) (anchors : List Anchor) (facts : List VoucherFacts)
    (known : VoucherFacts)
    → AreAnchorFactsFrom rrsets zone n anchors facts → IsAmong known facts → AnchorThere rrsets zone n anchors known
anchor_there rrsets zone n [] facts known are among = absurd (subst (IsAmong known) are among)
anchor_there rrsets zone n (x ∷ xs) facts known (inl both) among =
    by (subst (IsAmong known) both.1.4 among) (λ later. anchor_there rrsets zone (n + 1) xs both.1.1 known both.1.3 later)
  where
    by : IsAmong known (both.1.0 ∷ both.1.1) → (IsAmong known both.1.1 → AnchorThere rrsets zone (n + 1) xs known)
        → AnchorThere rrsets zone n (x ∷ xs) known
    by (inl same) rest =
        let place : n ≡ n + 0 = omega arith in record {
          i = 0;
          anchor = x;
          at = refl;
          owner = both.0;
          are = subst (λ (p : ℕ). AreVoucherFacts rrsets zone (number.Anchor p) (anchor_wanted x) known) place
              (subst (λ (v : VoucherFacts). AreVoucherFacts rrsets zone (number.Anchor n) (anchor_wanted x) v) (sym same) both.1.2);
        }
    by (inr later) rest = anchor_behind rrsets zone n x xs known (rest later)
anchor_there rrsets zone n (x ∷ xs) facts known (inr both) among = anchor_behind rrsets zone n x xs known
    (anchor_there rrsets zone (n + 1) xs facts known both.1 among)

pub record RecordThere (rrsets : List ReceivedRrset) (zone : Labels) (k : ℕ) (values : List Ds) (n : ℕ) (canonical : List (List ℕ))
    (known : VoucherFacts) : Type 0 where
  pub i : ℕ
  pub rdata : List ℕ
  pub at : slice_get canonical i ≡ Some rdata
  pub ds : Ds
  pub read : IsDs rdata ds
  pub are : AreVoucherFacts rrsets zone (number.Ds (record { rrset = k; place = n + i })) (by_digest values ds) known

pub record_there : (rrsets : List ReceivedRrset) (zone : Labels) (k : ℕ) (values : List Ds) (n : ℕ) (canonical : List (List ℕ))
    (facts : List VoucherFacts)
    (known : VoucherFacts) → AreRecordFacts rrsets zone k values n canonical facts → IsAmong known facts
    → RecordThere rrsets zone k values n canonical known
record_there rrsets zone k values n [] [] known are among = absurd among
record_there rrsets zone k values n [] (y ∷ facts) known are among = absurd are
record_there rrsets zone k values n (x ∷ xs) [] known are among = absurd are
record_there rrsets zone k values n (x ∷ xs) (y ∷ facts) known are (inl same) =
    let place : n ≡ n + 0 = omega arith in record {
      i = 0;
      rdata = x;
      at = refl;
      ds = are.0.0;
      read = are.0.1;
      are = subst (λ (p : ℕ). AreVoucherFacts rrsets zone (number.Ds (record { rrset = k; place = p })) (by_digest values are.0.0) known)
          place
          (subst (λ (v : VoucherFacts). AreVoucherFacts rrsets zone (number.Ds (record { rrset = k; place = n }))
          (by_digest values are.0.0) v) (sym same) are.0.2);
    }
record_there rrsets zone k values n (x ∷ xs) (y ∷ facts) known are (inr later) =
    let rest = record_there rrsets zone k values (n + 1) xs facts known are.1 later in
    let place : n + 1 + rest.i ≡ n + suc rest.i = omega arith in record {
      i = suc rest.i;
      rdata = rest.rdata;
      at = rest.at;
      ds = rest.ds;
      read = rest.read;
      are = subst (λ (p : ℕ). AreVoucherFacts rrsets zone (number.Ds (record { rrset = k; place = p })) (by_digest values rest.ds) known)
          place rest.are;
    }
