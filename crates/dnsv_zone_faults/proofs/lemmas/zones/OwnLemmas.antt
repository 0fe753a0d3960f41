-- The keys in a DNSKEY RRset and its signatures.
use Rattle.std.proofs.Common.{◌≡◌, ◌≢◌, ◌↔◌, ◌⊎◌, ◌+◌, ◌-◌, ◌==◌, ℕ, Bool, false, not, inl, inr, ⊎_elim, List, [], ◌∷◌, length, map, refl, sym, ap, ◌∙◌, subst, arith, IsTrue}
use Rattle.std.proofs.lemmas.Bool.{false≢true}
use Rattle.std.proofs.lemmas.Bool.Decides.{nat_tests}
use Rattle.std.specs.Prelude.{Contains}
use Rattle.std.specs.List.{AllByRecursion, AllZip, enumerate_from}
use Rattle.std.specs.List.Sorted.{IsStrictlyIncreasing}
use Rattle.dnsv_names.specs.Name.{Labels, SameName}
use Rattle.dnsv_records.specs.Algorithm.{is_supported}
use Rattle.dnsv_records.specs.Dnskey.KeyTag.{key_tag_of}
use Rattle.dnsv_records.specs.Rrsig.{IsRrsig}
use Rattle.dnsv_records.specs.declared.rrsig.Rrsig.{Rrsig}
use Rattle.dnsv_records.proofs.OneRecord.{one_rrsig}
use Rattle.dnsv_canonical.specs.Rrsets.{ReceivedRrset}
use Rattle.dnsv_canonical.proofs.OrderLemmas.{each_member, each_of, zip_from}
use Rattle.dnsv_chain.specs.Anchor.{HasAnchorMatch}
use Rattle.dnsv_chain.specs.Trusted.{IsTrusted, SignsItsSet, anchored, delegated}
use Rattle.dnsv_chain.specs.Basis.{Basis}
use Rattle.dnsv_verifier.proofs.NumberLemmas.{contains_from_map}
use Rattle.dnsv_verifier.specs.Admissible.{DnskeyRecord, IsGood}
use Rattle.dnsv_verifier.specs.Asking.{GivesEach}
use Rattle.dnsv_mending.specs.declared.facts.keys.SelfSignature.{SelfSignature}
use Rattle.dnsv_zone_keys.specs.Answers.AnswerSearch.{ArePutInOrder}
use Rattle.dnsv_zone_faults.specs.Dnskeys.{AreOwnSignatures, IsAnothers, IsNamedIn, IsOwnSignature, MayBeBy, signature_number}
use Rattle.dnsv_zone_faults.specs.Dnskeys.DnskeySearch.{AreKeysIn, AreOwn, AreVouched, HasFound, HasTrusting, IsDelegatedTo, IsFoundPlace, IsOwn, IsSelfOf, IsTrusting, IsVouchedFor, rdata_of}
use Rattle.dnsv_zone_faults.specs.Dnskeys.OwnSearch.{AreTagged, HasNaming, tag_of_own}
use Rattle.dnsv_zone_faults.specs.Dnskeys.PlaceSearch.{HasOther}
use Rattle.dnsv_zone_keys.specs.Keys.{IsKeyPlaced, IsNamed}
use Rattle.dnsv_zone_keys.specs.Keys.Index.{AreIndexed, IsNamedBySigner, Placed}
use Rattle.dnsv_zone_keys.specs.Vouchers.VoucherSearch.{ArePlacesOf}
use Rattle.dnsv_zone_faults.specs.declared.zone.dnskeys.tagged.OwnSignature.{OwnSignature}
use Rattle.dnsv_zone_keys.proofs.lemmas.IndexLemmas.{found_as}
use Rattle.dnsv_zone_faults.proofs.lemmas.zones.PlaceLemmas.{key_in, key_records, placed_rdata, same_record}
use Rattle.dnsv_zone_faults.proofs.lemmas.zones.TrustLemmas.{in_enumerated, number_of, numbered_among}
use Rattle.dnsv_zone_keys.proofs.lemmas.ZoneKeyLemmas.{placed_same}

abbrev pub seen_own : OwnSignature → ℕ × Rrsig
seen_own own = (own.number, own.rrsig.now)

-- whether there are any
pub has_some : (received : List (List ℕ)) (signatures : List Rrsig) → AllZip IsRrsig received signatures → (b : Bool) → b ≡ (length signatures == 0)
    → IsTrue (not b) ↔ (received ≢ [])
has_some [] [] read b test = (λ yes. absurd (false≢true (sym (ap not test) ∙ yes)), λ some. absurd (some refl))
has_some [] (y ∷ ys) read b test = absurd read
has_some (x ∷ xs) [] read b test = absurd read
has_some (x ∷ xs) (y ∷ ys) read b test = (
  λ yes none. absurd (cc none),
  λ some. let off : (length (y ∷ ys) == 0) ≡ false = grind (arith, nat_tests) in ap not (test ∙ off),
)

-- ---- a signature as it is kept

module _ (basis : Basis) (zone : Labels) (set : ReceivedRrset) (keys : List Placed) (are : AreKeysIn basis.rrsets zone set keys) (rrsig : Rrsig) where
  abbrev Such : DnskeyRecord → Type 0
  Such = IsGood basis.meaning basis.moment set rrsig

  -- the places of the keys under which it is good, found by those that it names
  pub good_are : (all named : List Placed) → AreIndexed basis.rrsets all → ((placed : Placed) → Contains named placed → Contains all placed)
      → ((placed : Placed) → Contains all placed → IsNamedBySigner rrsig placed.key → Contains named placed)
      → (found places : List ℕ) → GivesEach (IsFoundPlace keys Such) (HasFound keys Such) named found
      → ((place : ℕ) → Contains places place ↔ Contains found place) → IsStrictlyIncreasing places → ArePlacesOf keys Such places
  good_are all named indexed among every found places gives same rising = record {
    rising = rising;
    only = λ place there.
        let of = gives.only place ((same place).0 there) in
        (of.is.own, of.is.among, record { such = of.is.such; is = of.is.is });
    all = λ placed there good.
        let its = key_in basis.rrsets zone set keys are placed there in
        let signer : SameName zone rrsig.signer = sym its.at.owner ∙ good.admissible.zone_key.owner in
        let at = placed_same basis.rrsets zone rrsig.signer placed.place placed.key signer its.at in
        let name : IsNamed rrsig placed.key = record { tag = good.admissible.named.key_tag; algorithm = good.admissible.named.algorithm } in
        let known = found_as basis.rrsets all indexed rrsig named among every placed.place placed.key at name in
        let has : HasFound keys Such known.placed = record { own = placed; among = there; rdata = sym known.rdata; such = good } in
        let one = gives.all known.placed known.there has in
        let own_is = key_records basis.rrsets zone set keys are one.2.own placed one.2.among there (one.2.rdata ∙ known.rdata) in
        let place_is : one.0 ≡ placed.place = one.2.is ∙ ap (λ (p : Placed). p.place) own_is in
        subst (λ (n : ℕ). Contains places n) place_is ((same one.0).1 one.1);
  }

module _ (basis : Basis) (set : ReceivedRrset) (keys : List Placed) where
  pub own_are : (signatures : List Rrsig) (old new : List OwnSignature) → AllZip IsRrsig set.signatures signatures
      → map seen_own old ≡ enumerate_from 1 signatures → AllByRecursion (IsOwn basis set keys) old
      → ((each : OwnSignature) → Contains new each ↔ Contains old each) → AreOwn basis set keys new
  own_are signatures old new read are each same = record {
    each = λ own there. each_of (IsOwn basis set keys) old own each ((same own).0 there);
    all = λ s rrsig its.
        let positive = its.numbered.0 in
        let its_read = zip_from IsRrsig set.signatures signatures (s - 1) its.rdata read its.numbered.1 in
        let one : its_read.0 ≡ rrsig = one_rrsig its.rdata its_read.0 rrsig its_read.2 its.is in
        let number : 1 + (s - 1) ≡ s = omega (arith, positive) in
        let listed = subst (λ (list : List (ℕ × Rrsig)). Contains list (1 + (s - 1), its_read.0)) (sym are) (in_enumerated 1 signatures (s - 1) its_read.0 its_read.1) in
        let from = contains_from_map seen_own old (1 + (s - 1), its_read.0) listed in record {
          own = from.0;
          among = (same from.0).1 from.1;
          number = ap (λ (p : ℕ × Rrsig). p.0) from.2 ∙ number;
          is = ap (λ (p : ℕ × Rrsig). p.1) from.2 ∙ one;
        };
  }

-- ---- those that may be by a key

module _ (basis : Basis) (zone : Labels) (k : ℕ) (set : ReceivedRrset) (keys : List Placed) (are : AreKeysIn basis.rrsets zone set keys)
    (owns : List OwnSignature) (kept : AreOwn basis set keys owns) where
  -- good under another key
  pub others_are : (placed : Placed) (own : OwnSignature) → Contains keys placed → Contains owns own
      → HasOther own.good placed.place ↔ IsAnothers basis set own.rrsig.now placed.key
  others_are placed own there among =
      let its = kept.each own among in (
        λ has.
            let of = its.good.only has.other has.among in record {
              other = of.0.key;
              stands = (key_in basis.rrsets zone set keys are of.0 of.1).stands;
              another = λ same. has.apart (of.2.is ∙ ap (λ (p : Placed). p.place) (key_records basis.rrsets zone set keys are of.0 placed of.1 there same));
              good = of.2.such;
            },
        λ by.
            let here = (are.in_order.members by.other.rdata).1 by.stands.among in
            let from = contains_from_map rdata_of keys by.other.rdata here in
            let other_in = key_in basis.rrsets zone set keys are from.0 from.1 in
            let own_in = key_in basis.rrsets zone set keys are placed there in
            let same = same_record set from.0.key by.other other_in.stands by.stands from.2 in
            let good : IsGood basis.meaning basis.moment set own.rrsig.now from.0.key =
            subst (λ (key : DnskeyRecord). IsGood basis.meaning basis.moment set own.rrsig.now key) (sym same) by.good in
            record {
              other = from.0.place;
              among = its.good.all from.0 from.1 good;
              apart = λ place_is.
                  let at : IsKeyPlaced basis.rrsets zone placed.place from.0.key =
                  subst (λ (n : ℕ). IsKeyPlaced basis.rrsets zone n from.0.key) place_is other_in.at in
                  by.another (sym from.2 ∙ placed_rdata basis.rrsets zone placed.place from.0.key placed.key at own_in.at);
            },
      )

  module _ (key : DnskeyRecord) (tagged : List OwnSignature) (tag : AreTagged owns (key_tag_of key.rdata) tagged) where
    pub self_are : (found put : List SelfSignature)
        → GivesEach (IsSelfOf basis k set key) (λ (own : OwnSignature). MayBeBy basis set key own.rrsig.now) tagged found
        → ArePutInOrder signature_number found put → AreOwnSignatures basis k set key put
    self_are found put gives order = record {
      rising = order.rising;
      each = each_member (IsOwnSignature basis k set key) put (λ x there. (gives.only x (order.kept x there)).is.is);
      all = λ s rrsig its may.
          let has = kept.all s rrsig its in
          let its_tag : tag_of_own has.own ≡ key_tag_of key.rdata = ap (λ (r : Rrsig). r.key_tag.0) has.is ∙ sym may.named.tag in
          let there = tag.all has.own has.among its_tag in
          let one = gives.all has.own there (subst (λ (r : Rrsig). MayBeBy basis set key r) (sym has.is) may) in
          subst (λ (n : ℕ). Contains (map signature_number put) n) (one.2.number ∙ has.number) (order.all one.0 one.1);
    }

    pub named_in : HasNaming tagged key ↔ IsNamedIn set key
    named_in = (
      λ has.
          let its = kept.each has.own (tag.among has.own has.among) in
          record { s = has.own.number; rrsig = has.own.rrsig.now; its = its.its; named = has.named },
      λ in_set.
          let has = kept.all in_set.s in_set.rrsig in_set.its in
          let its_tag : tag_of_own has.own ≡ key_tag_of key.rdata = ap (λ (r : Rrsig). r.key_tag.0) has.is ∙ sym in_set.named.tag in
          record { own = has.own; among = tag.all has.own has.among its_tag; named = subst (λ (r : Rrsig). IsNamed r key) (sym has.is) in_set.named },
    )

  -- ---- trust

  module _ (vouched : List ℕ) (voucheds : AreVouched basis zone vouched) (among_all : Contains basis.rrsets set) where
    by_signing : (key : DnskeyRecord) → SignsItsSet basis.meaning basis.moment set key → IsVouchedFor basis key → HasTrusting vouched owns keys
    by_signing key signs for_it =
        let here = (are.in_order.members key.rdata).1 signs.stands.among in
        let from = contains_from_map rdata_of keys key.rdata here in
        let its = key_in basis.rrsets zone set keys are from.0 from.1 in
        let same = same_record set from.0.key key its.stands signs.stands from.2 in
        let good = signs.signed.good in
        let supported : IsTrue (is_supported key.dnskey.algorithm.0) =
        subst (λ (n : ℕ). IsTrue (is_supported n)) (sym good.admissible.named.algorithm) good.admissible.named.supported in
        let rdata = signs.signed.its in
        let number = number_of set.signatures rdata.0 rdata.1 in
        let has = kept.all number.0 signs.signed.rrsig (record { rdata = rdata.0; numbered = number.1; is = rdata.2 }) in
        let good_under : IsGood basis.meaning basis.moment set has.own.rrsig.now from.0.key =
        subst (λ (r : Rrsig). IsGood basis.meaning basis.moment set r from.0.key) (sym has.is)
        (subst (λ (each : DnskeyRecord). IsGood basis.meaning basis.moment set signs.signed.rrsig each) (sym same) good) in
        record {
          placed = from.0;
          among = from.1;
          is = record {
            vouched_for = voucheds.all from.0.place from.0.key its.at
                (subst (λ (each : DnskeyRecord). IsTrue (is_supported each.dnskey.algorithm.0)) (sym same) supported)
                (subst (λ (each : DnskeyRecord). IsVouchedFor basis each) (sym same) for_it);
            signs = record {
              own = has.own;
              among = has.among;
              tag = ap (λ (r : Rrsig). r.key_tag.0) has.is ∙ sym good.admissible.named.key_tag ∙ ap key_tag_of (sym from.2);
              good = (kept.each has.own has.among).good.all from.0 from.1 good_under;
            };
          };
        }

    trusts : IsTrusted basis.meaning basis.moment basis.rrsets basis.anchors set → HasTrusting vouched owns keys
    trusts (anchored {key = key} among signs matching) = by_signing key signs (inl matching)
    trusts (delegated {parent = parent} {ds = ds} {above = above} {key = key} trusted stands ds_among signed to among signs) =
        by_signing key signs (inr (record {
          parent = parent;
          above = above;
          ds = ds;
          trusted = trusted;
          stands = stands;
          among = ds_among;
          signed = signed;
          to = to;
        }))

    -- the key signs the RRset
    signs_it : (placed : Placed) → Contains keys placed → IsTrusting vouched owns placed → SignsItsSet basis.meaning basis.moment set placed.key
    signs_it placed there is =
        let its = kept.each is.signs.own is.signs.among in
        let of = its.good.only placed.place is.signs.good in
        let other_in = key_in basis.rrsets zone set keys are of.0 of.1 in
        let own_in = key_in basis.rrsets zone set keys are placed there in
        let at : IsKeyPlaced basis.rrsets zone placed.place of.0.key = subst (λ (n : ℕ). IsKeyPlaced basis.rrsets zone n of.0.key) (sym of.2.is) other_in.at in
        let rdata = placed_rdata basis.rrsets zone placed.place of.0.key placed.key at own_in.at in
        let same = same_record set of.0.key placed.key other_in.stands own_in.stands rdata in
        let signature = its.its in record {
          stands = own_in.stands;
          signed = record {
            rrsig = is.signs.own.rrsig.now;
            its = (signature.rdata, numbered_among set.signatures is.signs.own.number signature.rdata signature.numbered, signature.is);
            good = subst (λ (key : DnskeyRecord). IsGood basis.meaning basis.moment set is.signs.own.rrsig.now key) same of.2.such;
          };
        }

    pub trusted_is : HasTrusting vouched owns keys ↔ IsTrusted basis.meaning basis.moment basis.rrsets basis.anchors set
    trusted_is = (
      λ has.
          let signs = signs_it has.placed has.among has.is in
          let its = key_in basis.rrsets zone set keys are has.placed has.among in
          ⊎_elim
          (λ (match : HasAnchorMatch basis.anchors has.placed.key). anchored among_all signs match)
          (λ (to : IsDelegatedTo basis has.placed.key).
          delegated to.trusted to.stands to.among to.signed to.to among_all signs)
          (voucheds.only has.placed.place has.placed.key its.at has.is.vouched_for),
      trusts,
    )
