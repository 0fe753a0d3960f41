-- What is told of zones is so.
use Rattle.std.proofs.Common.{◌≡◌, ◌≢◌, ◌+◌, ◌&&◌, ℕ, Bool, true, false, inl, inr, List, [], ◌∷◌, Some, map, refl, sym, ap, ◌∙◌, subst, slice_get}
use Rattle.std.proofs.lemmas.Bool.{false≢true}
use Rattle.std.specs.List.{AllByRecursion, AllZip, list_any}
use Rattle.std.specs.Prelude.{Contains}
use Rattle.dnsv_names.specs.Name.{Labels, SameName, rightmost}
use Rattle.dnsv_names.specs.Tree.AncestorLaws.{rightmost_above}
use Rattle.dnsv_names.specs.Tree.TreeLaws.{at_or_below_respects}
use Rattle.dnsv_records.specs.Dnskey.KeyTag.{key_tag_of}
use Rattle.dnsv_records.specs.Ds.{IsDs}
use Rattle.dnsv_records.specs.declared.ds.Ds.{Ds}
use Rattle.dnsv_canonical.specs.Index.{numbers_at}
use Rattle.dnsv_canonical.specs.Rdata.{IsWellFormed}
use Rattle.dnsv_canonical.specs.Rrsets.{IsNumbered, ReceivedRrset}
use Rattle.dnsv_canonical.proofs.CanonicalLemmas.{canonical_unique}
use Rattle.dnsv_canonical.specs.Canonical.{IsCanonical}
use Rattle.dnsv_canonical.proofs.OrderLemmas.{each_of}
use Rattle.dnsv_chain.proofs.ChainLemmas.{same_ds}
use Rattle.dnsv_zone_faults.specs.Dnskeys.{AreDnskeyFacts}
use Rattle.dnsv_zone_faults.specs.Groups.{AreDsFacts, anchor_wanted}
use Rattle.dnsv_faults.specs.KnownZones.{HasRrset}
use Rattle.dnsv_zone_keys.specs.Vouchers.{AreVoucherFacts, IsVoucherFault, Wanted, voucher_faults}
use Rattle.dnsv_zone_keys.specs.Vouchers.Wanted.{by_digest}
use Rattle.dnsv_zone_faults.specs.Zones.{AreFactsOfZone, AreZoneFacts}
use Rattle.dnsv_zone_faults.proofs.lemmas.zones.ClosedLemmas.{among_of, contains_of}
use Rattle.dnsv_zone_faults.proofs.lemmas.zones.MatchLemmas.{anchor_known, record_known}
use Rattle.dnsv_zone_faults.proofs.lemmas.zones.PlaceLemmas.{at_some, same_record}
use Rattle.dnsv_zone_faults.proofs.lemmas.zones.TrustLemmas.{number_of, numbered_among, zip_left, zip_right}
use Rattle.dnsv_zone_faults.proofs.lemmas.zones.ZoneLemmas.{has_held}
use Rattle.dnsv_zone_faults.proofs.lemmas.zones.InPlaceLemmas.{first_of as first_in}
use Rattle.dnsv_canonical.proofs.NumberLemmas.{each_number, IsOneAt, one_numbered}
use Rattle.dnsv_lines.specs.declared.line.derivation.KeyName.{KeyName}
use Rattle.dnsv_lines.specs.declared.line.fault.zone.EntryNumber.{EntryNumber}
use Rattle.dnsv_lines.specs.declared.line.fault.zone.EntryNumber.TheVariants as number
use Rattle.dnsv_lines.specs.declared.line.fault.zone.WhyEntry.{WhyEntry}
use Rattle.dnsv_mending.specs.Keys.{fits, signing, signings}
use Rattle.dnsv_mending.specs.Mend.{is_none}
use Rattle.dnsv_mending.specs.Ways.{IsAmong}
use Rattle.dnsv_mending.specs.Zone.{has_none, is_fitted, is_vouched}
use Rattle.dnsv_mending.specs.declared.facts.keys.DnskeyFacts.{DnskeyFacts}
use Rattle.dnsv_mending.specs.declared.facts.keys.HeldKey.{HeldKey}
use Rattle.dnsv_mending.specs.declared.facts.keys.VoucherFacts.{VoucherFacts}
use Rattle.dnsv_mending.specs.declared.facts.zone.DsFacts.{DsFacts}
use Rattle.dnsv_mending.specs.declared.facts.zone.ZoneFacts.{ZoneFacts}
use Rattle.dnsv_mending.specs.declared.told.Told.{Told}
use Rattle.dnsv_mending.proofs.Reasons.{both_true}
use Rattle.dnsv_chain.specs.Basis.{Basis}
use Rattle.dnsv_chain.proofs.NumberedLemmas.{numbers_are}
use Rattle.dnsv_verifier.specs.Admissible.{DnskeyRecord}
use Rattle.dnsv_true_reasons.specs.truth.Entries.{Fits, IsVoucherOf}
use Rattle.dnsv_true_reasons.proofs.truths.zones.KeyTruth.{key_true, numbered_next}
use Rattle.dnsv_true_reasons.proofs.truths.ways.PartWays.{none_passes}
use Rattle.dnsv_true_reasons.proofs.truths.zones.RrsetTruth.{formed_at, nothing_in, rrset_true}
use Rattle.dnsv_true_reasons.proofs.truths.ways.Told.{IsOfZone, IsOfZones}
use Rattle.dnsv_true_reasons.proofs.truths.ways.Told.IsOfZone.{no_anchor, no_dnskey, no_ds, of_anchor, of_ds, of_key, of_record, without_voucher}
use Rattle.dnsv_true_reasons.proofs.truths.zones.TrueTold.{IsSetTold, IsTold}
use Rattle.dnsv_true_reasons.proofs.truths.zones.VoucherTruth.{anchor_there, first_is, fits_moves, not_fitting, record_there}
use Rattle.dnsv_true_reasons.proofs.truths.ways.SourceWays.{neither}

-- ---- lists

none_there : {A B : Type 0} (R : A → B → Type 0) (xs : List A) (ys : List B) (x : A) → AllZip R xs ys → is_none ys ≡ true → Contains xs x
    → ⊥
none_there R xs ys x each none there =
    let one = zip_right R xs ys x each there in nothing ys none one.0 one.1
  where
    nothing : {X : Type 0} (zs : List X) → is_none zs ≡ true → (z : X) → Contains zs z → ⊥
    nothing [] e z in_it = nothing_in z in_it
    nothing (y ∷ zs) e z in_it = false≢true e

no_member : {X : Type 0} (xs : List X) (x : X) → is_none xs ≡ true → Contains xs x → ⊥
no_member [] x none there = nothing_in x there
no_member (y ∷ xs) x none there = false≢true none

first_of : {X : Type 0} (xs : List X) → is_none xs ≡ false → (x : X) × IsAmong x xs
first_of [] some = absurd (false≢true (sym some))
first_of (x ∷ xs) some = (x, inl refl)

among_map : {X Y : Type 0} (f : X → Y) (xs : List X) (x : X) → IsAmong x xs → IsAmong (f x) (map f xs)
among_map f [] x among = absurd among
among_map f (y ∷ xs) x (inl same) = inl (ap f same)
among_map f (y ∷ xs) x (inr later) = inr (among_map f xs x later)

one_off : (a b : Bool) → (a && b) ≡ false → (a ≡ true → b ≡ false)
one_off true b e on = e
one_off false b e on = absurd (false≢true on)

-- ---- the RRsets of a zone

-- one of the type is at the zone
listed : (rrsets : List ReceivedRrset) (zone : Labels) (rtype : ℕ) → HasRrset rrsets zone rtype
    → (k : ℕ) × Contains (numbers_at rrsets zone rtype) k
listed rrsets zone rtype has =
    let at = number_of rrsets has.rrset has.among in (
      at.0,
      (numbers_are rrsets zone rtype (numbers_at rrsets zone rtype) refl).all at.0
          (record { rrset = has.rrset; is_rrset = at.1; owner = has.owner; same_type = has.its_type }),
    )

-- the RRset with a number of the zone
pub record ItIsAt (zone : Labels) (rtype : ℕ) (rrset : ReceivedRrset) : Type 0 where
  pub owner : SameName rrset.owner zone
  pub rtype_is : rrset.rtype ≡ rtype

it_is_at : (rrsets : List ReceivedRrset) (zone : Labels) (rtype k : ℕ) (rrset : ReceivedRrset) → Contains (numbers_at rrsets zone rtype) k
    → IsNumbered rrsets k rrset → ItIsAt zone rtype rrset
it_is_at rrsets zone rtype k rrset there numbered =
    let one = each_of (IsOneAt rrsets zone rtype) (numbers_at rrsets zone rtype) k (each_number rrsets zone rtype) there in
    let same = one_numbered rrsets k one.rrset rrset one.is_rrset numbered in record {
      owner = subst (λ (r : ReceivedRrset). SameName r.owner zone) same one.owner;
      rtype_is = subst (λ (r : ReceivedRrset). r.rtype ≡ rtype) same one.same_type;
    }

module _ (basis : Basis) (name : Labels) (t : ℕ) (zones : List ZoneFacts) (are : AreZoneFacts basis name t zones)
    (formed : AllByRecursion IsWellFormed basis.rrsets) (n : ℕ) (z : ZoneFacts) (at : slice_get zones n ≡ Some z) where
  facts : AreFactsOfZone basis name t (rightmost name n) z
  facts = are.each n z at

  -- ---- DS RRsets

  pub record DsThere (ds : DsFacts) : Type 0 where
    pub k : ℕ
    pub its : AreDsFacts basis (rightmost name n) k ds
    pub it_is : ItIsAt (rightmost name n) 43 its.set

  ds_there : (ds : DsFacts) → IsAmong ds z.ds.items → DsThere ds
  ds_there ds among =
      let zone = rightmost name n in
      let of = zip_left (AreDsFacts basis zone) (numbers_at basis.rrsets zone 43) z.ds.items ds facts.ds (contains_of ds z.ds.items among)
      in
      record { k = of.0; its = of.2; it_is = it_is_at basis.rrsets zone 43 of.0 of.2.set of.1 of.2.numbered }

  -- a record of it, as what vouches for keys of the zone
  ds_vouches : (ds : DsFacts) (there : DsThere ds) (v : VoucherFacts) → IsAmong v ds.records.items
      → (wanted : Wanted) × IsVoucherOf basis (rightmost name n) v.number wanted
      × ((w : WhyEntry) → v.why ≡ Some w → IsVoucherFault basis.rrsets (rightmost name n) wanted w)
  ds_vouches ds there v among =
      let zone = rightmost name n in
      let its = there.its in
      let one = record_there basis.rrsets zone there.k its.records 1 its.canonical ds.records.items v its.each among in
      let wanted = by_digest its.records one.ds in (
        wanted,
        subst (λ (number_is : EntryNumber). IsVoucherOf basis zone number_is wanted) (sym one.are.number_is) (record {
          rrset = its.set;
          numbered = its.numbered;
          owner = there.it_is.owner;
          rtype = there.it_is.rtype_is;
          records = its.records;
          all = its.read;
          rdata = one.rdata;
          placed = record {
            canonical = its.canonical;
            in_order = its.in_order;
            numbered = numbered_next its.canonical one.i one.rdata
                one.at;
          };
          ds = one.ds;
          read = one.read;
          asks = refl;
        }),
        λ w is. first_is (λ x. IsVoucherFault basis.rrsets zone wanted x) voucher_faults v.why w one.are.fault is,
      )

  anchor_vouches : (v : VoucherFacts) → IsAmong v z.anchors.items
      → (wanted : Wanted) × IsVoucherOf basis (rightmost name n) v.number wanted
      × ((w : WhyEntry) → v.why ≡ Some w → IsVoucherFault basis.rrsets (rightmost name n) wanted w)
  anchor_vouches v among =
      let zone = rightmost name n in
      let one = anchor_there basis.rrsets zone 1 basis.anchors z.anchors.items v facts.anchors among in
      let wanted = anchor_wanted one.anchor in (
        wanted,
        subst (λ (number_is : EntryNumber). IsVoucherOf basis zone number_is wanted) (sym one.are.number_is) (record {
          anchor = one.anchor;
          numbered = numbered_next basis.anchors one.i one.anchor one.at;
          owner = one.owner;
          asks = refl;
        }),
        λ w is. first_is (λ x. IsVoucherFault basis.rrsets zone wanted x) voucher_faults v.why w one.are.fault is,
      )

  -- ---- what vouches for keys, as it is known

  -- it is one of the anchors, or of the records of a DS RRset
  pub record VoucherKnown (wanted : Wanted) : Type 0 where
    pub v : VoucherFacts
    pub number_is : EntryNumber
    pub are_facts : AreVoucherFacts basis.rrsets (rightmost name n) number_is wanted v
    pub unfit : (r : DnskeyFacts) (held : HeldKey) → is_vouched z (signings r) ≡ false → IsAmong held r.keys.items
        → fits v (signing r held) ≡ false

  group_unfit : (group : List VoucherFacts) (v : VoucherFacts) (r : DnskeyFacts) (held : HeldKey) → IsAmong v group
      → is_fitted group (signings r) ≡ false
      → IsAmong held r.keys.items → fits v (signing r held) ≡ false
  group_unfit group v r held among none key =
      none_passes (fits v) (signings r) (signing r held)
      (none_passes (λ (each : VoucherFacts). list_any (fits each) (signings r)) group v none among)
      (among_map (signing r) r.keys.items held key)

  known_voucher : (number_is : EntryNumber) (wanted : Wanted) (zone : Labels) → SameName zone (rightmost name n)
      → IsVoucherOf basis zone number_is wanted
      → VoucherKnown wanted
  known_voucher (number.Anchor a) wanted other same vouches =
      let zone = rightmost name n in
      let found = anchor_known basis.rrsets zone 1 basis.anchors z.anchors.items vouches.anchor facts.anchors
      (numbered_among basis.anchors a vouches.anchor vouches.numbered) (vouches.owner ∙ same) in record {
        v = found.known;
        number_is = found.n;
        are_facts = subst (λ (w : Wanted). AreVoucherFacts basis.rrsets zone found.n w found.known) (sym vouches.asks) found.are;
        unfit = λ r held none key. group_unfit z.anchors.items found.known r held (among_of found.known z.anchors.items found.among)
            (neither (is_fitted z.anchors.items (signings r)) _ none).0 key;
      }
  known_voucher (number.Ds record_number) wanted other same vouches =
      let zone = rightmost name n in
      let k = record_number.rrset in
      let in_list = (numbers_are basis.rrsets zone 43 (numbers_at basis.rrsets zone 43) refl).all k
      (record { rrset = vouches.rrset; is_rrset = vouches.numbered; owner = vouches.owner ∙ same; same_type = vouches.rtype }) in
      let found = zip_right (AreDsFacts basis zone) (numbers_at basis.rrsets zone 43) z.ds.items k facts.ds in_list in
      let its = found.2 in
      let set : its.set ≡ vouches.rrset = one_numbered basis.rrsets k its.set vouches.rrset its.numbered vouches.numbered in
      let canonical : vouches.placed.canonical ≡ its.canonical =
      canonical_unique vouches.rrset.rdata vouches.placed.canonical its.canonical vouches.placed.in_order
      (subst (λ (r : ReceivedRrset). IsCanonical r.rdata its.canonical) set its.in_order) in
      let records : its.records ≡ vouches.records =
      same_ds vouches.rrset.rdata its.records vouches.records
      (subst (λ (r : ReceivedRrset). AllZip IsDs r.rdata its.records) set its.read) vouches.all in
      let stands : Contains its.canonical vouches.rdata =
      subst (λ (each : List (List ℕ)). Contains each vouches.rdata) canonical
      (numbered_among vouches.placed.canonical record_number.place vouches.rdata vouches.placed.numbered) in
      let known = record_known basis.rrsets zone k its.records 1 its.canonical found.0.records.items vouches.rdata vouches.ds its.each
      stands vouches.read in
      record {
        v = known.known;
        number_is = known.n;
        are_facts = subst (λ (w : Wanted). AreVoucherFacts basis.rrsets zone known.n w known.known) (sym vouches.asks)
            (subst (λ (ds : List Ds). AreVoucherFacts basis.rrsets zone known.n (by_digest ds vouches.ds) known.known) records known.are);
        unfit = λ r held none key. group_unfit found.0.records.items known.known r held
            (among_of known.known found.0.records.items known.among)
            (none_passes (λ (ds : DsFacts). is_fitted ds.records.items (signings r)) z.ds.items found.0
            (neither (is_fitted z.anchors.items (signings r)) _ none).1 (among_of found.0 z.ds.items found.1)) key;
      }

  -- ---- DNSKEY RRsets

  pub record DnskeyThere (r : DnskeyFacts) : Type 0 where
    pub k : ℕ
    pub its : AreDnskeyFacts basis (rightmost name n) k r
    pub it_is : ItIsAt (rightmost name n) 48 its.set

  dnskey_there : (r : DnskeyFacts) → IsAmong r z.dnskeys.items → DnskeyThere r
  dnskey_there r among =
      let zone = rightmost name n in
      let of = zip_left (AreDnskeyFacts basis zone) (numbers_at basis.rrsets zone 48) z.dnskeys.items r facts.dnskeys
      (contains_of r z.dnskeys.items among) in
      record { k = of.0; its = of.2; it_is = it_is_at basis.rrsets zone 48 of.0 of.2.set of.1 of.2.numbered }

  some_voucher : has_none z ≡ false → (zone : Labels) → SameName (rightmost name n) zone
      → (number_is : EntryNumber) × (wanted : Wanted) × IsVoucherOf basis zone number_is wanted
  some_voucher some zone same = by (is_none z.anchors.items) refl
    where
      moved : (number_is : EntryNumber) (wanted : Wanted) → IsVoucherOf basis (rightmost name n) number_is wanted
          → IsVoucherOf basis zone number_is wanted
      moved (number.Anchor a) wanted is = record { anchor = is.anchor; numbered = is.numbered; owner = is.owner ∙ same; asks = is.asks }
      moved (number.Ds record_number) wanted is = record {
        rrset = is.rrset;
        numbered = is.numbered;
        owner = is.owner ∙ same;
        rtype = is.rtype;
        records = is.records;
        all = is.all;
        rdata = is.rdata;
        placed = is.placed;
        ds = is.ds;
        read = is.read;
        asks = is.asks;
      }

      by_ds : is_none z.ds.items ≡ false → (number_is : EntryNumber) × (wanted : Wanted) × IsVoucherOf basis zone number_is wanted
      by_ds has =
          let ds = first_of z.ds.items has in
          let there = ds_there ds.0 ds.1 in
          let its = there.its in
          let rdata = first_in its.set.rdata (formed_at basis.rrsets there.k its.set formed its.numbered).not_empty in
          let listed_there = (its.in_order.members rdata.0).1 rdata.1 in
          let place = at_some its.canonical rdata.0 listed_there in
          let read = zip_right IsDs its.set.rdata its.records rdata.0 its.read rdata.1 in (
            number.Ds (record { rrset = there.k; place = 1 + place.0 }),
            by_digest its.records read.0,
            record {
              rrset = its.set;
              numbered = its.numbered;
              owner = there.it_is.owner ∙ same;
              rtype = there.it_is.rtype_is;
              records = its.records;
              all = its.read;
              rdata = rdata.0;
              placed = record {
                canonical = its.canonical;
                in_order = its.in_order;
                numbered = numbered_next its.canonical place.0 rdata.0
                    place.1;
              };
              ds = read.0;
              read = read.2;
              asks = refl;
            },
          )

      by : (b : Bool) → is_none z.anchors.items ≡ b → (number_is : EntryNumber) × (wanted : Wanted)
          × IsVoucherOf basis zone number_is wanted
      by true none = by_ds (one_off (is_none z.anchors.items) (is_none z.ds.items) some none)
      by false has =
          let v = first_of z.anchors.items has in
          let vouches = anchor_vouches v.0 v.1 in
          (v.0.number, vouches.0, moved v.0.number vouches.0 vouches.1)

  set_told : (r : DnskeyFacts) → DnskeyThere r → has_none z ≡ false → is_vouched z (signings r) ≡ false → IsSetTold basis r.number
  set_told r there some unfit =
      let its = there.its in
      let same : SameName its.set.owner (rightmost name n) = there.it_is.owner in
      subst (IsSetTold basis) (sym its.number) (record {
        set = its.set;
        same = its.numbered;
        is = record {
          set = its.set;
          numbered = its.numbered;
          rtype = there.it_is.rtype_is;
          owner = refl;
          some = some_voucher some its.set.owner (sym same);
          none = λ number_is wanted key vouches stands fit.
              let known = known_voucher number_is wanted its.set.owner same vouches in
              let here = (its.in_order.members key.rdata).1 stands.among in
              let has = has_held basis (rightmost name n) there.k its.set 1 its.canonical r.keys.items key.rdata its.keys here in
              let held = has.is in
              let one : held.key ≡ key = same_record its.set held.key key held.stands stands held.rdata_is in
              not_fitting basis.rrsets (rightmost name n) known.number_is wanted known.v known.are_facts r has.held held.key held.placed
              (ap (λ (name_is : KeyName). name_is.tag.0) held.name ∙ ap key_tag_of (sym held.rdata_is))
              (ap (λ (name_is : KeyName). name_is.algorithm.0) held.name)
              (known.unfit r has.held unfit (among_of has.held r.keys.items has.among))
              (subst (λ (each : DnskeyRecord). Fits basis.rrsets (rightmost name n) wanted each) (sym one)
              (fits_moves basis.rrsets its.set.owner (rightmost name n) wanted key same fit));
        };
      })

  -- ---- the zone

  pub zone_true : (line : Told) → IsOfZone zones n z line → IsTold basis name line
  zone_true line (no_anchor off) = λ has. false≢true (sym off ∙ facts.anchored.1 (record { anchor = has.0; among = has.1; above = has.2 }))
  zone_true line (no_dnskey none) = λ has.
      let zone = rightmost name n in
      let one = listed basis.rrsets zone 48 has in
      none_there (AreDnskeyFacts basis zone) (numbers_at basis.rrsets zone 48) z.dnskeys.items one.0 facts.dnskeys none one.1
  zone_true line (no_ds none) =
      let zone = rightmost name n in
      let both = both_true (is_none z.anchors.items) (is_none z.ds.items) none in (
        λ has.
            let found = anchor_known basis.rrsets zone 1 basis.anchors z.anchors.items has.0 facts.anchors has.1 has.2 in
            no_member z.anchors.items found.known both.0 found.among,
        λ has.
            let one = listed basis.rrsets zone 43 has in
            none_there (AreDsFacts basis zone) (numbers_at basis.rrsets zone 43) z.ds.items one.0 facts.ds both.1 one.1,
      )
  zone_true line (of_anchor v w among is) =
      let vouches = anchor_vouches v among in
      record { zone = rightmost name n; wanted = vouches.0; vouches = vouches.1; is = vouches.2 w is }
  zone_true line (of_record ds v w in_zone among is) =
      let vouches = ds_vouches ds (ds_there ds in_zone) v among in
      record { zone = rightmost name n; wanted = vouches.0; vouches = vouches.1; is = vouches.2 w is }
  zone_true line (of_ds ds x in_zone of) =
      let there = ds_there ds in_zone in
      let its = there.its.rrset in
      let set = one_numbered basis.rrsets there.k there.its.set its.rrset there.its.numbered its.numbered in
      let owner : SameName its.rrset.owner (rightmost name n) = subst (λ (r : ReceivedRrset). SameName r.owner (rightmost name n)) set
      there.it_is.owner in
      rrset_true basis name t zones are formed there.k ds.rrset its
      (at_or_below_respects name name (rightmost name n) its.rrset.owner refl (sym owner) (rightmost_above name n)) line of
  zone_true line (without_voucher r among some unfit) = set_told r (dnskey_there r among) some unfit
  zone_true line (of_key r held x among key of) =
      let there = dnskey_there r among in
      key_true basis name (rightmost name n) there.k r there.its (formed_at basis.rrsets there.k there.its.set formed there.its.numbered)
      held key line of

-- what is told of zones is so
pub zones_true : (basis : Basis) (name : Labels) (t : ℕ) (zones : List ZoneFacts) → AreZoneFacts basis name t zones
    → AllByRecursion IsWellFormed basis.rrsets
    → (line : Told) → IsOfZones zones line → IsTold basis name line
zones_true basis name t zones are formed line of = zone_true basis name t zones are formed of.n of.z of.at line of.of
