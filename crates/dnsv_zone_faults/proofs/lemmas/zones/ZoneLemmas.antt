-- What is so of the keys of a zone, and of zones one after another.
use Rattle.std.proofs.Common.{◌≡◌, ◌+◌, ℕ, zero, suc, ⊎_elim, List, [], ◌∷◌, ◌++◌, Some, length, refl, sym, ap, ◌∙◌, subst, arith, length-append}
use Rattle.std.specs.Prelude.{Contains, slice_get}
use Rattle.std.specs.List.{AllZip}
use Rattle.dnsv_names.specs.Name.{Labels, SameName, rightmost}
use Rattle.dnsv_canonical.specs.Index.{numbers_at}
use Rattle.dnsv_canonical.specs.Rrsets.{IsNumbered, ReceivedRrset}
use Rattle.dnsv_canonical.proofs.OrderLemmas.{each_of, zip_at, zip_from}
use Rattle.dnsv_chain.specs.Trusted.{IsTrusted}
use Rattle.dnsv_chain.proofs.TrustedLemmas.{trusted_among, trusted_rtype}
use Rattle.dnsv_chain.specs.Basis.{Basis}
use Rattle.dnsv_canonical.proofs.NumberLemmas.{each_number, IsOneAt, one_numbered}
use Rattle.dnsv_mending.specs.declared.facts.keys.DnskeyFacts.{DnskeyFacts}
use Rattle.dnsv_mending.specs.declared.facts.keys.HeldKey.{HeldKey}
use Rattle.dnsv_mending.specs.declared.facts.zone.ZoneFacts.{ZoneFacts}
use Rattle.dnsv_mending.specs.declared.facts.zone.ZoneKey.{ZoneKey}
use Rattle.dnsv_zone_faults.specs.Dnskeys.{AreAllDnskeyFacts, AreDnskeyFacts, AreHeldKeys, IsHeldKey}
use Rattle.dnsv_zone_faults.specs.Dnskeys.DnskeySearch.{IsSetOf}
use Rattle.dnsv_zone_keys.specs.Keys.{AreZoneKeys}
use Rattle.dnsv_zone_faults.specs.Zones.{AreFactsOfZone, AreZoneFacts, AreZoneKeyFacts, IsHolder, IsZoneKeyFacts}
use Rattle.dnsv_zone_faults.specs.Zones.HolderSearch.{AreHolders, AreHoldersOfEach, Holds}
use Rattle.dnsv_zone_faults.proofs.lemmas.zones.HolderLemmas.{at_end}
use Rattle.dnsv_zone_faults.proofs.lemmas.zones.PlaceLemmas.{at_some, contains_at, one_place, set_number}
use Rattle.dnsv_zone_faults.proofs.lemmas.zones.TrustLemmas.{number_of}
use Rattle.dnsv_zone_keys.proofs.lemmas.ZoneKeyLemmas.{one_zone_keys}

-- ---- the keys in a DNSKEY RRset

pub record IsHeldAt (basis : Basis) (zone : Labels) (k : ℕ) (set : ReceivedRrset) (held : HeldKey) : Type 0 where
  pub place : ℕ
  pub rdata : List ℕ
  pub is : IsHeldKey basis zone k set place rdata held

pub held_at : (basis : Basis) (zone : Labels) (k : ℕ) (set : ReceivedRrset) (place : ℕ) (canonical : List (List ℕ)) (keys : List HeldKey) (held : HeldKey)
    → AreHeldKeys basis zone k set place canonical keys → Contains keys held → IsHeldAt basis zone k set held
held_at basis zone k set place [] [] held are there = absurd (let within = there.1 in omega (arith, within))
held_at basis zone k set place [] (y ∷ keys) held are there = absurd are
held_at basis zone k set place (x ∷ xs) [] held are there = absurd are
held_at basis zone k set place (x ∷ xs) (y ∷ keys) held are (zero, within, at) =
    record { place = place; rdata = x; is = subst (λ (h : HeldKey). IsHeldKey basis zone k set place x h) at are.0 }
held_at basis zone k set place (x ∷ xs) (y ∷ keys) held are (suc i, within, at) =
    held_at basis zone k set (place + 1) xs keys held are.1 (i, omega (arith, within), at)

-- the one with the RDATA
pub record HasHeld (basis : Basis) (zone : Labels) (k : ℕ) (set : ReceivedRrset) (rdata : List ℕ) (keys : List HeldKey) : Type 0 where
  pub held : HeldKey
  pub among : Contains keys held
  pub place : ℕ
  pub is : IsHeldKey basis zone k set place rdata held

pub has_held : (basis : Basis) (zone : Labels) (k : ℕ) (set : ReceivedRrset) (place : ℕ) (canonical : List (List ℕ)) (keys : List HeldKey) (rdata : List ℕ)
    → AreHeldKeys basis zone k set place canonical keys → Contains canonical rdata → HasHeld basis zone k set rdata keys
has_held basis zone k set place [] keys rdata are there = absurd (let within = there.1 in omega (arith, within))
has_held basis zone k set place (x ∷ xs) [] rdata are there = absurd are
has_held basis zone k set place (x ∷ xs) (y ∷ keys) rdata are (zero, within, at) = record {
  held = y;
  among = (0, omega arith, refl);
  place = place;
  is = subst (λ (r : List ℕ). IsHeldKey basis zone k set place r y) at are.0;
}
has_held basis zone k set place (x ∷ xs) (y ∷ keys) rdata are (suc i, within, at) =
    let rest = has_held basis zone k set (place + 1) xs keys rdata are.1 (i, omega (arith, within), at) in record {
      held = rest.held;
      among = (suc rest.among.0, let inside = rest.among.1 in omega (arith, inside), rest.among.2);
      place = rest.place;
      is = rest.is;
    }

-- ---- the keys of a zone

module _ (basis : Basis) (zone : Labels) (all : List (List ℕ)) (are_all : AreZoneKeys basis.rrsets zone all) (dnskeys : List DnskeyFacts)
    (are : AreAllDnskeyFacts basis zone dnskeys) (p : ℕ) (rdata : List ℕ) (at : slice_get all p ≡ Some rdata) where
  -- an RRset that holds the key
  holder_is : (h : ℕ) (dnskey : DnskeyFacts) → Holds dnskeys p h dnskey
      → (k : ℕ) × (slice_get (numbers_at basis.rrsets zone 48) h ≡ Some k) × ((its : AreDnskeyFacts basis zone k dnskey) × Contains its.set.rdata rdata)
  holder_is h dnskey holds =
      let one = zip_at (AreDnskeyFacts basis zone) (numbers_at basis.rrsets zone 48) dnskeys h dnskey are holds.at in
      let its = one.2 in
      let known = held_at basis zone one.0 its.set 1 its.canonical dnskey.keys.items holds.held its.keys holds.among in
      let key = known.is.key in
      let keys = one_zone_keys basis.rrsets zone known.is.placed.keys all known.is.placed.are are_all in
      let there : slice_get all p ≡ Some key.rdata =
      subst (λ (n : ℕ). slice_get all n ≡ Some key.rdata) holds.key (subst (λ (each : List (List ℕ)). slice_get each holds.held.key ≡ Some key.rdata) keys known.is.placed.at) in
      let same : key.rdata ≡ rdata = let both : Some key.rdata ≡ Some rdata = sym there ∙ at in cc both in
      (one.0, one.1, (its, subst (λ (r : List ℕ). Contains its.set.rdata r) same known.is.stands.among))

  is_holder : (h : ℕ) → IsHolder basis.rrsets zone rdata h → (dnskey : DnskeyFacts) × Holds dnskeys p h dnskey
  is_holder h is =
      let one = zip_from (AreDnskeyFacts basis zone) (numbers_at basis.rrsets zone 48) dnskeys h is.k are is.at in
      let its = one.2 in
      let same = one_numbered basis.rrsets is.k its.set is.set its.numbered is.numbered in
      let here = (its.in_order.members rdata).1 (subst (λ (r : ReceivedRrset). Contains r.rdata rdata) (sym same) is.holds) in
      let has = has_held basis zone is.k its.set 1 its.canonical one.0.keys.items rdata its.keys here in
      let placed = has.is.placed in
      let keys = one_zone_keys basis.rrsets zone placed.keys all placed.are are_all in
      let there : slice_get all has.held.key ≡ Some rdata =
      subst (λ (each : List (List ℕ)). slice_get each has.held.key ≡ Some rdata) keys (placed.at ∙ ap (λ (r : List ℕ). Some r) has.is.rdata_is) in
      (one.0, record { at = one.1; held = has.held; among = has.among; key = one_place basis.rrsets zone all has.held.key p rdata are_all there at })

  pub key_facts : (facts : ZoneKey) → AreHolders dnskeys p facts → IsZoneKeyFacts basis zone rdata facts
  key_facts facts holders = record {
    trusted = (
      λ yes.
          let by = holders.trusted.0 yes in
          let is = holder_is by.h by.dnskey by.holds in
          let its = is.2.0 in
          let listed = contains_at (numbers_at basis.rrsets zone 48) by.h is.0 is.1 in
          let one = each_of (IsOneAt basis.rrsets zone 48) (numbers_at basis.rrsets zone 48) is.0 (each_number basis.rrsets zone 48) listed in
          let same = one_numbered basis.rrsets is.0 one.rrset its.set one.is_rrset its.numbered in
          record {
            set = its.set;
            trusted = its.trusted.0 by.trusted;
            owner = subst (λ (r : ReceivedRrset). SameName r.owner zone) same one.owner;
            among = is.2.1;
          },
      λ key.
          let number = number_of basis.rrsets key.set (trusted_among key.trusted) in
          let of : IsSetOf basis.rrsets zone number.0 key.set = record { numbered = number.1; owner = key.owner; rtype = trusted_rtype key.trusted } in
          let listed = at_some (numbers_at basis.rrsets zone 48) number.0 (set_number basis.rrsets zone number.0 key.set of) in
          let has = is_holder listed.0 (record { k = number.0; at = listed.1; set = key.set; numbered = number.1; holds = key.among }) in
          let its = zip_at (AreDnskeyFacts basis zone) (numbers_at basis.rrsets zone 48) dnskeys listed.0 has.0 are has.1.at in
          let number_is : its.0 ≡ number.0 = let both : Some its.0 ≡ Some number.0 = sym its.1 ∙ listed.1 in cc both in
          let same = one_numbered basis.rrsets number.0 its.2.set key.set (subst (λ (n : ℕ). IsNumbered basis.rrsets n its.2.set) number_is its.2.numbered) number.1 in
          holders.trusted.1 (record {
            h = listed.0;
            dnskey = has.0;
            holds = has.1;
            trusted = its.2.trusted.1 (subst (λ (r : ReceivedRrset). IsTrusted basis.meaning basis.moment basis.rrsets basis.anchors r) (sym same) key.trusted);
          }),
    );
    rising = holders.rising;
    holders = λ h. (
      λ there.
          let has = (holders.holders h).0 there in
          let is = holder_is h has.0 has.1 in
          record { k = is.0; at = is.1; set = is.2.0.set; numbered = is.2.0.numbered; holds = is.2.1 },
      λ is. (holders.holders h).1 (is_holder h is),
    );
  }

zip_by : {A B : Type 0} (R : A → B → Type 0) (xs : List A) (ys : List B) → length xs ≡ length ys
    → ((i : ℕ) (x : A) (y : B) → slice_get xs i ≡ Some x → slice_get ys i ≡ Some y → R x y) → AllZip R xs ys
zip_by R [] [] size each = tt
zip_by R [] (y ∷ ys) size each = absurd (omega (arith, size))
zip_by R (x ∷ xs) [] size each = absurd (omega (arith, size))
zip_by R (x ∷ xs) (y ∷ ys) size each = (each 0 x y refl refl, zip_by R xs ys (omega (arith, size)) (λ i a b at_a at_b. each (suc i) a b at_a at_b))

pub zone_keys_are : (basis : Basis) (zone : Labels) (all : List (List ℕ)) (dnskeys : List DnskeyFacts) (count : ℕ) (keys : List ZoneKey)
    → AreZoneKeys basis.rrsets zone all → AreAllDnskeyFacts basis zone dnskeys → count ≡ length all → AreHoldersOfEach dnskeys count keys
    → AreZoneKeyFacts basis zone keys
zone_keys_are basis zone all dnskeys count keys are_all are count_is each = record {
  keys = all;
  are = are_all;
  each = zip_by (IsZoneKeyFacts basis zone) all keys (sym count_is ∙ sym each.length_is)
      (λ i rdata facts at_all at_keys. key_facts basis zone all are_all dnskeys are i rdata at_all facts (each.each i facts at_keys));
}

-- ---- zones one after another

pub record AreZonesTo (basis : Basis) (name : Labels) (t n : ℕ) (zones : List ZoneFacts) : Type 0 where
  pub count : length zones ≡ n
  pub each : (m : ℕ) (facts : ZoneFacts) → slice_get zones m ≡ Some facts → AreFactsOfZone basis name t (rightmost name m) facts

pub no_zones : (basis : Basis) (name : Labels) (t : ℕ) (zones : List ZoneFacts) → zones ≡ [] → AreZonesTo basis name t 0 zones
no_zones basis name t zones none = record {
  count = ap length none;
  each = λ m facts at. absurd (let never : slice_get {X = ZoneFacts} [] m ≡ Some facts = subst (λ (each : List ZoneFacts). slice_get each m ≡ Some facts) none at in cc never);
}

pub more_zones : (basis : Basis) (name : Labels) (t n : ℕ) (old : List ZoneFacts) (zone : ZoneFacts) → AreZonesTo basis name t n old
    → AreFactsOfZone basis name t (rightmost name n) zone → AreZonesTo basis name t (n + 1) (old ++ zone ∷ [])
more_zones basis name t n old zone so_far one = record {
  count = length-append old (zone ∷ []) ∙ ap (λ (k : ℕ). k + 1) so_far.count;
  each = λ m facts at. ⊎_elim
      (λ (earlier : slice_get old m ≡ Some facts). so_far.each m facts earlier)
      (λ (last : (m ≡ length old) × (zone ≡ facts)).
      let place : n ≡ m = sym so_far.count ∙ sym last.0 in
      subst (λ (z : ZoneFacts). AreFactsOfZone basis name t (rightmost name m) z) last.1
      (subst (λ (k : ℕ). AreFactsOfZone basis name t (rightmost name k) zone) place one))
      (at_end old zone m facts at);
}

pub all_zones : (basis : Basis) (name : Labels) (t n : ℕ) (zones : List ZoneFacts) → n ≡ length name + 1 → AreZonesTo basis name t n zones
    → AreZoneFacts basis name t zones
all_zones basis name t n zones is so_far = record { count = so_far.count ∙ is; each = so_far.each }
