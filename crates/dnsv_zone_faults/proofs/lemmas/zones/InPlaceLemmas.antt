-- What zones name is there.
use Rattle.std.proofs.Common.{◌≡◌, ◌-◌, ◌<◌, ◌≤◌, ℕ, zero, suc, false, ⊎_elim, List, [], ◌∷◌, Some, length, refl, sym, subst, arith}
use Rattle.std.proofs.lemmas.Bool.{cases_lt}
use Rattle.std.proofs.lemmas.List.Elements.{Contains-append_cases}
use Rattle.std.proofs.lemmas.Option.{slice_get_within}
use Rattle.std.specs.Prelude.{Contains, slice_get}
use Rattle.std.specs.List.{AllByRecursion}
use Rattle.dnsv_names.specs.Name.{Labels, IsAtOrBelow, SameName, rightmost}
use Rattle.dnsv_names.specs.Tree.AncestorLaws.{rightmost_above, rightmost_length, rightmost_same}
use Rattle.dnsv_names.specs.Tree.TreeLaws.{at_or_below_length, at_or_below_or_not, at_or_below_respects, at_or_below_trans, below_length, same_labels}
use Rattle.dnsv_records.specs.declared.rrsig.Rrsig.{Rrsig}
use Rattle.dnsv_canonical.specs.Index.{numbers_at}
use Rattle.dnsv_canonical.specs.Rdata.{IsWellFormed}
use Rattle.dnsv_canonical.specs.Rrsets.{IsNumbered, ReceivedRrset}
use Rattle.dnsv_canonical.proofs.OrderLemmas.{each_of, zip_from}
use Rattle.dnsv_verifier.specs.Admissible.{MaySign}
use Rattle.dnsv_chain.specs.Basis.{Basis}
use Rattle.dnsv_canonical.proofs.NumberLemmas.{each_number, IsOneAt, one_numbered}
use Rattle.dnsv_rrsets.proofs.LawLemmas.{first_appearances_members}
use Rattle.dnsv_mending.specs.InPlace.{IsInPlace, IsRrsetInPlace, IsSignerInPlace}
use Rattle.dnsv_mending.specs.Mend.{is_none}
use Rattle.dnsv_mending.specs.Ways.{IsAmong}
use Rattle.dnsv_mending.specs.declared.facts.keys.HeldKey.{HeldKey}
use Rattle.dnsv_mending.specs.declared.facts.signature.SignatureFacts.{SignatureFacts}
use Rattle.dnsv_mending.specs.declared.facts.zone.DsFacts.{DsFacts}
use Rattle.dnsv_mending.specs.declared.facts.zone.ZoneFacts.{ZoneFacts}
use Rattle.dnsv_zone_faults.specs.Dnskeys.{AreDnskeyFacts, AreHeldKeys}
use Rattle.dnsv_zone_faults.specs.Groups.{AreDsFacts}
use Rattle.dnsv_zone_keys.specs.Keys.{AreStanding, IsKeyPlaced}
use Rattle.dnsv_faults.specs.Signatures.{AreSignatureFacts, IsNamedKey}
use Rattle.dnsv_zone_faults.specs.Zones.{AreZoneFacts, IsHolder, IsZoneKeyFacts}
use Rattle.dnsv_zone_faults.proofs.lemmas.zones.ClosedLemmas.{among_of, contains_of, not_true}
use Rattle.dnsv_zone_faults.proofs.lemmas.zones.PlaceLemmas.{at_some}
use Rattle.dnsv_zone_faults.proofs.lemmas.zones.TrustLemmas.{numbered_among, zip_left}
use Rattle.dnsv_zone_keys.proofs.lemmas.ZoneKeyLemmas.{one_zone_keys, placed_same}

-- the RRset that a record stands in
pub record StandsIn (rrsets : List ReceivedRrset) (numbers : List ℕ) (rdata : List ℕ) : Type 0 where
  pub k : ℕ
  pub listed : Contains numbers k
  pub set : ReceivedRrset
  pub numbered : IsNumbered rrsets k set
  pub holds : Contains set.rdata rdata

pub stands_in : (rrsets : List ReceivedRrset) (numbers : List ℕ) (standing : List (List ℕ)) (rdata : List ℕ) → AreStanding rrsets numbers standing
    → Contains standing rdata → StandsIn rrsets numbers rdata
stands_in rrsets [] standing rdata stand there =
    absurd (let none = subst (λ (all : List (List ℕ)). Contains all rdata) stand there in let within = none.1 in omega (arith, within))
stands_in rrsets (n ∷ numbers) standing rdata stand there = ⊎_elim
    (λ (here : Contains stand.0 rdata).
    let its = stand.2 in
    record { k = n; listed = (0, omega arith, refl); set = its.rrset; numbered = its.numbered; holds = (its.canonical.members rdata).0 here })
    (λ (later : Contains stand.1 rdata).
    let rest = stands_in rrsets numbers stand.1 rdata stand.3 later in
    record {
      k = rest.k;
      listed = (suc rest.listed.0, let within = rest.listed.1 in omega (arith, within), rest.listed.2);
      set = rest.set;
      numbered = rest.numbered;
      holds = rest.holds;
    })
    (Contains-append_cases stand.0 stand.1 rdata (subst (λ (all : List (List ℕ)). Contains all rdata) stand.4 there))

some_held : (basis : Basis) (zone : Labels) (k : ℕ) (set : ReceivedRrset) (n : ℕ) (canonical : List (List ℕ)) (keys : List HeldKey) (rdata : List ℕ)
    → AreHeldKeys basis zone k set n canonical keys → Contains canonical rdata → is_none keys ≡ false
some_held basis zone k set n [] keys rdata are there = absurd (let within = there.1 in omega (arith, within))
some_held basis zone k set n (x ∷ xs) [] rdata are there = absurd are
some_held basis zone k set n (x ∷ xs) (y ∷ keys) rdata are there = refl

pub first_of : {X : Type 0} (xs : List X) → 0 < length xs → (x : X) × Contains xs x
first_of [] some = absurd (omega (arith, some))
first_of (x ∷ xs) some = (x, (0, omega arith, refl))

module _ (basis : Basis) (name : Labels) (t : ℕ) (zones : List ZoneFacts) (are : AreZoneFacts basis name t zones) where
  -- a signature whose signer is at or above the name
  pub signer_there : (k : ℕ) (rrset : ReceivedRrset) (s : ℕ) (facts : SignatureFacts) (its : AreSignatureFacts basis k rrset s facts)
      → IsAtOrBelow name its.rrsig.signer → (n : ℕ) → facts.signer < n → IsSignerInPlace zones n facts
  signer_there k rrset s facts its above n below =
      let same_name = rightmost_same name its.rrsig.signer above in
      let fewer = at_or_below_length name its.rrsig.signer above in
      let number = its.signer in
      let count = are.count in
      let inside : facts.signer < length zones = omega (arith, fewer, number, count) in
      let z : ZoneFacts = got zones facts.signer inside in
      let at : slice_get zones facts.signer ≡ Some z = got_is zones facts.signer inside in
      let zone : Labels = rightmost name facts.signer in
      let same : SameName its.rrsig.signer zone = subst (λ (m : ℕ). SameName its.rrsig.signer (rightmost name m)) (sym number) (sym same_name) in
      let keys = (are.each facts.signer z at).keys in
      record {
        z = z;
        above = below;
        is = at;
        keys = λ key among.
            let named = each_of (IsNamedKey basis rrset its.rrsig) facts.keys.items key its.keys.each (contains_of key facts.keys.items among) in
            let placed : IsKeyPlaced basis.rrsets zone key.key named.key = placed_same basis.rrsets its.rrsig.signer zone key.key named.key same named.placed in
            let lists = one_zone_keys basis.rrsets zone placed.keys keys.keys placed.are keys.are in
            let there : slice_get keys.keys key.key ≡ Some named.key.rdata = subst (λ (each : List (List ℕ)). slice_get each key.key ≡ Some named.key.rdata) lists placed.at in
            let one = zip_from (IsZoneKeyFacts basis zone) keys.keys z.keys.items key.key named.key.rdata keys.each there in
            (one.0, one.1);
      }
    where
      got : (zs : List ZoneFacts) (i : ℕ) → i < length zs → ZoneFacts
      got [] i inside = absurd (omega (arith, inside))
      got (z ∷ zs) zero inside = z
      got (z ∷ zs) (suc i) inside = got zs i (omega (arith, inside))

      got_is : (zs : List ZoneFacts) (i : ℕ) (inside : i < length zs) → slice_get zs i ≡ Some (got zs i inside)
      got_is [] i inside = absurd (omega (arith, inside))
      got_is (z ∷ zs) zero inside = refl
      got_is (z ∷ zs) (suc i) inside = got_is zs i (omega (arith, inside))

  -- the signer of one whose signer may be the zone of the RRset
  pub may_be : (k : ℕ) (rrset : ReceivedRrset) (s : ℕ) (facts : SignatureFacts) (its : AreSignatureFacts basis k rrset s facts) → facts.faults.signer ≡ false
      → (MaySign its.rrsig.signer rrset.rtype rrset.owner → ⊥) → ⊥
  may_be k rrset s facts its off never = not_true facts.faults.signer off (its.faults.signer.1 never)

  pub at_or_above : (k : ℕ) (rrset : ReceivedRrset) (s : ℕ) (facts : SignatureFacts) (its : AreSignatureFacts basis k rrset s facts) → facts.faults.signer ≡ false
      → IsAtOrBelow rrset.owner its.rrsig.signer
  at_or_above k rrset s facts its off = ⊎_elim
      (λ (yes : IsAtOrBelow rrset.owner its.rrsig.signer). yes)
      (λ (no : (IsAtOrBelow rrset.owner its.rrsig.signer → ⊥)). absurd (may_be k rrset s facts its off (λ may. no may.above)))
      (at_or_below_or_not rrset.owner its.rrsig.signer)

  pub in_place : AllByRecursion IsWellFormed basis.rrsets → IsInPlace zones
  in_place formed = record {
    keyed = λ n z r at among.
        let zone : Labels = rightmost name n in
        let of = zip_left (AreDnskeyFacts basis zone) (numbers_at basis.rrsets zone 48) z.dnskeys.items r (are.each n z at).dnskeys (contains_of r z.dnskeys.items among) in
        let its = of.2 in
        let well = each_of IsWellFormed basis.rrsets its.set formed (numbered_among basis.rrsets of.0 its.set its.numbered) in
        let first = first_of its.set.rdata well.not_empty in
        some_held basis zone of.0 its.set 1 its.canonical r.keys.items first.0 its.keys ((its.in_order.members first.0).1 first.1);
    held = λ n z key at among.
        let zone : Labels = rightmost name n in
        let facts = are.each n z at in
        let keys = facts.keys in
        let of = zip_left (IsZoneKeyFacts basis zone) keys.keys z.keys.items key keys.each (contains_of key z.keys.items among) in
        let appears = subst (λ (each : List (List ℕ)). Contains each of.0) keys.are.once of.1 in
        let stands = stands_in basis.rrsets (numbers_at basis.rrsets zone 48) keys.are.standing of.0 keys.are.stand ((first_appearances_members keys.are.standing of.0).0 appears) in
        let place = at_some (numbers_at basis.rrsets zone 48) stands.k stands.listed in
        let holder : IsHolder basis.rrsets zone of.0 place.0 = record { k = stands.k; at = place.1; set = stands.set; numbered = stands.numbered; holds = stands.holds } in
        let one = zip_from (AreDnskeyFacts basis zone) (numbers_at basis.rrsets zone 48) z.dnskeys.items place.0 stands.k facts.dnskeys place.1 in
        record {
          h = place.0;
          r = one.0;
          holds = among_of place.0 key.holders.items ((of.2.holders place.0).1 holder);
          stands = one.1;
        };
    signed = λ n z ds at among s among_s off. ds_signed n z ds at among s among_s off;
  }
    where
      ds_signed : (n : ℕ) (z : ZoneFacts) (ds : DsFacts) → slice_get zones n ≡ Some z → IsAmong ds z.ds.items → IsRrsetInPlace zones n ds.rrset
      ds_signed n z ds at among s among_s off =
          let zone : Labels = rightmost name n in
          let of = zip_left (AreDsFacts basis zone) (numbers_at basis.rrsets zone 43) z.ds.items ds (are.each n z at).ds (contains_of ds z.ds.items among) in
          let k : ℕ = of.0 in
          let rr = of.2.rrset in
          let one = zip_left (λ (signature : ℕ × Rrsig) known. AreSignatureFacts basis k rr.rrset signature.0 known) rr.order ds.rrset.signatures.items s rr.each
          (contains_of s ds.rrset.signatures.items among_s) in
          let its = one.2 in
          let here = each_of (IsOneAt basis.rrsets zone 43) (numbers_at basis.rrsets zone 43) k (each_number basis.rrsets zone 43) of.1 in
          let same = one_numbered basis.rrsets k here.rrset rr.rrset here.is_rrset rr.numbered in
          let owner : SameName rr.rrset.owner zone = subst (λ (r : ReceivedRrset). SameName r.owner zone) same here.owner in
          let rtype : rr.rrset.rtype ≡ 43 = subst (λ (r : ReceivedRrset). r.rtype ≡ 43) same here.same_type in
          let up : IsAtOrBelow zone its.rrsig.signer =
          at_or_below_respects rr.rrset.owner zone its.rrsig.signer its.rrsig.signer owner refl (at_or_above k rr.rrset one.0.0 s its off) in
          let above = at_or_below_trans name zone its.rrsig.signer (rightmost_above name n) up in
          let inside = slice_get_within zones n z at in
          let count = are.count in
          let labels = rightmost_length name n (omega (arith, inside, count)) in
          let as_many = same_labels rr.rrset.owner zone owner in
          let number = its.signer in
          let below : s.signer < n = ⊎_elim
          (λ (yes : s.signer < n). yes)
          (λ (no : n ≤ s.signer). absurd (may_be k rr.rrset one.0.0 s its off (λ may.
          let fewer = below_length rr.rrset.owner its.rrsig.signer (may.ds rtype) in
          omega (arith, fewer, labels, as_many, number, no))))
          (cases_lt s.signer n) in
          signer_there k rr.rrset one.0.0 s its above n below
