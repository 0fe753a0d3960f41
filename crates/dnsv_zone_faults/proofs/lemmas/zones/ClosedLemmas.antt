-- What follows from signatures and keys that are found is kept.
use Rattle.std.proofs.Common.{◌≡◌, ◌+◌, ℕ, zero, suc, Bool, true, false, inl, inr, List, [], ◌∷◌, ◌++◌, Some, map, refl, sym, ◌∙◌, subst, arith, IsTrue}
use Rattle.std.proofs.lemmas.Bool.{false≢true}
use Rattle.std.specs.Prelude.{Contains, slice_get}
use Rattle.std.specs.List.{list_any}
use Rattle.dnsv_names.specs.Name.{Labels, IsAtOrBelow, SameName, rightmost}
use Rattle.dnsv_names.specs.Tree.AncestorLaws.{rightmost_same}
use Rattle.dnsv_canonical.specs.Index.{numbers_at}
use Rattle.dnsv_canonical.specs.Rrsets.{IsNumbered, ReceivedRrset}
use Rattle.dnsv_canonical.proofs.OrderLemmas.{each_of, zip_at}
use Rattle.dnsv_canonical.specs.declared.number.SignatureNumber.{SignatureNumber}
use Rattle.dnsv_chain.specs.Trusted.{IsKeyOf, IsSecured}
use Rattle.dnsv_chain.proofs.TrustedLemmas.{trusted_rtype}
use Rattle.dnsv_chain.specs.Basis.{Basis}
use Rattle.dnsv_verifier.specs.Admissible.{DnskeyRecord, IsGood}
use Rattle.dnsv_mending.specs.Faults.{answer_lines, fault_lines, signature_lines, when}
use Rattle.dnsv_mending.specs.Mend.{is_none}
use Rattle.dnsv_mending.specs.Reasons.{IsClosedSignature}
use Rattle.dnsv_mending.specs.Ways.{IsAmong}
use Rattle.dnsv_mending.specs.Zone.{is_zone_trusted}
use Rattle.dnsv_mending.specs.declared.facts.keys.DnskeyFacts.{DnskeyFacts}
use Rattle.dnsv_mending.specs.declared.facts.signature.KeyAnswer.{KeyAnswer}
use Rattle.dnsv_mending.specs.declared.facts.signature.KeyAnswer.TheVariants as answer
use Rattle.dnsv_mending.specs.declared.facts.signature.NamedKey.{NamedKey}
use Rattle.dnsv_mending.specs.declared.facts.signature.SignatureFacts.{SignatureFacts}
use Rattle.dnsv_mending.specs.declared.facts.zone.ZoneFacts.{ZoneFacts}
use Rattle.dnsv_mending.specs.declared.facts.zone.ZoneKey.{ZoneKey}
use Rattle.dnsv_mending.specs.declared.told.Told.{Told}
use Rattle.dnsv_zone_keys.specs.Answers.{IsKeyAnswer}
use Rattle.dnsv_zone_faults.specs.Dnskeys.{AreDnskeyFacts}
use Rattle.dnsv_zone_keys.specs.Keys.{IsKeyPlaced, NamesKey, NamesZoneKey}
use Rattle.dnsv_faults.specs.Signatures.{AreSignatureFacts, IsNamedKey}
use Rattle.dnsv_zone_faults.specs.Zones.{AreZoneFacts, IsZoneKeyFacts}
use Rattle.dnsv_zone_faults.proofs.lemmas.zones.TrustLemmas.{zip_left}
use Rattle.dnsv_zone_keys.proofs.lemmas.ZoneKeyLemmas.{one_zone_keys, placed_same, same_numbers}

-- ---- lists

pub contains_of : {X : Type 0} (x : X) (xs : List X) → IsAmong x xs → Contains xs x
contains_of x [] among = absurd among
contains_of x (y ∷ xs) (inl same) = (0, omega arith, sym same)
contains_of x (y ∷ xs) (inr later) =
    let rest = contains_of x xs later in (suc rest.0, let within = rest.1 in omega (arith, within), rest.2)

pub among_of : {X : Type 0} (x : X) (xs : List X) → Contains xs x → IsAmong x xs
among_of x [] there = absurd (let within = there.1 in omega (arith, within))
among_of x (y ∷ xs) (zero, within, at) = inl (sym at)
among_of x (y ∷ xs) (suc i, within, at) = inr (among_of x xs (i, omega (arith, within), at))

none_left : {X : Type 0} (xs ys : List X) → xs ++ ys ≡ [] → xs ≡ []
none_left [] ys none = refl
none_left (x ∷ xs) ys none = absurd (cc none)

none_right : {X : Type 0} (xs ys : List X) → xs ++ ys ≡ [] → ys ≡ []
none_right [] ys none = none
none_right (x ∷ xs) ys none = absurd (cc none)

not_when : (b : Bool) (line : Told) → when b line ≡ [] → b ≡ false
not_when false line none = refl
not_when true line none = absurd (cc none)

pub not_true : (b : Bool) → b ≡ false → IsTrue b → ⊥
not_true b off on = false≢true (sym off ∙ on)

pub off_by : (b : Bool) → (IsTrue b → ⊥) → b ≡ false
off_by true never = absurd (never refl)
off_by false never = refl

-- ---- a signature

-- where nothing is wrong with it
module _ (facts : SignatureFacts) (clean : signature_lines facts ≡ []) where
  nothing_wrong : fault_lines facts.number facts.faults ≡ []
  nothing_wrong = none_left (fault_lines facts.number facts.faults) _ (none_left (fault_lines facts.number facts.faults ++ when facts.key_missing _) _ clean)

  pub may_sign : facts.faults.signer ≡ false
  may_sign = not_when facts.faults.signer _
      (none_right (when facts.faults.labels _) (when facts.faults.signer _)
      (none_left (when facts.faults.labels _ ++ when facts.faults.signer _) _
      (none_left ((when facts.faults.labels _ ++ when facts.faults.signer _) ++ when facts.faults.expanded _) _
      (none_left (((when facts.faults.labels _ ++ when facts.faults.signer _) ++ when facts.faults.expanded _) ++ when facts.faults.algorithm _) _
      (none_left ((((when facts.faults.labels _ ++ when facts.faults.signer _) ++ when facts.faults.expanded _) ++ when facts.faults.algorithm _) ++ _) _ nothing_wrong)))))

  pub key_there : facts.key_missing ≡ false
  key_there = not_when facts.key_missing _
      (none_right (fault_lines facts.number facts.faults) (when facts.key_missing _) (none_left (fault_lines facts.number facts.faults ++ when facts.key_missing _) _ clean))

  pub zone_key_there : facts.not_zone_key ≡ false
  zone_key_there = not_when facts.not_zone_key _ (none_right (fault_lines facts.number facts.faults ++ when facts.key_missing _) (when facts.not_zone_key _) clean)

pub good_by : (said : KeyAnswer) (n : SignatureNumber) → answer_lines n said ≡ [] → said ≡ answer.Good
good_by answer.Good n none = refl
good_by said n none = absurd (cc none)

-- a key of a zone with the RDATA of one that is trusted makes the signature count
module _ (basis : Basis) (name : Labels) (t : ℕ) (zones : List ZoneFacts) (are : AreZoneFacts basis name t zones) (k : ℕ) (rrset : ReceivedRrset)
    (numbered : IsNumbered basis.rrsets k rrset) (s : ℕ) (facts : SignatureFacts) (its : AreSignatureFacts basis k rrset s facts)
    (above : facts.faults.signer ≡ false → IsAtOrBelow name its.rrsig.signer) where
  signer_zone : facts.faults.signer ≡ false → SameName its.rrsig.signer (rightmost name facts.signer)
  signer_zone off =
      let same = rightmost_same name its.rrsig.signer (above off) in
      subst (λ (n : ℕ). SameName its.rrsig.signer (rightmost name n)) (sym its.signer) (sym same)

  named_closed : (z : ZoneFacts) (n : NamedKey) (key : ZoneKey) → slice_get zones facts.signer ≡ Some z → IsAmong n facts.keys.items
      → slice_get z.keys.items n.key ≡ Some key → key.is_trusted ≡ true → signature_lines facts ≡ [] → answer_lines facts.number n.answer ≡ []
      → facts.is_signed ≡ true
  named_closed z n key at among at_key trusted clean good =
      let zone : Labels = rightmost name facts.signer in
      let same = signer_zone (may_sign facts clean) in
      let zone_facts = are.each facts.signer z at in
      let named : IsNamedKey basis rrset its.rrsig n = each_of (IsNamedKey basis rrset its.rrsig) facts.keys.items n its.keys.each (contains_of n facts.keys.items among) in
      let placed : IsKeyPlaced basis.rrsets zone n.key named.key = placed_same basis.rrsets its.rrsig.signer zone n.key named.key same named.placed in
      let keys = zone_facts.keys in
      let one = zip_at (IsZoneKeyFacts basis zone) keys.keys z.keys.items n.key key keys.each at_key in
      let lists = one_zone_keys basis.rrsets zone placed.keys keys.keys placed.are keys.are in
      let there : slice_get keys.keys n.key ≡ Some named.key.rdata = subst (λ (each : List (List ℕ)). slice_get each n.key ≡ Some named.key.rdata) lists placed.at in
      let rdata : one.0 ≡ named.key.rdata = let both : Some one.0 ≡ Some named.key.rdata = sym one.1 ∙ there in cc both in
      let by = one.2.trusted.0 trusted in
      let key_is : DnskeyRecord = record { owner = by.set.owner; rdata = named.key.rdata; dnskey = named.key.dnskey } in
      let stands : IsKeyOf by.set key_is = record {
        rtype = trusted_rtype by.trusted;
        owner = refl;
        among = subst (λ (r : List ℕ). Contains by.set.rdata r) rdata by.among;
        is = named.placed.read;
      } in
      let answered = subst (λ (said : KeyAnswer). IsKeyAnswer basis.meaning basis.moment rrset its.rrsig named.key said) (good_by n.answer facts.number good) named.answered in
      let admissible = answered.admissible in
      let is_good : IsGood basis.meaning basis.moment rrset its.rrsig key_is = record {
        admissible = record {
          over = admissible.over;
          timely = admissible.timely;
          signer = admissible.signer;
          unexpanded = admissible.unexpanded;
          zone_key = record { owner = by.owner ∙ sym same; protocol = admissible.zone_key.protocol; zone_key = admissible.zone_key.zone_key };
          named = record { algorithm = admissible.named.algorithm; key_tag = admissible.named.key_tag; supported = admissible.named.supported };
        };
        entry = answered.entry;
        is = record {
          algorithm = answered.is.algorithm;
          key_field = answered.is.key_field;
          signed_data = answered.is.signed_data;
          signature = answered.is.signature;
        };
        valid = answered.says;
      } in
      let secured : IsSecured basis.meaning basis.moment basis.rrsets basis.anchors k s = record {
        rrset = rrset;
        numbered = numbered;
        rdata = its.its.rdata;
        signature = its.its.numbered;
        rrsig = its.rrsig;
        is = its.its.is;
        good = record { set = by.set; trusted = by.trusted; key = key_is; stands = stands; good = is_good };
      } in
      its.signed.1 secured

  no_zone_key : is_none facts.keys.items ≡ true → NamesZoneKey basis.rrsets its.rrsig → ⊥
  no_zone_key none names =
      let there = its.keys.all names.place names.key names.placed (record { named = names.named; zone_key = names.zone_key }) in
      empty facts.keys.items none names.place there
    where
      empty : (keys : List NamedKey) → is_none keys ≡ true → (place : ℕ) → Contains (map (λ (n : NamedKey). n.key) keys) place → ⊥
      empty [] is place among = let within = among.1 in omega (arith, within)
      empty (n ∷ keys) is place among = false≢true is

  unnamed_closed : (z : ZoneFacts) → slice_get zones facts.signer ≡ Some z → is_none facts.keys.items ≡ true → signature_lines facts ≡ []
      → is_zone_trusted z ≡ false
  unnamed_closed z at none clean = off_by (is_zone_trusted z) (λ trusted.
      let zone : Labels = rightmost name facts.signer in
      let zone_facts = are.each facts.signer z at in
      let some = some_trusted z.dnskeys.items trusted in
      let of = zip_left (AreDnskeyFacts basis zone) (numbers_at basis.rrsets zone 48) z.dnskeys.items some.0 zone_facts.dnskeys some.1 in
      let numbers : numbers_at basis.rrsets its.rrsig.signer 48 ≡ numbers_at basis.rrsets zone 48 =
      same_numbers basis.rrsets its.rrsig.signer zone 48 (signer_zone (may_sign facts clean)) in
      let has : numbers_at basis.rrsets its.rrsig.signer 48 ≡ [] → ⊥ =
      λ empty. let there = subst (λ (ns : List ℕ). Contains ns of.0) (sym numbers ∙ empty) of.1 in let within = there.1 in omega (arith, within) in
      let unnamed : NamesKey basis.rrsets its.rrsig → ⊥ =
      λ names. not_true facts.not_zone_key (zone_key_there facts clean) (its.not_zone_key.1 (names, no_zone_key none)) in
      not_true facts.key_missing (key_there facts clean) (its.key_missing.1 (has, unnamed)))
    where
      some_trusted : (dnskeys : List DnskeyFacts) → list_any (λ (r : DnskeyFacts). r.is_trusted) dnskeys ≡ true → (r : DnskeyFacts) × Contains dnskeys r
      some_trusted [] holds = absurd (false≢true holds)
      some_trusted (r ∷ dnskeys) holds = (r, (0, omega arith, refl))

  pub closed_signature : IsClosedSignature zones facts
  closed_signature = record { named = named_closed; unnamed = unnamed_closed }
