-- What is told of zones, RRsets and signatures that are found names what is there, so a line says it.
use Rattle.std.proofs.Common.{◌≡◌, ◌⊎◌, inl, inr, ⊎_elim, ◌+◌, ◌-◌, ◌≤◌, ℕ, suc, List, [], ◌∷◌, Some, length, refl, sym, ap, ◌∙◌, subst, arith}
use Rattle.std.proofs.lemmas.Option.{slice_get_within}
use Rattle.std.specs.Prelude.{Contains, slice_get}
use Rattle.dnsv_names.specs.Name.{Labels, SameName, rightmost}
use Rattle.dnsv_records.specs.Dnskey.{IsDnskey}
use Rattle.dnsv_records.specs.Dnskey.KeyTag.{key_tag_of}
use Rattle.dnsv_records.specs.declared.ds.Ds.{Ds}
use Rattle.dnsv_records.specs.declared.rrsig.Rrsig.{Rrsig}
use Rattle.dnsv_canonical.specs.Index.{numbers_at}
use Rattle.dnsv_canonical.specs.Rrsets.{IsNumbered, ReceivedRrset}
use Rattle.dnsv_canonical.specs.declared.number.RecordNumber.{RecordNumber}
use Rattle.dnsv_canonical.specs.declared.number.SignatureNumber.{SignatureNumber}
use Rattle.dnsv_canonical.proofs.OrderLemmas.{each_of}
use Rattle.dnsv_anchors.specs.Anchor.{anchor_owner}
use Rattle.dnsv_anchors.specs.declared.anchor.Anchor.{Anchor}
use Rattle.dnsv_canonical.proofs.NumberLemmas.{each_number, IsOneAt, one_numbered}
use Rattle.dnsv_lines.specs.declared.line.Line.{Line}
use Rattle.dnsv_lines.specs.declared.line.Line.TheVariants as line
use Rattle.dnsv_lines.specs.declared.line.derivation.KeyName.{KeyName}
use Rattle.dnsv_lines.specs.declared.line.fault.Reason.TheVariants as reason
use Rattle.dnsv_lines.specs.declared.line.fault.signature.ShownSignature.{ShownSignature}
use Rattle.dnsv_lines.specs.declared.line.fault.zone.Entry.{Entry}
use Rattle.dnsv_lines.specs.declared.line.fault.zone.EntryNumber.{EntryNumber}
use Rattle.dnsv_lines.specs.declared.line.fault.zone.EntryNumber.TheVariants as number
use Rattle.dnsv_mending.specs.Ways.{IsAmong}
use Rattle.dnsv_mending.specs.declared.facts.keys.DnskeyFacts.{DnskeyFacts}
use Rattle.dnsv_mending.specs.declared.facts.keys.HeldKey.{HeldKey}
use Rattle.dnsv_mending.specs.declared.facts.keys.SelfSignature.{SelfSignature}
use Rattle.dnsv_mending.specs.declared.facts.keys.VoucherFacts.{VoucherFacts}
use Rattle.dnsv_mending.specs.declared.facts.signature.RrsetFacts.{RrsetFacts}
use Rattle.dnsv_mending.specs.declared.facts.signature.SignatureFacts.{SignatureFacts}
use Rattle.dnsv_mending.specs.declared.facts.zone.DsFacts.{DsFacts}
use Rattle.dnsv_mending.specs.declared.facts.zone.ZoneFacts.{ZoneFacts}
use Rattle.dnsv_mending.specs.declared.told.Told.{Told}
use Rattle.dnsv_mending.specs.declared.told.Told.TheVariants as told
use Rattle.dnsv_zone_faults.specs.Dnskeys.{AreDnskeyFacts, AreHeldKeys, IsHeldKey, IsOwnSignature}
use Rattle.dnsv_zone_faults.specs.Groups.{AreAnchorFactsFrom, AreDsFacts, AreRecordFacts, IsRecordFacts}
use Rattle.dnsv_faults.specs.Rrsets.{AreRrsetFacts}
use Rattle.dnsv_faults.specs.Signatures.{AreSignatureFacts}
use Rattle.dnsv_zone_faults.specs.Zones.{AreZoneFacts}
use Rattle.dnsv_zone_faults.proofs.lemmas.zones.ClosedLemmas.{contains_of}
use Rattle.dnsv_zone_faults.proofs.lemmas.zones.TrustLemmas.{zip_left}
use Rattle.dnsv_gaps.specs.Asking.{Asking}
use Rattle.dnsv_trust_reasons.specs.TrustLines.{IsTrustLine}
use Rattle.dnsv_trust_reasons.specs.Places.{IsEntry, IsShown, anchor_entry, ds_entry, shown_of}
use Rattle.dnsv_true_reasons.proofs.telling.Says.{SaysRrset, SaysSignature}
use Rattle.dnsv_true_reasons.proofs.telling.SaysZones.{SaysEntry, SaysKeys, SaysZone}

-- a line says it
abbrev pub HasTrustLine : Asking → Told → Type 0
HasTrustLine a told = (said : Line) × IsTrustLine a.basis a.name told said

-- ---- numbers

-- what has a place in the rest of a list has a number in the whole
abbrev pub AreNumberedFrom : {X : Type 0} → List X → ℕ → List X → Type 0
AreNumberedFrom {X} all n rest = (i : ℕ) (x : X) → slice_get rest i ≡ Some x → IsNumbered all (n + i) x

pub numbered_whole : {X : Type 0} (all : List X) → AreNumberedFrom all 1 all
numbered_whole {X} all i x at =
    let place : 1 + i - 1 ≡ i = omega arith in
    (omega arith, subst (λ (k : ℕ). slice_get all k ≡ Some x) (sym place) at)

numbered_first : {X : Type 0} (all : List X) (n : ℕ) (x : X) (xs : List X) → AreNumberedFrom all n (x ∷ xs) → IsNumbered all n x
numbered_first all n x xs from = let same : n + 0 ≡ n = omega arith in subst (λ (k : ℕ). IsNumbered all k x) same (from 0 x refl)

numbered_rest : {X : Type 0} (all : List X) (n : ℕ) (x : X) (xs : List X) → AreNumberedFrom all n (x ∷ xs) → AreNumberedFrom all (n + 1) xs
numbered_rest all n x xs from i y at =
    let same : n + suc i ≡ n + 1 + i = omega arith in
    subst (λ (k : ℕ). IsNumbered all k y) same (from (suc i) y at)

-- ---- signatures and RRsets

module _ (a : Asking) where
  says_shown : (n : SignatureNumber) (shown : ShownSignature) → IsShown a.basis.rrsets n shown → SaysSignature (HasTrustLine a) n
  says_shown n shown is = record {
    faults = λ w. (line.Reason (reason.Signature (record { why = w; signature = shown })), (shown, is, refl));
    follows = (line.Follows (record { signature = shown }), (shown, is, refl));
  }

  pub says_signature : (k : ℕ) (rrset : ReceivedRrset) (s : ℕ) (facts : SignatureFacts) → IsNumbered a.basis.rrsets k rrset
      → AreSignatureFacts a.basis k rrset s facts → SaysSignature (HasTrustLine a) facts.number
  says_signature k rrset s facts numbered its =
      let n : SignatureNumber = record { rrset = k; signature = s } in
      subst (SaysSignature (HasTrustLine a)) (sym its.number) (says_shown n (shown_of n rrset its.rrsig) (record {
        rrset = rrset;
        numbered = numbered;
        rdata = its.its.rdata;
        is_signature = its.its.numbered;
        rrsig = its.rrsig;
        read = its.its.is;
        is = refl;
      }))

  says_unsigned : (k n : ℕ) (rrset : ReceivedRrset) → IsNumbered a.basis.rrsets k rrset → n ≡ k → HasTrustLine a (told.Unsigned n)
  says_unsigned k n rrset numbered same = subst (λ (m : ℕ). HasTrustLine a (told.Unsigned m)) (sym same)
      (line.Reason (reason.Unsigned (record { owner = rrset.owner; rtype = record { 0 = rrset.rtype }; rrset = k })), (rrset, numbered, refl))

  pub says_rrset : (k : ℕ) (facts : RrsetFacts) → AreRrsetFacts a.basis k facts → SaysRrset (HasTrustLine a) facts
  says_rrset k facts its = record {
    unsigned = says_unsigned k facts.number its.rrset its.numbered its.number;
    signatures = λ s among.
        let one = zip_left (λ (signature : ℕ × Rrsig) known. AreSignatureFacts a.basis k its.rrset signature.0 known) its.order facts.signatures.items s its.each
        (contains_of s facts.signatures.items among) in
        says_signature k its.rrset one.0.0 s its.numbered one.2;
  }

  -- ---- keys

  record IsHeldAt (zone : Labels) (k : ℕ) (set : ReceivedRrset) (all : List (List ℕ)) (held : HeldKey) : Type 0 where
    place : ℕ
    rdata : List ℕ
    numbered : IsNumbered all place rdata
    is : IsHeldKey a.basis zone k set place rdata held

  held_at : (zone : Labels) (k : ℕ) (set : ReceivedRrset) (all : List (List ℕ)) (place : ℕ) (rest : List (List ℕ)) (keys : List HeldKey) (held : HeldKey)
      → AreNumberedFrom all place rest → AreHeldKeys a.basis zone k set place rest keys → IsAmong held keys → IsHeldAt zone k set all held
  held_at zone k set all place rest [] held from are among = absurd among
  held_at zone k set all place [] (y ∷ keys) held from are among = absurd are
  held_at zone k set all place (x ∷ xs) (y ∷ keys) held from are among = ⊎_elim
      (λ (here : held ≡ y). record {
        place = place;
        rdata = x;
        numbered = numbered_first all place x xs from;
        is = subst (λ (h : HeldKey). IsHeldKey a.basis zone k set place x h) (sym here) are.0;
      })
      (λ (later : IsAmong held keys). held_at zone k set all (place + 1) xs keys held (numbered_rest all place x xs from) are.1 later) among

  says_held : (zone : Labels) (k : ℕ) (r : DnskeyFacts) (its : AreDnskeyFacts a.basis zone k r) (held : HeldKey)
      → IsHeldAt zone k its.set its.canonical held → HasTrustLine a (told.NotSelfSigned held.number)
  says_held zone k r its held at =
      let is = at.is in
      let n : RecordNumber = record { rrset = k; place = at.place } in
      let key : KeyName = record { tag = record { 0 = key_tag_of at.rdata }; algorithm = is.key.dnskey.algorithm } in
      subst (λ (m : RecordNumber). HasTrustLine a (told.NotSelfSigned m)) (sym is.number) (
        line.Reason (reason.NotSelfSigned (record { zone = its.set.owner; rrset = k; key = key })),
        (
          its.set,
          key,
          its.numbered,
          record {
            rtype = is.stands.rtype;
            rdata = at.rdata;
            placed = record { canonical = its.canonical; in_order = its.in_order; numbered = at.numbered };
            dnskey = is.key.dnskey;
            read = subst (λ (x : List ℕ). IsDnskey x is.key.dnskey) is.rdata_is is.stands.is;
            tag = refl;
            algorithm = refl;
          },
          refl,
        ),
      )

  says_self : (zone : Labels) (k : ℕ) (r : DnskeyFacts) (its : AreDnskeyFacts a.basis zone k r) (held : HeldKey)
      → IsHeldAt zone k its.set its.canonical held → (s : SelfSignature) → IsAmong s held.signatures.items → SaysSignature (HasTrustLine a) s.number
  says_self zone k r its held at s among =
      let own = each_of (IsOwnSignature a.basis k its.set at.is.key) held.signatures.items s at.is.signatures.each (contains_of s held.signatures.items among) in
      says_shown s.number (shown_of s.number its.set own.rrsig) (record {
        rrset = its.set;
        numbered = subst (λ (m : ℕ). IsNumbered a.basis.rrsets m its.set) (sym own.rrset) its.numbered;
        rdata = own.its.rdata;
        is_signature = own.its.numbered;
        rrsig = own.rrsig;
        read = own.its.is;
        is = refl;
      })

  says_keys : (zone : Labels) (k : ℕ) (r : DnskeyFacts) → AreDnskeyFacts a.basis zone k r → SaysKeys (HasTrustLine a) r
  says_keys zone k r its =
      let held : (h : HeldKey) → IsAmong h r.keys.items → IsHeldAt zone k its.set its.canonical h =
      λ h among. held_at zone k its.set its.canonical 1 its.canonical r.keys.items h (numbered_whole its.canonical) its.keys among in
      record {
        unsigned = says_unsigned k r.number its.set its.numbered its.number;
        not_vouched = subst (λ (m : ℕ). HasTrustLine a (told.NotVouched m)) (sym its.number)
            (line.Reason (reason.NotVouched (record { zone = its.set.owner; rrset = k })), (its.set, its.numbered, refl));
        keys = λ h among. says_held zone k r its h (held h among);
        signatures = λ h s in_keys among. says_self zone k r its h (held h in_keys) s among;
      }

  -- ---- anchors and DS records

  says_entry : (n : EntryNumber) (v : VoucherFacts) → v.number ≡ n → ((entry : Entry) × IsEntry a.basis.rrsets a.basis.anchors n entry) → SaysEntry (HasTrustLine a) v
  says_entry n v same entry w = subst (λ (m : EntryNumber). HasTrustLine a (told.Entry w m)) (sym same)
      (line.Reason (reason.Entry (record { why = w; entry = entry.0 })), (entry.0, entry.1, refl))

  -- an anchor of the zone, of which these facts are
  pub record IsAnchorAt (zone : Labels) (v : VoucherFacts) : Type 0 where
    pub n : ℕ
    pub anchor : Anchor
    pub numbered : IsNumbered a.basis.anchors n anchor
    pub owner : SameName (anchor_owner anchor) zone
    pub number_is : v.number ≡ number.Anchor n

  pub anchor_at : (zone : Labels) (n : ℕ) (anchors : List Anchor) (facts : List VoucherFacts) (v : VoucherFacts) → AreNumberedFrom a.basis.anchors n anchors
      → AreAnchorFactsFrom a.basis.rrsets zone n anchors facts → IsAmong v facts → IsAnchorAt zone v
  anchor_at zone n [] facts v from are among = absurd (subst (λ (all : List VoucherFacts). IsAmong v all) are among)
  anchor_at zone n (anchor ∷ anchors) facts v from (inl (owner, (known, others, its, rest, is))) among = ⊎_elim
      (λ (here : v ≡ known). record {
        n = n;
        anchor = anchor;
        numbered = numbered_first a.basis.anchors n anchor anchors from;
        owner = owner;
        number_is = ap (λ (x : VoucherFacts). x.number) here ∙ its.number_is;
      })
      (λ (later : IsAmong v others). anchor_at zone (n + 1) anchors others v (numbered_rest a.basis.anchors n anchor anchors from) rest later)
      (subst (λ (all : List VoucherFacts). IsAmong v all) is among)
  anchor_at zone n (anchor ∷ anchors) facts v from (inr (other, rest)) among =
      anchor_at zone (n + 1) anchors facts v (numbered_rest a.basis.anchors n anchor anchors from) rest among

  anchor_says : (zone : Labels) (v : VoucherFacts) → IsAnchorAt zone v → SaysEntry (HasTrustLine a) v
  anchor_says zone v at = says_entry (number.Anchor at.n) v at.number_is (anchor_entry at.n at.anchor, record { anchor = at.anchor; numbered = at.numbered; is = refl })

  pub record IsRecordAt (zone : Labels) (k : ℕ) (records : List Ds) (all : List (List ℕ)) (v : VoucherFacts) : Type 0 where
    pub place : ℕ
    pub rdata : List ℕ
    pub numbered : IsNumbered all place rdata
    pub is : IsRecordFacts a.basis.rrsets zone k records place rdata v

  pub record_at : (zone : Labels) (k : ℕ) (records : List Ds) (all : List (List ℕ)) (place : ℕ) (rest : List (List ℕ)) (facts : List VoucherFacts) (v : VoucherFacts)
      → AreNumberedFrom all place rest → AreRecordFacts a.basis.rrsets zone k records place rest facts → IsAmong v facts → IsRecordAt zone k records all v
  record_at zone k records all place rest [] v from are among = absurd among
  record_at zone k records all place [] (y ∷ facts) v from are among = absurd are
  record_at zone k records all place (x ∷ xs) (y ∷ facts) v from are among = ⊎_elim
      (λ (here : v ≡ y). record {
        place = place;
        rdata = x;
        numbered = numbered_first all place x xs from;
        is = subst (λ (each : VoucherFacts). IsRecordFacts a.basis.rrsets zone k records place x each) (sym here) are.0;
      })
      (λ (later : IsAmong v facts). record_at zone k records all (place + 1) xs facts v (numbered_rest all place x xs from) are.1 later) among

  says_record : (zone : Labels) (k : ℕ) (ds : DsFacts) (its : AreDsFacts a.basis zone k ds) (v : VoucherFacts) → its.set.rtype ≡ 43
      → IsAmong v ds.records.items → SaysEntry (HasTrustLine a) v
  says_record zone k ds its v rtype among =
      let at = record_at zone k its.records its.canonical 1 its.canonical ds.records.items v (numbered_whole its.canonical) its.each among in
      let n : RecordNumber = record { rrset = k; place = at.place } in
      says_entry (number.Ds n) v at.is.2.number_is (
        ds_entry n its.set at.is.0,
        record {
          rrset = its.set;
          numbered = its.numbered;
          rtype = rtype;
          rdata = at.rdata;
          placed = record { canonical = its.canonical; in_order = its.in_order; numbered = at.numbered };
          ds = at.is.0;
          read = at.is.1;
          is = refl;
        },
      )

  -- ---- zones

  -- what is told of each zone that is found has a line
  pub says_zone : (zones : List ZoneFacts) → AreZoneFacts a.basis a.name a.rtype zones → (n : ℕ) (z : ZoneFacts) → slice_get zones n ≡ Some z
      → SaysZone (HasTrustLine a) n z
  says_zone zones are n z at =
      let zone : Labels = rightmost a.name n in
      let facts = are.each n z at in
      let inside = slice_get_within zones n z at in
      let count = are.count in
      let within : n ≤ length a.name = omega (arith, inside, count) in
      let numbers = numbers_at a.basis.rrsets zone 43 in
      let ds_of : (ds : DsFacts) → IsAmong ds z.ds.items → (k : ℕ) × Contains numbers k × AreDsFacts a.basis zone k ds =
      λ ds among. zip_left (AreDsFacts a.basis zone) numbers z.ds.items ds facts.ds (contains_of ds z.ds.items among) in
      record {
        itself = λ w. (line.Reason (reason.Zone (record { why = w; zone = zone })), (zone, record { within = within; is = refl }, refl));
        anchors = λ v among. anchor_says zone v (anchor_at zone 1 a.basis.anchors z.anchors.items v (numbered_whole a.basis.anchors) facts.anchors among);
        ds = λ ds among. let of = ds_of ds among in says_rrset of.0 ds.rrset of.2.rrset;
        records = λ ds v in_ds among.
            let of = ds_of ds in_ds in
            let here = each_of (IsOneAt a.basis.rrsets zone 43) numbers of.0 (each_number a.basis.rrsets zone 43) of.1 in
            let same = one_numbered a.basis.rrsets of.0 here.rrset of.2.set here.is_rrset of.2.numbered in
            says_record zone of.0 ds of.2 v (subst (λ (x : ReceivedRrset). x.rtype ≡ 43) same here.same_type) among;
        dnskeys = λ r among.
            let of = zip_left (AreDnskeyFacts a.basis zone) (numbers_at a.basis.rrsets zone 48) z.dnskeys.items r facts.dnskeys (contains_of r z.dnskeys.items among) in
            says_keys zone of.0 r of.2;
      }
