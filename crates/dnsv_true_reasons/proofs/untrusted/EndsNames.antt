-- What is told of a zone that is found is said of it, and signatures are by their signers.
use Rattle.std.proofs.Common.{◌≡◌, ◌⊎◌, inl, inr, ℕ, List, Some, refl, sym, ap, ◌∙◌, subst}
use Rattle.std.proofs.lemmas.Bool.{false≢true}
use Rattle.std.specs.Prelude.{Contains, slice_get}
use Rattle.std.specs.List.{AllByRecursion}
use Rattle.dnsv_names.specs.Name.{Labels, IsAtOrBelow, SameName, rightmost}
use Rattle.dnsv_names.specs.Tree.AncestorLaws.{rightmost_above, rightmost_same}
use Rattle.dnsv_names.specs.Tree.TreeLaws.{at_or_below_respects, at_or_below_trans}
use Rattle.dnsv_records.specs.declared.rrsig.Rrsig.{Rrsig}
use Rattle.dnsv_canonical.specs.Index.{numbers_at}
use Rattle.dnsv_canonical.specs.Rdata.{IsWellFormed}
use Rattle.dnsv_canonical.specs.Rrsets.{IsNumbered, ReceivedRrset}
use Rattle.dnsv_canonical.specs.declared.number.RecordNumber.{RecordNumber}
use Rattle.dnsv_canonical.specs.declared.number.SignatureNumber.{SignatureNumber}
use Rattle.dnsv_canonical.proofs.OrderLemmas.{each_of}
use Rattle.dnsv_anchors.specs.Anchor.{anchor_owner}
use Rattle.dnsv_anchors.specs.declared.anchor.Anchor.{Anchor}
use Rattle.dnsv_canonical.proofs.NumberLemmas.{each_number, IsOneAt, one_numbered}
use Rattle.dnsv_lines.specs.declared.line.Line.{Line}
use Rattle.dnsv_lines.specs.declared.line.Line.TheVariants as line
use Rattle.dnsv_lines.specs.declared.line.fault.Reason.{Reason}
use Rattle.dnsv_lines.specs.declared.line.fault.signature.ShownSignature.{ShownSignature}
use Rattle.dnsv_lines.specs.declared.line.fault.signature.WhySignature.{WhySignature}
use Rattle.dnsv_lines.specs.declared.line.fault.zone.Entry.{Entry}
use Rattle.dnsv_lines.specs.declared.line.fault.zone.EntryNumber.{EntryNumber}
use Rattle.dnsv_lines.specs.declared.line.fault.zone.EntryNumber.TheVariants as number
use Rattle.dnsv_mending.specs.Ways.{IsAmong}
use Rattle.dnsv_mending.specs.declared.facts.keys.DnskeyFacts.{DnskeyFacts}
use Rattle.dnsv_mending.specs.declared.facts.keys.VoucherFacts.{VoucherFacts}
use Rattle.dnsv_mending.specs.declared.facts.signature.RrsetFacts.{RrsetFacts}
use Rattle.dnsv_mending.specs.declared.facts.signature.SignatureFacts.{SignatureFacts}
use Rattle.dnsv_mending.specs.declared.facts.zone.DsFacts.{DsFacts}
use Rattle.dnsv_mending.specs.declared.facts.zone.ZoneFacts.{ZoneFacts}
use Rattle.dnsv_mending.specs.declared.told.Told.{Told}
use Rattle.dnsv_mending.specs.declared.told.Told.TheVariants as told
use Rattle.dnsv_zone_faults.specs.Dnskeys.{AreDnskeyFacts, IsOwnSignature}
use Rattle.dnsv_zone_faults.specs.Groups.{AreDsFacts}
use Rattle.dnsv_faults.specs.Rrsets.{AreRrsetFacts}
use Rattle.dnsv_faults.specs.Signatures.{AreSignatureFacts, IsSignatureAt}
use Rattle.dnsv_zone_faults.specs.Zones.{AreZoneFacts}
use Rattle.dnsv_zone_faults.proofs.lemmas.zones.ClosedLemmas.{contains_of}
use Rattle.dnsv_zone_faults.proofs.lemmas.zones.InPlaceLemmas.{at_or_above, in_place}
use Rattle.dnsv_zone_faults.proofs.lemmas.zones.TrustLemmas.{zip_left}
use Rattle.dnsv_zone_faults.proofs.lemmas.zones.ZoneLemmas.{held_at}
use Rattle.dnsv_gaps.specs.Asking.{Asking}
use Rattle.dnsv_trust_reasons.specs.TrustLines.{IsTrustLine}
use Rattle.dnsv_trust_reasons.specs.Places.{IsEntry, IsShown}
use Rattle.dnsv_true_reasons.specs.Ends.{IsSaidOf, LeadsToKeys}
use Rattle.dnsv_true_reasons.proofs.untrusted.Ending.{SaidIf}
use Rattle.dnsv_true_reasons.proofs.untrusted.EndsRrsets.{AreDsBySigner}
use Rattle.dnsv_true_reasons.proofs.Parts.{one_signature}
use Rattle.dnsv_true_reasons.proofs.telling.Says.{SaysRrset, SaysSignature}
use Rattle.dnsv_true_reasons.proofs.telling.SaysZones.{SaysEntry, SaysKeys, SaysZone}
use Rattle.dnsv_true_reasons.proofs.ZoneNames.{IsAnchorAt, anchor_at, numbered_whole, record_at}

-- each line that says it is a reason that is said of the zone with so many labels
abbrev pub SaidOf : Asking → ℕ → Told → Type 0
SaidOf a n t = (found : Line) → IsTrustLine a.basis a.name t found → (reason : Reason) × (found ≡ line.Reason reason) × IsSaidOf reason (rightmost a.name n)

-- the signature with the number is by the zone with so many labels
abbrev pub By : Asking → SignatureNumber → ℕ → Type 0
By a k c = (shown : ShownSignature) → IsShown a.basis.rrsets k shown → SameName shown.signer (rightmost a.name c)

module _ (a : Asking) where
  -- ---- RRsets of keys

  module _ (k : ℕ) (set : ReceivedRrset) (numbered : IsNumbered a.basis.rrsets k set) (n : ℕ) (its : LeadsToKeys set.rtype set.owner (rightmost a.name n)) where
    its_rrset : (rrset : ReceivedRrset) → IsNumbered a.basis.rrsets k rrset → LeadsToKeys rrset.rtype rrset.owner (rightmost a.name n)
    its_rrset rrset other =
        subst (λ (r : ReceivedRrset). LeadsToKeys r.rtype r.owner (rightmost a.name n)) (one_numbered a.basis.rrsets k set rrset numbered other) its

    unsigned_of : (m : ℕ) → m ≡ k → SaidOf a n (told.Unsigned m)
    unsigned_of m same = subst (λ (j : ℕ). SaidOf a n (told.Unsigned j)) (sym same) (λ found by. (_, by.2, its_rrset by.0 by.1))

    signature_of : (w : WhySignature) (m : SignatureNumber) → m.rrset ≡ k → SaidOf a n (told.Signature w m)
    signature_of w m same found by =
        let shown = by.1 in
        let here = its_rrset shown.rrset (subst (λ (j : ℕ). IsNumbered a.basis.rrsets j shown.rrset) same shown.numbered) in
        (_, by.2, subst (λ (x : ShownSignature). LeadsToKeys x.rtype.0 x.owner (rightmost a.name n)) (sym shown.is) here)

    says_number : (m : SignatureNumber) → m.rrset ≡ k → SaysSignature (SaidIf (SaidOf a) n) m
    says_number m same = record { faults = λ w h. signature_of w m same; follows = λ h. absurd (false≢true h) }

    says_rrset : (facts : RrsetFacts) → AreRrsetFacts a.basis k facts → SaysRrset (SaidIf (SaidOf a) n) facts
    says_rrset facts are = record {
      unsigned = λ h. unsigned_of facts.number are.number;
      signatures = λ s among.
          let one = zip_left (λ (signature : ℕ × Rrsig) known. AreSignatureFacts a.basis k are.rrset signature.0 known) are.order facts.signatures.items s are.each
          (contains_of s facts.signatures.items among) in
          says_number s.number (ap (λ (m : SignatureNumber). m.rrset) one.2.number);
    }

    says_keys : (r : DnskeyFacts) (are : AreDnskeyFacts a.basis (rightmost a.name n) k r) → SaysKeys (SaidIf (SaidOf a) n) r
    says_keys r are = record {
      unsigned = λ h. unsigned_of r.number are.number;
      not_vouched = λ h. subst (λ (j : ℕ). SaidOf a n (told.NotVouched j)) (sym are.number) (λ found by. (_, by.2, (its_rrset by.0 by.1).at));
      keys = λ h among is.
          let at = held_at a.basis (rightmost a.name n) k are.set 1 are.canonical r.keys.items h are.keys (contains_of h r.keys.items among) in
          subst (λ (j : RecordNumber). SaidOf a n (told.NotSelfSigned j)) (sym at.is.number) (λ found by. (_, by.4, (its_rrset by.0 by.2).at));
      signatures = λ h s in_keys among.
          let at = held_at a.basis (rightmost a.name n) k are.set 1 are.canonical r.keys.items h are.keys (contains_of h r.keys.items in_keys) in
          let own = each_of (IsOwnSignature a.basis k are.set at.is.key) h.signatures.items s at.is.signatures.each (contains_of s h.signatures.items among) in
          says_number s.number own.rrset;
    }

  -- ---- anchors and DS records

  entry_of : (n : ℕ) (m : EntryNumber) (v : VoucherFacts) → v.number ≡ m
      → ((entry : Entry) → IsEntry a.basis.rrsets a.basis.anchors m entry → SameName entry.zone (rightmost a.name n)) → SaysEntry (SaidIf (SaidOf a) n) v
  entry_of n m v same each w h = subst (λ (j : EntryNumber). SaidOf a n (told.Entry w j)) (sym same) (λ found by. (_, by.2, each by.0 by.1))

  anchor_of : (n : ℕ) (v : VoucherFacts) → IsAnchorAt a (rightmost a.name n) v → SaysEntry (SaidIf (SaidOf a) n) v
  anchor_of n v at = entry_of n (number.Anchor at.n) v at.number_is (λ entry is.
      let same = one_numbered a.basis.anchors at.n at.anchor is.anchor at.numbered is.numbered in
      let owner : SameName (anchor_owner is.anchor) (rightmost a.name n) = subst (λ (x : Anchor). SameName (anchor_owner x) (rightmost a.name n)) same at.owner in
      subst (λ (e : Entry). SameName e.zone (rightmost a.name n)) (sym is.is) owner)

  record_of : (n k : ℕ) (set : ReceivedRrset) (place : ℕ) (v : VoucherFacts) → IsNumbered a.basis.rrsets k set → SameName set.owner (rightmost a.name n)
      → v.number ≡ number.Ds (record { rrset = k; place = place }) → SaysEntry (SaidIf (SaidOf a) n) v
  record_of n k set place v numbered owner same = entry_of n (number.Ds (record { rrset = k; place = place })) v same (λ entry is.
      let rrset = one_numbered a.basis.rrsets k set is.rrset numbered is.numbered in
      let here : SameName is.rrset.owner (rightmost a.name n) = subst (λ (x : ReceivedRrset). SameName x.owner (rightmost a.name n)) rrset owner in
      subst (λ (e : Entry). SameName e.zone (rightmost a.name n)) (sym is.is) here)

  -- ---- zones

  module _ (zones : List ZoneFacts) (are : AreZoneFacts a.basis a.name a.rtype zones) where
    -- an RRset of the type at the zone
    leads_at : (zone : Labels) (t k : ℕ) (set : ReceivedRrset) → (t ≡ 48) ⊎ (t ≡ 43) → Contains (numbers_at a.basis.rrsets zone t) k → IsNumbered a.basis.rrsets k set
        → LeadsToKeys set.rtype set.owner zone
    leads_at zone t k set kind listed numbered =
        let here = each_of (IsOneAt a.basis.rrsets zone t) (numbers_at a.basis.rrsets zone t) k (each_number a.basis.rrsets zone t) listed in
        subst (λ (x : ReceivedRrset). LeadsToKeys x.rtype x.owner zone) (one_numbered a.basis.rrsets k here.rrset set here.is_rrset numbered)
        (record { its_type = subst (λ (x : ℕ). (x ≡ 48) ⊎ (x ≡ 43)) (sym here.same_type) kind; at = here.owner })

    -- what is told of a zone is said of it
    pub says_of : (n : ℕ) (z : ZoneFacts) → slice_get zones n ≡ Some z → SaysZone (SaidIf (SaidOf a) n) n z
    says_of n z at =
        let zone : Labels = rightmost a.name n in
        let facts = are.each n z at in
        let numbers = numbers_at a.basis.rrsets zone 43 in
        let ds_of : (ds : DsFacts) → IsAmong ds z.ds.items → (k : ℕ) × Contains numbers k × AreDsFacts a.basis zone k ds =
        λ ds among. zip_left (AreDsFacts a.basis zone) numbers z.ds.items ds facts.ds (contains_of ds z.ds.items among) in
        record {
          itself = λ w h found by. (_, by.2, subst (λ (x : Labels). SameName x zone) (sym by.1.is) refl);
          anchors = λ v among. anchor_of n v (anchor_at a zone 1 a.basis.anchors z.anchors.items v (numbered_whole a.basis.anchors) facts.anchors among);
          ds = λ ds among.
              let of = ds_of ds among in
              let rr = of.2.rrset in
              says_rrset of.0 rr.rrset rr.numbered n (leads_at zone 43 of.0 rr.rrset (inr refl) of.1 rr.numbered) ds.rrset rr;
          records = λ ds v in_ds among.
              let of = ds_of ds in_ds in
              let its = of.2 in
              let record_is = record_at a zone of.0 its.records its.canonical 1 its.canonical ds.records.items v (numbered_whole its.canonical) its.each among in
              record_of n of.0 its.set record_is.place v its.numbered (leads_at zone 43 of.0 its.set (inr refl) of.1 its.numbered).at record_is.is.2.number_is;
          dnskeys = λ r among.
              let of = zip_left (AreDnskeyFacts a.basis zone) (numbers_at a.basis.rrsets zone 48) z.dnskeys.items r facts.dnskeys (contains_of r z.dnskeys.items among) in
              says_keys of.0 of.2.set of.2.numbered n (leads_at zone 48 of.0 of.2.set (inl refl) of.1 of.2.numbered) r of.2;
        }

    -- ---- signers

    -- the signature that is shown is the one that is found
    pub shown_signer : (k : ℕ) (rrset : ReceivedRrset) (s : ℕ) (facts : SignatureFacts) (its : AreSignatureFacts a.basis k rrset s facts) → IsNumbered a.basis.rrsets k rrset
        → (shown : ShownSignature) → IsShown a.basis.rrsets facts.number shown → shown.signer ≡ its.rrsig.signer
    shown_signer k rrset s facts its numbered shown is =
        let at_k = subst (λ (m : SignatureNumber). IsNumbered a.basis.rrsets m.rrset is.rrset) its.number is.numbered in
        let same = one_numbered a.basis.rrsets k is.rrset rrset at_k numbered in
        let at_s : IsSignatureAt is.rrset s is.rrsig = record {
          rdata = is.rdata;
          numbered = subst (λ (m : SignatureNumber). IsNumbered is.rrset.signatures m.signature is.rdata) its.number is.is_signature;
          is = is.read;
        } in
        let one = one_signature rrset s is.rrsig its.rrsig (subst (λ (r : ReceivedRrset). IsSignatureAt r s is.rrsig) same at_s) its.its in
        ap (λ (x : ShownSignature). x.signer) is.is ∙ ap (λ (x : Rrsig). x.signer) one

    -- a signature whose signer is at or above the name is by it
    pub by_signer : (k : ℕ) (rrset : ReceivedRrset) (s : ℕ) (facts : SignatureFacts) (its : AreSignatureFacts a.basis k rrset s facts) → IsNumbered a.basis.rrsets k rrset
        → IsAtOrBelow a.name its.rrsig.signer → By a facts.number facts.signer
    by_signer k rrset s facts its numbered up shown is =
        let zone = subst (λ (m : ℕ). SameName its.rrsig.signer (rightmost a.name m)) (sym its.signer) (sym (rightmost_same a.name its.rrsig.signer up)) in
        subst (λ (x : Labels). SameName x (rightmost a.name facts.signer)) (sym (shown_signer k rrset s facts its numbered shown is)) zone

    -- so is each of a DS RRset, and its signer is above the zone
    pub ds_by_signer : AllByRecursion IsWellFormed a.basis.rrsets → (n : ℕ) (z : ZoneFacts) → slice_get zones n ≡ Some z → AreDsBySigner zones (SaidOf a) (By a) n z
    ds_by_signer formed n z at ds s among in_rrset =
        let zone : Labels = rightmost a.name n in
        let of = zip_left (AreDsFacts a.basis zone) (numbers_at a.basis.rrsets zone 43) z.ds.items ds (are.each n z at).ds (contains_of ds z.ds.items among) in
        let rr = of.2.rrset in
        let one = zip_left (λ (signature : ℕ × Rrsig) known. AreSignatureFacts a.basis of.0 rr.rrset signature.0 known) rr.order ds.rrset.signatures.items s rr.each
        (contains_of s ds.rrset.signatures.items in_rrset) in
        let its = one.2 in
        let owner = (leads_at zone 43 of.0 rr.rrset (inr refl) of.1 rr.numbered).at in (
          λ off.
              let up = at_or_below_respects rr.rrset.owner zone its.rrsig.signer its.rrsig.signer owner refl
              (at_or_above a.basis a.name a.rtype zones are of.0 rr.rrset one.0.0 s its off) in
              by_signer of.0 rr.rrset one.0.0 s its rr.numbered (at_or_below_trans a.name zone its.rrsig.signer (rightmost_above a.name n) up),
          λ off. ((in_place a.basis a.name a.rtype zones are formed).signed n z ds at among s in_rrset off).above,
        )
