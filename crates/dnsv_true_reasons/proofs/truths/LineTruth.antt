-- The lines that say what is told of zones and of signatures are so.
use Rattle.std.proofs.Common.{◌≡◌, ℕ, List, [], refl, sym, ap, ◌∙◌, subst}
use Rattle.std.specs.List.{AllZip}
use Rattle.std.specs.Prelude.{⊤}
use Rattle.dnsv_names.specs.Name.{Labels, SameName, lower_case}
use Rattle.dnsv_records.specs.Dnskey.{IsDnskey}
use Rattle.dnsv_records.specs.Dnskey.KeyTag.{key_tag_of}
use Rattle.dnsv_records.specs.Ds.{IsDs}
use Rattle.dnsv_records.specs.Rrsig.{IsRrsig}
use Rattle.dnsv_records.specs.declared.dnskey.Dnskey.{Dnskey}
use Rattle.dnsv_records.proofs.OneRecord.{one_dnskey, one_ds, one_rrsig}
use Rattle.dnsv_canonical.specs.Rrsets.{IsNumbered, ReceivedRrset}
use Rattle.dnsv_canonical.specs.declared.number.RecordNumber.{RecordNumber}
use Rattle.dnsv_canonical.specs.declared.number.SignatureNumber.{SignatureNumber}
use Rattle.dnsv_canonical.proofs.CanonicalLemmas.{canonical_unique}
use Rattle.dnsv_anchors.specs.Anchor.{anchor_owner}
use Rattle.dnsv_anchors.specs.declared.anchor.Anchor.{Anchor}
use Rattle.dnsv_anchors.specs.declared.anchor.Anchor.TheVariants as given
use Rattle.dnsv_zone_faults.specs.Groups.{anchor_wanted}
use Rattle.dnsv_zone_keys.specs.Vouchers.{wanted_key}
use Rattle.dnsv_zone_keys.specs.Vouchers.Wanted.{by_digest}
use Rattle.dnsv_canonical.proofs.NumberLemmas.{one_numbered}
use Rattle.dnsv_gaps.specs.Asking.{Asking}
use Rattle.dnsv_lines.specs.declared.line.Line.{Line}
use Rattle.dnsv_lines.specs.declared.line.Line.TheVariants as line
use Rattle.dnsv_lines.specs.declared.line.derivation.KeyName.{KeyName}
use Rattle.dnsv_lines.specs.declared.line.fault.Reason.{Reason}
use Rattle.dnsv_lines.specs.declared.line.fault.signature.ShownSignature.{ShownSignature}
use Rattle.dnsv_lines.specs.declared.line.fault.signature.WhySignature.{WhySignature}
use Rattle.dnsv_lines.specs.declared.line.fault.zone.Entry.{Entry}
use Rattle.dnsv_lines.specs.declared.line.fault.zone.EntryNumber.{EntryNumber}
use Rattle.dnsv_lines.specs.declared.line.fault.zone.EntryNumber.TheVariants as number
use Rattle.dnsv_lines.specs.declared.line.fault.zone.WhyEntry.{WhyEntry}
use Rattle.dnsv_mending.specs.declared.told.Told.{Told}
use Rattle.dnsv_mending.specs.declared.told.Told.TheVariants as told
use Rattle.dnsv_trust_reasons.specs.TrustLines.{IsTrustLine}
use Rattle.dnsv_trust_reasons.specs.Places.{IsEntry, IsKeyAt, IsPlaced, IsShown, anchor_digest, shown_of}
use Rattle.dnsv_chain.specs.Basis.{Basis}
use Rattle.dnsv_true_reasons.specs.truth.Entries.{IsEntryTrue, wanted_digest}
use Rattle.dnsv_true_reasons.specs.truth.Keys.{IsWithoutSignature, IsWithoutVoucher}
use Rattle.dnsv_true_reasons.specs.truth.Reasons.{IsReasonTrue}
use Rattle.dnsv_true_reasons.specs.truth.Signatures.{IsTrueOfSignature}
use Rattle.dnsv_true_reasons.specs.truth.Zones.{IsZoneTrue}
use Rattle.dnsv_true_reasons.proofs.truths.zones.TrueTold.{IsEntryTold, IsKeyTold, IsSignatureTold, IsTold}
use Rattle.dnsv_true_reasons.proofs.truths.zones.VoucherTruth.{fault_moves}

-- the reason that a line tells is such
abbrev pub IsLineTrue : (Reason → Type 0) → Line → Type 0
IsLineTrue IsSo (line.Reason reason) = IsSo reason
IsLineTrue IsSo other = ⊤

-- ---- places

pub placed_one : (rrset : ReceivedRrset) (place : ℕ) (x y : List ℕ) → IsPlaced rrset place x → IsPlaced rrset place y → x ≡ y
placed_one rrset place x y first second =
    let lists = canonical_unique rrset.rdata first.canonical second.canonical first.in_order second.in_order in
    one_numbered second.canonical place x y (subst (λ (each : List (List ℕ)). IsNumbered each place x) lists first.numbered) second.numbered

-- ---- entries

anchor_digest_is : (anchor : Anchor) → anchor_digest anchor ≡ wanted_digest (anchor_wanted anchor)
anchor_digest_is (given.Ds owner ds) = refl
anchor_digest_is (given.Key owner rdata) = refl

entry_true : (basis : Basis) (w : WhyEntry) (n : EntryNumber) (entry : Entry) → IsEntryTold basis w n
    → IsEntry basis.rrsets basis.anchors n entry
    → IsEntryTrue basis (record { why = w; entry = entry })
entry_true basis w (number.Anchor a) entry told is =
    let vouches = told.vouches in
    let same : vouches.anchor ≡ is.anchor = one_numbered basis.anchors a vouches.anchor is.anchor vouches.numbered is.numbered in
    let asks : told.wanted ≡ anchor_wanted is.anchor = vouches.asks ∙ ap anchor_wanted same in
    let owner : SameName (anchor_owner is.anchor) told.zone = subst (λ (anchor : Anchor). SameName (anchor_owner anchor) told.zone) same
    vouches.owner in
    subst (λ (each : Entry). IsEntryTrue basis (record { why = w; entry = each })) (sym is.is) (record {
      wanted = told.wanted;
      vouches = record { anchor = is.anchor; numbered = is.numbered; owner = refl; asks = asks };
      key = ap wanted_key (sym asks);
      digest_type = anchor_digest_is is.anchor ∙ ap wanted_digest (sym asks);
      is = fault_moves basis.rrsets told.zone (anchor_owner is.anchor) told.wanted w (sym owner) told.is;
    })
entry_true basis w (number.Ds record_number) entry told is =
    let vouches = told.vouches in
    let same : vouches.rrset ≡ is.rrset = one_numbered basis.rrsets record_number.rrset vouches.rrset is.rrset vouches.numbered is.numbered
    in
    let rdata : vouches.rdata ≡ is.rdata =
    placed_one is.rrset record_number.place vouches.rdata is.rdata
    (subst (λ (r : ReceivedRrset). IsPlaced r record_number.place vouches.rdata) same vouches.placed) is.placed in
    let ds : vouches.ds ≡ is.ds = one_ds is.rdata vouches.ds is.ds
    (subst (λ (octets : List ℕ). IsDs octets vouches.ds) rdata vouches.read) is.read in
    let asks : told.wanted ≡ by_digest vouches.records is.ds = vouches.asks ∙ ap (by_digest vouches.records) ds in
    let owner : SameName is.rrset.owner told.zone = subst (λ (r : ReceivedRrset). SameName r.owner told.zone) same vouches.owner in
    subst (λ (each : Entry). IsEntryTrue basis (record { why = w; entry = each })) (sym is.is) (record {
      wanted = told.wanted;
      vouches = record {
        rrset = is.rrset;
        numbered = is.numbered;
        owner = refl;
        rtype = is.rtype;
        records = vouches.records;
        all = subst (λ (r : ReceivedRrset). AllZip IsDs r.rdata vouches.records) same vouches.all;
        rdata = is.rdata;
        placed = is.placed;
        ds = is.ds;
        read = is.read;
        asks = asks;
      };
      key = ap wanted_key (sym asks);
      digest_type = ap wanted_digest (sym asks);
      is = fault_moves basis.rrsets told.zone is.rrset.owner told.wanted w (sym owner) told.is;
    })

-- ---- keys

key_true : (basis : Basis) (n : RecordNumber) (set : ReceivedRrset) (key : KeyName) → IsKeyTold basis n
    → IsNumbered basis.rrsets n.rrset set
    → IsKeyAt set n.place key → IsWithoutSignature basis (record { zone = set.owner; rrset = n.rrset; key = key })
key_true basis n set key told numbered is =
    let same : told.set ≡ set = one_numbered basis.rrsets n.rrset told.set set told.numbered numbered in
    let rdata : is.rdata ≡ told.key.rdata =
    placed_one set n.place is.rdata told.key.rdata is.placed
    (subst (λ (r : ReceivedRrset). IsPlaced r n.place told.key.rdata) same told.placed) in
    let dnskey : is.dnskey ≡ told.key.dnskey =
    one_dnskey told.key.rdata is.dnskey told.key.dnskey (subst (λ (octets : List ℕ). IsDnskey octets is.dnskey) rdata is.read)
    told.stands.is in
    record {
      set = told.set;
      numbered = told.numbered;
      owner = ap (λ (r : ReceivedRrset). lower_case r.owner) same;
      key = told.key;
      stands = told.stands;
      tag = ap key_tag_of (sym rdata) ∙ sym is.tag;
      algorithm = ap (λ (d : Dnskey). d.algorithm.0) (sym dnskey) ∙ ap (λ algorithm_is. algorithm_is.0) (sym is.algorithm);
      signed = told.signed;
      none = told.none;
    }

-- ---- signatures

shown_true : (basis : Basis) (w : WhySignature) (n : SignatureNumber) (shown : ShownSignature) → IsSignatureTold basis w n
    → IsShown basis.rrsets n shown
    → IsTrueOfSignature basis (record { why = w; signature = shown })
shown_true basis w n shown told is =
    let same : is.rrset ≡ told.rrset = one_numbered basis.rrsets n.rrset is.rrset told.rrset is.numbered told.numbered in
    let rdata : is.rdata ≡ told.its.rdata =
    one_numbered told.rrset.signatures n.signature is.rdata told.its.rdata
    (subst (λ (r : ReceivedRrset). IsNumbered r.signatures n.signature is.rdata) same is.is_signature) told.its.numbered in
    let rrsig : is.rrsig ≡ told.rrsig =
    one_rrsig told.its.rdata is.rrsig told.rrsig (subst (λ (octets : List ℕ). IsRrsig octets is.rrsig) rdata is.read) told.its.is in
    let shown_is : shown ≡ shown_of n told.rrset told.rrsig = is.is ∙ (λ i. shown_of n (same i) (rrsig i)) in
    subst (λ (each : ShownSignature). IsTrueOfSignature basis (record { why = w; signature = each })) (sym shown_is) (record {
      rrset = told.rrset;
      numbered = told.numbered;
      rrsig = told.rrsig;
      its = told.its;
      shown = refl;
      is = told.is;
    })

-- ---- what is told

pub trust_line : (a : Asking) (t : Told) → IsTold a.basis a.name t → (said : Line) → IsTrustLine a.basis a.name t said → IsLineTrue (IsReasonTrue a) said
trust_line a (told.Zone w n) is said line_is =
    subst (IsLineTrue (IsReasonTrue a)) (sym line_is.2) (subst (λ (zone : Labels). IsZoneTrue a.basis zone w) (sym line_is.1.is) is)
trust_line a (told.Entry w n) is said line_is = subst (IsLineTrue (IsReasonTrue a)) (sym line_is.2)
    (entry_true a.basis w n line_is.0 is line_is.1)
trust_line a (told.NotSelfSigned n) is said line_is =
    subst (IsLineTrue (IsReasonTrue a)) (sym line_is.4) (key_true a.basis n line_is.0 line_is.1 is line_is.2 line_is.3)
trust_line a (told.NotVouched k) is said line_is =
    let same : is.set ≡ line_is.0 = one_numbered a.basis.rrsets k is.set line_is.0 is.same line_is.1 in
    subst (IsLineTrue (IsReasonTrue a)) (sym line_is.2)
    (subst (λ (set : ReceivedRrset). IsWithoutVoucher a.basis (record { zone = set.owner; rrset = k })) same is.is)
trust_line a (told.Unsigned k) is said line_is =
    let same : is.rrset ≡ line_is.0 = one_numbered a.basis.rrsets k is.rrset line_is.0 is.numbered line_is.1 in
    subst (IsLineTrue (IsReasonTrue a)) (sym line_is.2) (record {
      rrset = line_is.0;
      numbered = line_is.1;
      owner = refl;
      rtype = refl;
      none = subst (λ (r : ReceivedRrset). r.signatures ≡ []) same is.none;
    })
trust_line a (told.Signature w n) is said line_is = subst (IsLineTrue (IsReasonTrue a)) (sym line_is.2)
    (shown_true a.basis w n line_is.0 is line_is.1)
trust_line a (told.Follows n) is said line_is = subst (IsLineTrue (IsReasonTrue a)) (sym line_is.2) tt
