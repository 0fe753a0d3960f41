-- What is trusted has a way in.
use Rattle.std.proofs.Common.{◌≡◌, ◌<◌, ◌+◌, ◌-◌, ◌↔◌, ℕ, Bool, true, false, List, [], Some, None, Option, length, map, get_or, refl, sym, ap, ◌∙◌, subst, arith}
use Rattle.std.proofs.lemmas.List.Elements.{Contains-get_or}
use Rattle.std.proofs.lemmas.Option.{slice_get-get_or}
use Rattle.std.specs.List.{AllZip, Contains, slice_get}
use Rattle.dnsv_records.specs.Ds.{IsDs}
use Rattle.dnsv_records.specs.declared.ds.Ds.{Ds}
use Rattle.dnsv_canonical.proofs.CanonicalLemmas.{canonical_some}
use Rattle.dnsv_canonical.specs.CanonicalRdata.{canonical_form}
use Rattle.dnsv_canonical.specs.Rrsets.{IsNumbered, ReceivedRrset}
use Rattle.dnsv_verifier.specs.Admissible.{DnskeyRecord}
use Rattle.dnsv_chain.proofs.ZipLemmas.{zip_at, zip_length}
use Rattle.dnsv_chain.specs.Anchor.{IsAnchorMatch}
use Rattle.dnsv_chain.specs.Trusted.{DelegatesTo, IsKeyOf, IsSecured, IsSignedUnder, IsTrusted, SignsItsSet}
use Rattle.dnsv_chain.specs.Trusted.IsTrusted.{anchored, delegated}
use Rattle.dnsv_anchors.specs.declared.anchor.Anchor.{Anchor}
use Rattle.dnsv_anchors.specs.declared.anchor.Anchor.TheVariants as anchor
use Rattle.dnsv_derivations.specs.Explained.{Setting}
use Rattle.dnsv_derivations.specs.Following.{IsGoodUnder, IsMatchedBy}
use Rattle.std.specs.Prelude.{MatchOption, is_some}
use Rattle.dnsv_names.specs.Name.{Labels}
use Rattle.dnsv_derivations.specs.derivations.WaySearch.{IsFoundWay, IsNoWay, signature_of}
use Rattle.dnsv_derivations.specs.derivations.Ways.{HasSecured, IsTrustedLine, IsTrustedSet, IsWayInto, Way}
use Rattle.dnsv_derivations.specs.declared.derivations.ways.FoundWay.{FoundWay}
use Rattle.dnsv_canonical.proofs.NumberLemmas.{one_numbered}
use Rattle.dnsv_derivations.proofs.lemmas.derivations.WayLemmas.{way_leads}
use Rattle.dnsv_lines.specs.declared.line.derivation.Voucher.{Voucher}
use Rattle.dnsv_lines.specs.declared.line.derivation.Voucher.TheVariants as voucher
use Rattle.dnsv_derivations.proofs.lemmas.derivations.WayLemmas.RankLemmas.{own_forms}

-- what is a member has a number
pub record HasNumber {X : Type 0} (xs : List X) (x : X) : Type 0 where
  pub number : ℕ
  pub is : IsNumbered xs number x

pub number_of : {X : Type 0} (xs : List X) (x : X) → Contains xs x → HasNumber xs x
number_of xs x there =
    let place : there.0 + 1 - 1 ≡ there.0 = omega arith in
    let found : slice_get xs there.0 ≡ Some x = slice_get-get_or xs there.0 x there.1 ∙ ap (λ y. Some y) there.2 in
    record {
      number = there.0 + 1;
      is = (omega arith, ap (λ (p : ℕ). slice_get xs p) place ∙ found);
    }

-- the RDATA that a DS record is read of
record ReadOf (rdata : List (List ℕ)) (ds : Ds) : Type 0 where
  octets : List ℕ
  among : Contains rdata octets
  is : IsDs octets ds

read_of : (rdata : List (List ℕ)) (records : List Ds) (ds : Ds) → AllZip IsDs rdata records → Contains records ds → ReadOf rdata ds
read_of rdata records ds each there =
    let sizes = zip_length IsDs rdata records each in
    let within = there.1 in
    let inside : there.0 < length rdata = omega (arith, sizes, within) in
    let Read : Ds → Type 0 = λ one. IsDs (get_or rdata there.0 []) one in
    record {
      octets = get_or rdata there.0 [];
      among = Contains-get_or rdata there.0 [] inside;
      is = subst Read there.2 (zip_at IsDs rdata records there.0 [] ds each inside);
    }

module _ (setting : Setting) where
  abbrev Trusted : ReceivedRrset → Type 0
  Trusted set = IsTrusted setting.meaning setting.moment setting.rrsets setting.anchors set

  record IsGoodBySome (k : ℕ) (rrset : ReceivedRrset) (key : DnskeyRecord) : Type 0 where
    signature : ℕ
    good : IsGoodUnder setting (signature_of k signature) rrset key

  good_number : (k : ℕ) (rrset : ReceivedRrset) (key : DnskeyRecord) → IsNumbered setting.rrsets k rrset
      → IsSignedUnder setting.meaning setting.moment rrset key → IsGoodBySome k rrset key
  good_number k rrset key numbered signed =
      let number = number_of rrset.signatures signed.its.0 signed.its.1 in
      record {
        signature = number.number;
        good = record {
          is_rrset = numbered;
          rdata = signed.its.0;
          is_signature = number.is;
          rrsig = signed.rrsig;
          read = signed.its.2;
          good = signed.good;
        };
      }

  pub record HasWay (k : ℕ) : Type 0 where
    pub way : Way
    pub is : IsWayInto setting k way

  way_of : (k : ℕ) (set : ReceivedRrset) (key : DnskeyRecord) → IsNumbered setting.rrsets k set
      → SignsItsSet setting.meaning setting.moment set key → (voucher : Voucher) → IsMatchedBy (HasSecured setting) setting.rrsets setting.anchors voucher key → HasWay k
  way_of k set key numbered signs voucher matched =
      let good = good_number k set key numbered signs.signed in
      record {
        way = record { voucher = voucher; key = key; signature = good.signature };
        is = record { set = set; stands = signs.stands; good = good.good; matched = matched };
      }

  by_anchor : (k : ℕ) (set : ReceivedRrset) (key : DnskeyRecord) → IsNumbered setting.rrsets k set
      → SignsItsSet setting.meaning setting.moment set key → (number : ℕ) (each : Anchor) → IsNumbered setting.anchors number each
      → IsAnchorMatch each key → HasWay k
  by_anchor k set key numbered signs number (anchor.Ds owner ds) its matching =
      way_of k set key numbered signs (voucher.DsAnchor number ds.digest_type) (owner, ds, its, refl, matching)
  by_anchor k set key numbered signs number (anchor.Key owner rdata) its matching =
      way_of k set key numbered signs (voucher.KeyAnchor number) (owner, rdata, its, matching)

  -- a signature by a key of a trusted RRset is secured
  pub secured_by : (r : ℕ) (rrset parent : ReceivedRrset) (above : DnskeyRecord) (s : ℕ) → Trusted parent → IsKeyOf parent above
      → IsGoodUnder setting (signature_of r s) rrset above → IsSecured setting.meaning setting.moment setting.rrsets setting.anchors r s
  secured_by r rrset parent above s trusted stands good = record {
    rrset = rrset;
    numbered = good.is_rrset;
    rdata = good.rdata;
    signature = good.is_signature;
    rrsig = good.rrsig;
    is = good.read;
    good = record { set = parent; trusted = trusted; key = above; stands = stands; good = good.good };
  }

  by_ds : (k : ℕ) (set parent ds : ReceivedRrset) (above key : DnskeyRecord) → IsNumbered setting.rrsets k set → Trusted parent
      → IsKeyOf parent above → Contains setting.rrsets ds → IsSignedUnder setting.meaning setting.moment ds above
      → DelegatesTo ds key → SignsItsSet setting.meaning setting.moment set key → HasWay k
  by_ds k set parent ds above key numbered trusted stands among signed delegates signs =
      let r = number_of setting.rrsets ds among in
      let good = good_number r.number ds above r.is signed in
      let read = read_of ds.rdata delegates.records delegates.usable.ds delegates.read delegates.usable.among in
      let canonical = canonical_some (map (canonical_form ds.rtype) ds.rdata) in
      let Received : List (List ℕ) → Type 0 = λ all. Contains all read.octets in
      let p = number_of canonical.0 read.octets ((canonical.1.members read.octets).1 (subst Received (sym (own_forms ds delegates.rtype)) read.among)) in
      way_of k set key numbered signs (voucher.Ds (record { rrset = r.number; place = p.number }) delegates.usable.ds.digest_type) (
        record {
          rrset = ds;
          rdata = read.octets;
          at = record { is_rrset = r.is; canonical = canonical.0; is_canonical = canonical.1; is_rdata = p.is };
          rtype = delegates.rtype;
          ds = delegates.usable.ds;
          read = read.is;
          records = delegates.records;
          are_read = delegates.read;
          among = delegates.usable.among;
          usable = delegates.usable.usable;
          matching = delegates.usable.matching;
          digest = refl;
        },
        (good.signature, secured_by r.number ds parent above good.signature trusted stands good.good),
      )

  pub has_way : (k : ℕ) (set : ReceivedRrset) → IsNumbered setting.rrsets k set → Trusted set → HasWay k
  has_way k set numbered (anchored {key = key} among signs matching) =
      let n = number_of setting.anchors matching.anchor matching.among in
      by_anchor k set key numbered signs n.number matching.anchor n.is matching.matching
  has_way k set numbered (delegated {parent = parent} {ds = ds} {above = above} {key = key} trusted stands among signed delegates set_among signs) =
      by_ds k set parent ds above key numbered trusted stands among signed delegates signs

  pub trusted_among : (set : ReceivedRrset) → Trusted set → Contains setting.rrsets set
  trusted_among set (anchored among signs matching) = among
  trusted_among set (delegated trusted stands ds_among signed delegates among signs) = among

-- ---- the line of a DNSKEY RRset

module _ (setting : Setting) (k : ℕ) where
  pub not_trusted : IsNoWay setting k → ¬ IsTrustedSet setting k
  not_trusted none trusted = let way = has_way setting k trusted.0 trusted.1 trusted.2 in none way.way way.is

  pub the_line : (set : ReceivedRrset) (found : FoundWay) (zone : Labels) → IsNumbered setting.rrsets k set → IsFoundWay setting k found
      → zone ≡ set.owner
      → IsTrustedLine setting k (record {
        zone = zone;
        signature = record { rrset = k; signature = found.signature.number };
        key = found.key;
        voucher = found.voucher;
        todo = found.signature.todo;
      })
  the_line set found zone numbered is owner =
      let same : set ≡ is.first.is.set = one_numbered setting.rrsets k set is.first.is.set numbered is.first.is.good.is_rrset in record {
        way = record { voucher = found.voucher; key = is.key; signature = found.signature.number };
        first = is.first;
        zone = owner ∙ ap (λ (each : ReceivedRrset). each.owner) same;
        signature = refl;
        named = is.named;
        voucher = refl;
        todo = is.todo;
      }

  -- what is trusted has a way in, and what has is trusted
  pub way_in_or_not : (set : ReceivedRrset) (way : Option FoundWay) (some : Bool) → IsNumbered setting.rrsets k set
      → MatchOption way (IsNoWay setting k) (IsFoundWay setting k) → some ≡ is_some way
      → (some ≡ true) ↔ IsTrusted setting.meaning setting.moment setting.rrsets setting.anchors set
  way_in_or_not set None some numbered none is = (
    λ yes. let no : some ≡ false = is in cc,
    λ trusted. absurd (not_trusted none (set, numbered, trusted)),
  )
  way_in_or_not set (Some found) some numbered first is = (
    λ yes.
        let same : first.first.is.set ≡ set = one_numbered setting.rrsets k first.first.is.set set first.first.is.good.is_rrset numbered in
        let Is : ReceivedRrset → Type 0 = λ each. IsTrusted setting.meaning setting.moment setting.rrsets setting.anchors each in
        subst Is same (way_leads setting k _ first.first.is),
    λ trusted. is,
  )
