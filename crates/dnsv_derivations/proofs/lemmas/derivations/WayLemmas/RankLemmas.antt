-- How the first way into a DNSKEY RRset is found: anchors and DS records in their order.
use Rattle.std.proofs.Common.{◌≡◌, ◌≢◌, ◌<◌, ◌≤◌, ◌+◌, ◌-◌, ℕ, List, [], ◌∷◌, length, map, refl, sym, ap, ◌∙◌, subst, arith}
use Rattle.std.proofs.lemmas.Bool.Decides.{nat_tests}
use Rattle.std.proofs.lemmas.Option.{slice_get_within}
use Rattle.std.specs.List.{AllZip}
use Rattle.dnsv_records.specs.Ds.{IsDs}
use Rattle.dnsv_records.specs.declared.ds.Ds.{Ds}
use Rattle.dnsv_records.specs.declared.number.DigestType.{DigestType}
use Rattle.dnsv_canonical.specs.Canonical.{IsCanonical}
use Rattle.dnsv_canonical.specs.CanonicalRdata.{canonical_form}
use Rattle.dnsv_canonical.specs.Rdata.{rdata_of_type}
use Rattle.dnsv_canonical.specs.Rrsets.{IsNumbered, ReceivedRrset}
use Rattle.dnsv_verifier.specs.Admissible.{DnskeyRecord}
use Rattle.dnsv_chain.proofs.ChainLemmas.{its_rdata}
use Rattle.dnsv_chain.specs.Anchor.{IsAnchorMatch}
use Rattle.dnsv_anchors.specs.declared.anchor.Anchor.{Anchor}
use Rattle.dnsv_anchors.specs.declared.anchor.Anchor.TheVariants as anchor
use Rattle.dnsv_canonical.specs.declared.number.RecordNumber.{RecordNumber}
use Rattle.dnsv_derivations.specs.Explained.{Setting}
use Rattle.dnsv_derivations.specs.Following.{IsDsMatch}
use Rattle.dnsv_derivations.specs.derivations.WaySearch.{IsNoWay, IsNoWayBefore, IsNoneUnder, IsVoucherOf}
use Rattle.dnsv_derivations.specs.derivations.Ways.{HasSecured, IsWayInto, Way, record_at, voucher_rank}
use Rattle.dnsv_lines.specs.declared.line.derivation.Voucher.{Voucher}
use Rattle.dnsv_lines.specs.declared.line.derivation.Voucher.TheVariants as voucher
use Rattle.dnsv_canonical.proofs.NumberLemmas.{one_numbered}
use Rattle.dnsv_derivations.proofs.lemmas.derivations.WayLemmas.FirstLemmas.{IsTold, Matched, none_by}

-- ---- DS RRsets

ds_forms : (rdata : List (List ℕ)) → map (canonical_form 43) rdata ≡ rdata
ds_forms [] = refl
ds_forms (x ∷ xs) = ap (λ rest. x ∷ rest) (ds_forms xs)

-- DS RDATA is its own canonical form
pub own_forms : (ds : ReceivedRrset) → ds.rtype ≡ 43 → map (canonical_form ds.rtype) ds.rdata ≡ ds.rdata
own_forms ds rtype = ap (λ (t : ℕ). map (canonical_form t) ds.rdata) rtype ∙ ds_forms ds.rdata

pub forms_of : (rrset : ReceivedRrset) (canonical : List (List ℕ)) → rrset.rtype ≡ 43 → IsCanonical rrset.rdata canonical
    → IsCanonical (map (canonical_form rrset.rtype) rrset.rdata) canonical
forms_of rrset canonical rtype is =
    subst (λ (rdata : List (List ℕ)). IsCanonical rdata canonical) (sym (own_forms rrset rtype)) is

-- the records that are read of a DS RRset
pub ds_read : (ds : ReceivedRrset) (values : List Ds) → ds.rtype ≡ 43 → AllZip IsDs (rdata_of_type 43 ds) values
    → AllZip IsDs ds.rdata values
ds_read ds values rtype read =
    let Read : List (List ℕ) → Type 0 = λ rdata. AllZip IsDs rdata values in subst Read (its_rdata 43 ds rtype) read

module _ (setting : Setting) where
  -- ---- what a voucher of a rank is

  by_anchor : (told : Voucher) (key : DnskeyRecord) → Matched setting told key → (voucher_rank told).rrset ≡ 0
      → (each : Anchor) × IsNumbered setting.anchors (voucher_rank told).place each × IsAnchorMatch each key
  by_anchor (voucher.KeyAnchor number) key (owner, rdata, numbered, matching) first = (anchor.Key owner rdata, numbered, matching)
  by_anchor (voucher.DsAnchor number digest_type) key (owner, ds, numbered, digest, matching) first = (anchor.Ds owner ds, numbered, matching)
  by_anchor (voucher.Ds number digest_type) key (ds, secured) first =
      let counted = ds.at.is_rrset.0 in absurd (omega (arith, counted, first))

  pub by_record : (told : Voucher) (key : DnskeyRecord) → Matched setting told key → 1 ≤ (voucher_rank told).rrset
      → (digest_type : DigestType) × IsDsMatch setting.rrsets (voucher_rank told) digest_type key × HasSecured setting (voucher_rank told).rrset
  by_record (voucher.KeyAnchor number) key matched counted = absurd (omega (arith, counted))
  by_record (voucher.DsAnchor number digest_type) key matched counted = absurd (omega (arith, counted))
  by_record (voucher.Ds number digest_type) key (ds, secured) counted = (digest_type, ds, secured)

  place_counted : (told : Voucher) (key : DnskeyRecord) → Matched setting told key → 1 ≤ (voucher_rank told).place
  place_counted (voucher.KeyAnchor number) key (owner, rdata, numbered, matching) = numbered.0
  place_counted (voucher.DsAnchor number digest_type) key (owner, ds, numbered, digest, matching) = numbered.0
  place_counted (voucher.Ds number digest_type) key (ds, secured) = ds.at.is_rdata.0

  -- ---- one rank after another

  module _ (k : ℕ) where
    pub first_place : (rrset : ℕ) → IsNoWayBefore setting k rrset 0 → IsNoWayBefore setting k rrset 1
    first_place rrset none way is less =
        let before = none way is in
        let counted = place_counted way.voucher way.key is.matched in grind (arith, nat_tests, before, counted, less)

    pub anchors_begin : IsNoWayBefore setting k 0 1
    anchors_begin = first_place 0 (λ way is less. grind (arith, nat_tests, less))

    -- what stands at a place isn't it
    pub next_place : (rrset place : ℕ)
        → ((way : Way) → IsWayInto setting k way → voucher_rank way.voucher ≢ record_at rrset place)
        → IsNoWayBefore setting k rrset place → IsNoWayBefore setting k rrset (place + 1)
    next_place rrset place never none way is less =
        let before = none way is in
        let number = voucher_rank way.voucher in
        let here : (number.rrset ≡ rrset) × (number.place ≡ place) = grind (arith, nat_tests, before, less) in
        never way is (λ i. record { rrset = here.0 i; place = here.1 i })

    -- nothing of the RRset stands there or behind
    pub next_rrset : (rrset place : ℕ)
        → ((way : Way) → IsWayInto setting k way → (voucher_rank way.voucher).rrset ≡ rrset → (voucher_rank way.voucher).place < place)
        → IsNoWayBefore setting k rrset place → IsNoWayBefore setting k (rrset + 1) 0
    next_rrset rrset place within none way is less =
        let before = none way is in let inside = within way is in grind (arith, nat_tests, before, inside, less)

    pub rrsets_passed : (from to : ℕ)
        → ((way : Way) → IsWayInto setting k way → from ≤ (voucher_rank way.voucher).rrset → to ≤ (voucher_rank way.voucher).rrset)
        → IsNoWayBefore setting k from 0 → IsNoWayBefore setting k to 0
    rrsets_passed from to behind none way is less =
        let before = none way is in let past = behind way is in grind (arith, nat_tests, before, past, less)

    pub records_end : (n : ℕ) → length setting.rrsets < n → IsNoWayBefore setting k n 0 → IsNoWay setting k
    records_end n past none way is =
        let before = none way is in
        let behind : n ≤ (voucher_rank way.voucher).rrset = grind (arith, nat_tests, before) in
        let ds = by_record way.voucher way.key is.matched (omega (arith, behind, past)) in
        let within = slice_get_within setting.rrsets ((voucher_rank way.voucher).rrset - 1) ds.1.rrset ds.1.at.is_rrset.1 in
        omega (arith, behind, past, within)

    module _ (set : ReceivedRrset) (numbered : IsNumbered setting.rrsets k set) where
      pub none_there : (rrset place : ℕ) (told : Voucher) (Matches : DnskeyRecord → Type 0) → IsTold setting rrset place told Matches
          → IsNoneUnder setting k set Matches → IsNoWayBefore setting k rrset place → IsNoWayBefore setting k rrset (place + 1)
      none_there rrset place told Matches at none =
          next_place rrset place
          (λ way is same. none_by setting k set numbered Matches none way is (at.only way.voucher way.key is.matched same))

  -- ---- anchors

  anchor_is : (number : ℕ) (each : Anchor) (told : Voucher) → IsNumbered setting.anchors number each → IsVoucherOf number each told
      → (voucher_rank told ≡ record_at 0 number) × ((key : DnskeyRecord) → IsAnchorMatch each key → Matched setting told key)
  anchor_is number (anchor.Ds owner ds) told numbered is = (
    ap voucher_rank is,
    λ key matching. subst (λ (each : Voucher). Matched setting each key) (sym is) (owner, ds, numbered, refl, matching),
  )
  anchor_is number (anchor.Key owner rdata) told numbered is = (
    ap voucher_rank is,
    λ key matching. subst (λ (each : Voucher). Matched setting each key) (sym is) (owner, rdata, numbered, matching),
  )

  pub anchor_told : (number : ℕ) (each : Anchor) (told : Voucher) → IsNumbered setting.anchors number each
      → IsVoucherOf number each told → IsTold setting 0 number told (IsAnchorMatch each)
  anchor_told number each told numbered is = record {
    rank = (anchor_is number each told numbered is).0;
    matches = (anchor_is number each told numbered is).1;
    only = λ other key matched same.
        let by = by_anchor other key matched (ap (λ (n : RecordNumber). n.rrset) same) in
        let At : ℕ → Type 0 = λ n. IsNumbered setting.anchors n by.0 in
        let there : by.0 ≡ each =
        one_numbered setting.anchors number by.0 each (subst At (ap (λ (n : RecordNumber). n.place) same) by.1) numbered in
        subst (λ (one : Anchor). IsAnchorMatch one key) there by.2;
  }

  pub anchors_end : (k n : ℕ) → length setting.anchors ≤ n → IsNoWayBefore setting k 0 (n + 1) → IsNoWayBefore setting k 1 0
  anchors_end k n past = next_rrset k 0 (n + 1) (λ way is first.
      let by = by_anchor way.voucher way.key is.matched first in
      let within = slice_get_within setting.anchors ((voucher_rank way.voucher).place - 1) by.0 by.1.1 in
      omega (arith, within, past))
