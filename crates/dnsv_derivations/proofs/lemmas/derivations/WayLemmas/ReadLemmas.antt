-- The records of a DS RRset, which are read in canonical order.
use Rattle.std.proofs.Common.{◌≡◌, ◌<◌, ◌≤◌, ◌+◌, ◌-◌, ℕ, List, length, map, get_or, refl, sym, ap, ◌∙◌, subst, arith}
use Rattle.std.proofs.lemmas.List.{get_or-map, length-map}
use Rattle.std.proofs.lemmas.Option.{slice_get_within}
use Rattle.std.specs.List.{AllByRecursion, AllZip, Contains}
use Rattle.dnsv_names.specs.Name.{Labels}
use Rattle.dnsv_records.proofs.OneRecord.{one_ds}
use Rattle.dnsv_records.specs.Ds.{IsDs}
use Rattle.dnsv_records.specs.declared.ds.Ds.{Ds}
use Rattle.dnsv_records.specs.declared.number.DigestType.{DigestType}
use Rattle.dnsv_canonical.proofs.CanonicalLemmas.{canonical_unique}
use Rattle.dnsv_canonical.specs.Canonical.{IsCanonical}
use Rattle.dnsv_canonical.specs.CanonicalRdata.{canonical_form}
use Rattle.dnsv_canonical.specs.Rdata.{rdata_of_type}
use Rattle.dnsv_canonical.specs.Rrsets.{IsNumbered, ReceivedRrset}
use Rattle.dnsv_verifier.specs.Admissible.{DnskeyRecord}
use Rattle.dnsv_chain.proofs.ChainLemmas.{same_ds}
use Rattle.dnsv_chain.proofs.ZipLemmas.{zip_at, zip_length}
use Rattle.dnsv_anchors.specs.Ds.{IsUsable}
use Rattle.dnsv_chain.specs.Ds.{IsMatch}
use Rattle.dnsv_denial.specs.gathering.Evidence.{IsRecordAt}
use Rattle.dnsv_canonical.specs.declared.number.RecordNumber.{RecordNumber}
use Rattle.dnsv_derivations.specs.Explained.{Setting}
use Rattle.dnsv_derivations.specs.Following.{IsDsMatch}
use Rattle.dnsv_derivations.specs.derivations.WaySearch.{IsFirstUnder, IsFoundWay, IsNoWayBefore, IsNoneUnder}
use Rattle.dnsv_derivations.specs.derivations.Ways.{HasSecured, record_at, voucher_rank}
use Rattle.dnsv_lines.specs.declared.line.derivation.Voucher.{Voucher}
use Rattle.dnsv_lines.specs.declared.line.derivation.Voucher.TheVariants as voucher
use Rattle.dnsv_derivations.specs.declared.derivations.ways.FoundWay.{FoundWay}
use Rattle.dnsv_derivations.proofs.lemmas.NumberedLemmas.{among, numbered_at}
use Rattle.dnsv_canonical.proofs.NumberLemmas.{one_numbered}
use Rattle.dnsv_derivations.proofs.lemmas.derivations.WayLemmas.FirstLemmas.{IsTold, found_first}
use Rattle.dnsv_derivations.proofs.lemmas.derivations.WayLemmas.KeysLemmas.{each_at}
use Rattle.dnsv_derivations.proofs.lemmas.derivations.WayLemmas.RankLemmas.{by_record, ds_read, forms_of, next_rrset, none_there}

module _ {X : Type 0} (rdata : X → List ℕ) (record_of : X → Ds) (setting : Setting)
    (from : ℕ) (ds : ReceivedRrset) (is_ds : IsNumbered setting.rrsets from ds) (rtype : ds.rtype ≡ 43)
    (values : List Ds) (read : AllZip IsDs (rdata_of_type 43 ds) values)
    (records items : List X) (same : items ≡ records) (canonical : IsCanonical ds.rdata (map rdata records))
    (are_read : AllByRecursion (λ x. IsDs (rdata x) (record_of x)) records) where
  its_values : AllZip IsDs ds.rdata values
  its_values = ds_read ds values rtype read

  in_order : IsCanonical ds.rdata (map rdata items)
  in_order = subst (λ (each : List X). IsCanonical ds.rdata (map rdata each)) (sym same) canonical

  -- a record of the RRset stands in the list
  its_place : (number : RecordNumber) (rrset : ReceivedRrset) (octets : List ℕ) → number.rrset ≡ from
      → IsRecordAt setting.rrsets number rrset octets → (rrset ≡ ds) × IsNumbered (map rdata items) number.place octets
  its_place number rrset octets of at =
      let Numbered : ℕ → Type 0 = λ n. IsNumbered setting.rrsets n rrset in
      let one : rrset ≡ ds = one_numbered setting.rrsets from rrset ds (subst Numbered of at.is_rrset) is_ds in
      let Canonical : ReceivedRrset → Type 0 = λ each. IsCanonical (map (canonical_form each.rtype) each.rdata) at.canonical in
      let lists : at.canonical ≡ map rdata items =
      canonical_unique (map (canonical_form ds.rtype) ds.rdata) at.canonical (map rdata items) (subst Canonical one at.is_canonical)
      (forms_of ds (map rdata items) rtype in_order) in
      (one, subst (λ (list : List (List ℕ)). IsNumbered list number.place octets) lists at.is_rdata)

  pub record_within : (number : RecordNumber) (digest_type : DigestType) (key : DnskeyRecord) → IsDsMatch setting.rrsets number digest_type key
      → number.rrset ≡ from → number.place ≤ length items
  record_within number digest_type key is of =
      let there = (its_place number is.rrset is.rdata of is.at).1 in
      let counted = there.0 in
      let within = slice_get_within (map rdata items) (number.place - 1) is.rdata there.1 in
      let size = length-map items rdata in omega (arith, counted, within, size)

  module _ (place : ℕ) (x : X) (within : place < length items) (at : x ≡ get_or items place x) where
    is_read : IsDs (rdata x) (record_of x)
    is_read =
        each_at (λ y. IsDs (rdata y) (record_of y)) items place x
        (subst (λ (each : List X). AllByRecursion (λ y. IsDs (rdata y) (record_of y)) each) (sym same) are_read) within at

    numbered : IsNumbered (map rdata items) (place + 1) (rdata x)
    numbered =
        let size = length-map items rdata in
        numbered_at (map rdata items) (map rdata items) place (rdata x) refl (omega (arith, size, within))
        (ap rdata at ∙ sym (get_or-map rdata items place x (rdata x) within))

    is_value : Contains values (record_of x)
    is_value =
        let received : Contains ds.rdata (rdata x) =
        (in_order.members (rdata x)).0 (among (map rdata items) (place + 1) (rdata x) numbered) in
        let sizes = zip_length IsDs ds.rdata values its_values in
        let long = received.1 in
        let Read : List ℕ → Type 0 = λ octets. IsDs octets (get_or values received.0 (record_of x)) in
        let there = subst Read received.2 (zip_at IsDs ds.rdata values received.0 (rdata x) (record_of x) its_values long) in
        (received.0, omega (arith, sizes, long), one_ds (rdata x) (get_or values received.0 (record_of x)) (record_of x) there is_read)

    pub record_said : (key : DnskeyRecord) → IsUsable values (record_of x) → IsMatch ds.owner (record_of x) key
        → IsDsMatch setting.rrsets (record_at from (place + 1)) (record_of x).digest_type key
    record_said key usable matching = record {
      rrset = ds;
      rdata = rdata x;
      at = record {
        is_rrset = is_ds;
        canonical = map rdata items;
        is_canonical = forms_of ds (map rdata items) rtype in_order;
        is_rdata = numbered;
      };
      rtype = rtype;
      ds = record_of x;
      read = is_read;
      records = values;
      are_read = its_values;
      among = is_value;
      usable = usable;
      matching = matching;
      digest = refl;
    }

    -- what is said of a record with the number is said of this one
    pub same_record : (number : RecordNumber) (digest_type : DigestType) (key : DnskeyRecord) → IsDsMatch setting.rrsets number digest_type key
        → number ≡ record_at from (place + 1) → IsUsable values (record_of x) × IsMatch ds.owner (record_of x) key
    same_record number digest_type key is here =
        let there = its_place number is.rrset is.rdata (ap (λ (n : RecordNumber). n.rrset) here) is.at in
        let At : RecordNumber → Type 0 = λ n. IsNumbered (map rdata items) n.place is.rdata in
        let octets : is.rdata ≡ rdata x = one_numbered (map rdata items) (place + 1) is.rdata (rdata x) (subst At here there.1) numbered in
        let Read : List ℕ → Type 0 = λ each. IsDs each is.ds in
        let value : is.ds ≡ record_of x = one_ds (rdata x) is.ds (record_of x) (subst Read octets is.read) is_read in
        let Zip : ReceivedRrset → Type 0 = λ each. AllZip IsDs each.rdata is.records in
        let all : is.records ≡ values = same_ds ds.rdata is.records values (subst Zip there.0 is.are_read) its_values in (
          subst (λ (T : Type 0). T) (λ i. IsUsable (all i) (value i)) is.usable,
          subst (λ (T : Type 0). T) (λ i. IsMatch (there.0 i).owner (value i) key) is.matching,
        )

  -- ---- ways

  module _ (k : ℕ) (set : ReceivedRrset) (is_set : IsNumbered setting.rrsets k set) where
    pub all_passed : (n : ℕ) → length items ≤ n → IsNoWayBefore setting k from (n + 1) → IsNoWayBefore setting k (from + 1) 0
    all_passed n past = next_rrset setting k from (n + 1) (λ way is here.
        let counted = is_ds.0 in
        let by = by_record setting way.voucher way.key is.matched (omega (arith, counted, here)) in
        let within = record_within (voucher_rank way.voucher) by.0 way.key by.1 here in omega (arith, within, past))

    module _ (secured : HasSecured setting from) (place : ℕ) (x : X) (within : place < length items) (at : x ≡ get_or items place x) where
      abbrev told : Voucher
      told = voucher.Ds (record_at from (place + 1)) (record_of x).digest_type

      record_told : IsTold setting from (place + 1) told (λ key. IsUsable values (record_of x) × IsMatch ds.owner (record_of x) key)
      record_told = record {
        rank = refl;
        matches = λ key such. (record_said place x within at key such.0 such.1, secured);
        only = λ other key matched here.
            let counted = is_ds.0 in
            let of : (voucher_rank other).rrset ≡ from = ap (λ (n : RecordNumber). n.rrset) here in
            let by = by_record setting other key matched (omega (arith, counted, of)) in
            same_record place x within at (voucher_rank other) by.0 key by.1 here;
      }

      pub unusable_passed : ¬ IsUsable values (record_of x) → IsNoWayBefore setting k from (place + 1)
          → IsNoWayBefore setting k from (place + 1 + 1)
      unusable_passed unusable =
          none_there setting k set is_set from (place + 1) told _ record_told (λ other stands such. unusable such.1.0)

      pub unmatched_passed : (owner : Labels) → owner ≡ ds.owner → IsNoneUnder setting k set (IsMatch owner (record_of x))
          → IsNoWayBefore setting k from (place + 1) → IsNoWayBefore setting k from (place + 1 + 1)
      unmatched_passed owner its under =
          let Under : Labels → Type 0 = λ each. IsNoneUnder setting k set (IsMatch each (record_of x)) in
          none_there setting k set is_set from (place + 1) told _ record_told
          (λ other stands such. subst Under its under other stands (such.0, such.1.1, such.2))

      pub found_by : (owner : Labels) (found : FoundWay) → IsUsable values (record_of x) → owner ≡ ds.owner
          → IsNoWayBefore setting k from (place + 1) → IsFirstUnder setting k set (IsMatch owner (record_of x)) told found
          → IsFoundWay setting k found
      found_by owner found usable its none under =
          let Under : Labels → Type 0 = λ each. IsFirstUnder setting k set (IsMatch each (record_of x)) told found in
          found_first setting k set is_set from (place + 1) told (IsMatch ds.owner (record_of x)) found
          (record {
            rank = refl;
            matches = λ key matching. record_told.matches key (usable, matching);
            only = λ other key matched here. (record_told.only other key matched here).1;
          })
          none (subst Under its under)
