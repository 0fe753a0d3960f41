-- What is so of trust anchors and of DS RRsets is one.
use Rattle.std.proofs.Common.{◌≡◌, ◌∙◌, ◌+◌, inl, inr, ℕ, List, [], ◌∷◌, Option, sym, subst}
use Rattle.std.specs.List.{AllZip}
use Rattle.dnsv_names.specs.Name.{Labels}
use Rattle.dnsv_records.specs.Ds.{IsDs}
use Rattle.dnsv_records.specs.declared.ds.Ds.{Ds}
use Rattle.dnsv_records.proofs.OneRecord.{one_ds}
use Rattle.dnsv_canonical.proofs.CanonicalLemmas.{canonical_unique}
use Rattle.dnsv_canonical.specs.Canonical.{IsCanonical}
use Rattle.dnsv_canonical.specs.Index.{numbers_at}
use Rattle.dnsv_canonical.specs.Rrsets.{ReceivedRrset}
use Rattle.dnsv_chain.proofs.ChainLemmas.{same_ds}
use Rattle.dnsv_anchors.specs.declared.anchor.Anchor.{Anchor}
use Rattle.dnsv_chain.specs.Basis.{Basis}
use Rattle.dnsv_lines.specs.declared.line.fault.zone.EntryNumber.{EntryNumber}
use Rattle.dnsv_lines.specs.declared.line.fault.zone.EntryNumber.TheVariants as number
use Rattle.dnsv_lines.specs.declared.line.fault.zone.WhyEntry.{WhyEntry}
use Rattle.dnsv_mending.specs.declared.facts.keys.VoucherFacts.{VoucherFacts}
use Rattle.dnsv_mending.specs.declared.facts.zone.DsFacts.{DsFacts}
use Rattle.dnsv_zone_faults.specs.Groups.{AreAllDsFacts, AreAnchorFacts, AreAnchorFactsFrom, AreDsFacts, AreRecordFacts, anchor_wanted}
use Rattle.dnsv_zone_keys.specs.Vouchers.{AreMatches, AreVoucherFacts, IsVoucherFault, Wanted, voucher_faults}
use Rattle.dnsv_zone_keys.specs.Vouchers.Wanted.{by_digest}
use Rattle.dnsv_canonical.proofs.NumberLemmas.{one_numbered}
use Rattle.dnsv_remedy_laws.specs.AlikeZones.{AreAlikeDs, AreAlikeVouchers}
use Rattle.dnsv_reasons.proofs.lemmas.facts.ListLemmas.{alike_zip, one_first, one_rising_of}
use Rattle.dnsv_reasons.proofs.lemmas.facts.RrsetLemmas.{one_rrset_facts}

module _ (rrsets : List ReceivedRrset) (zone : Labels) where
  -- ---- what vouches for keys

  one_matches : (wanted : Wanted) (why : Option WhyEntry) (a b : List ℕ) → AreMatches rrsets zone wanted why a
      → AreMatches rrsets zone wanted why b → a ≡ b
  one_matches wanted why a b x y = one_rising_of _ a b x.rising y.rising x.members y.members

  pub one_voucher_facts : (n : EntryNumber) (wanted : Wanted) (a b : VoucherFacts) → AreVoucherFacts rrsets zone n wanted a
      → AreVoucherFacts rrsets zone n wanted b → AreAlikeVouchers a b
  one_voucher_facts n wanted a b x y =
      let why : a.why ≡ b.why = one_first (IsVoucherFault rrsets zone wanted) voucher_faults a.why b.why x.fault y.fault in
      let Matched : Option WhyEntry → Type 0 = λ each. AreMatches rrsets zone wanted each a.matches.items in
      record {
        number = x.number_is ∙ sym y.number_is;
        why = why;
        name = x.name ∙ sym y.name;
        matches = one_matches wanted b.why a.matches.items b.matches.items (subst Matched why x.matched) y.matched;
      }

  -- ---- trust anchors

  abbrev AreAlike : List VoucherFacts → List VoucherFacts → Type 0
  AreAlike a b = AllZip AreAlikeVouchers a b

  one_anchors_from : (n : ℕ) (anchors : List Anchor) (a b : List VoucherFacts) → AreAnchorFactsFrom rrsets zone n anchors a
      → AreAnchorFactsFrom rrsets zone n anchors b → AreAlike a b
  one_anchors_from n [] a b x y =
      subst (λ (each : List VoucherFacts). AreAlike each b) (sym x) (subst (λ (each : List VoucherFacts). AreAlike [] each) (sym y) tt)
  one_anchors_from n (anchor ∷ anchors) a b (inl x) (inl y) =
      let first = x.1 in
      let second = y.1 in
      let rest : AreAlike first.1 second.1 = one_anchors_from (n + 1) anchors first.1 second.1 first.3 second.3 in
      let head : AreAlikeVouchers first.0 second.0 =
      one_voucher_facts (number.Anchor n) (anchor_wanted anchor) first.0 second.0 first.2 second.2 in
      let both : AreAlike (first.0 ∷ first.1) (second.0 ∷ second.1) = (head, rest) in
      subst (λ (each : List VoucherFacts). AreAlike each b) (sym first.4)
      (subst (λ (each : List VoucherFacts). AreAlike (first.0 ∷ first.1) each) (sym second.4) both)
  one_anchors_from n (anchor ∷ anchors) a b (inl x) (inr y) = absurd (y.0 x.0)
  one_anchors_from n (anchor ∷ anchors) a b (inr x) (inl y) = absurd (x.0 y.0)
  one_anchors_from n (anchor ∷ anchors) a b (inr x) (inr y) = one_anchors_from (n + 1) anchors a b x.1 y.1

  -- ---- the records of a DS RRset

  one_records : (k : ℕ) (records : List Ds) (place : ℕ) (canonical : List (List ℕ)) (a b : List VoucherFacts)
      → AreRecordFacts rrsets zone k records place canonical a → AreRecordFacts rrsets zone k records place canonical b → AreAlike a b
  one_records k records place [] [] [] x y = tt
  one_records k records place [] [] (other ∷ b) x y = absurd y
  one_records k records place [] (known ∷ a) b x y = absurd x
  one_records k records place (rdata ∷ rest) [] b x y = absurd x
  one_records k records place (rdata ∷ rest) (known ∷ a) [] x y = absurd y
  one_records k records place (rdata ∷ rest) (known ∷ a) (other ∷ b) x y =
      let first = x.0 in
      let second = y.0 in
      let its : EntryNumber = number.Ds (record { rrset = k; place = place }) in
      let ds : first.0 ≡ second.0 = one_ds rdata first.0 second.0 first.1 second.1 in
      let Of : Ds → Type 0 = λ each. AreVoucherFacts rrsets zone its (by_digest records each) known in
      let head : AreAlikeVouchers known other =
      one_voucher_facts its (by_digest records second.0) known other (subst Of ds first.2) second.2 in
      (head, one_records k records (place + 1) rest a b x.1 y.1)

pub one_anchor_facts : (basis : Basis) (zone : Labels) (a b : List VoucherFacts) → AreAnchorFacts basis zone a → AreAnchorFacts basis zone b
    → AllZip AreAlikeVouchers a b
one_anchor_facts basis zone a b x y = one_anchors_from basis.rrsets zone 1 basis.anchors a b x y

-- ---- DS RRsets

module _ (basis : Basis) (zone : Labels) where
  pub one_ds_facts : (k : ℕ) (a b : DsFacts) → AreDsFacts basis zone k a → AreDsFacts basis zone k b → AreAlikeDs a b
  one_ds_facts k a b x y =
      let set : x.set ≡ y.set = one_numbered basis.rrsets k x.set y.set x.numbered y.numbered in
      let Read : ReceivedRrset → Type 0 = λ each. AllZip IsDs each.rdata x.records in
      let records : x.records ≡ y.records = same_ds y.set.rdata x.records y.records (subst Read set x.read) y.read in
      let InOrder : ReceivedRrset → Type 0 = λ each. IsCanonical each.rdata x.canonical in
      let canonical : x.canonical ≡ y.canonical =
      canonical_unique y.set.rdata x.canonical y.canonical (subst InOrder set x.in_order) y.in_order in
      let Of : List Ds → Type 0 = λ each. AreRecordFacts basis.rrsets zone k each 1 x.canonical a.records.items in
      let By : List (List ℕ) → Type 0 = λ each. AreRecordFacts basis.rrsets zone k y.records 1 each a.records.items in
      record {
        rrset = one_rrset_facts basis k a.rrset b.rrset x.rrset y.rrset;
        records =
            one_records basis.rrsets zone k y.records 1 y.canonical a.records.items b.records.items
            (subst By canonical (subst Of records x.each)) y.each;
      }

  pub one_all_ds_facts : (a b : List DsFacts) → AreAllDsFacts basis zone a → AreAllDsFacts basis zone b → AllZip AreAlikeDs a b
  one_all_ds_facts a b x y = alike_zip (AreDsFacts basis zone) AreAlikeDs one_ds_facts (numbers_at basis.rrsets zone 43) a b x y
