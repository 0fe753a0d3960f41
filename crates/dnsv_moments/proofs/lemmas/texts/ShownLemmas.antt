-- What is shown of borders and their signatures.
use Rattle.std.proofs.Common.{◌≡◌, ℕ, ◌+◌, ◌-◌, List, [], ◌∷◌, ◌++◌, drop, refl, sym, ap, ◌∙◌, subst, append_assoc}
use Rattle.std.proofs.lemmas.List.{append-nil}
use Rattle.std.specs.List.{AllZip}
use Rattle.dnsv_records.specs.Rrsig.{IsRrsig}
use Rattle.dnsv_records.specs.declared.rrsig.Rrsig.{Rrsig}
use Rattle.dnsv_canonical.specs.Rrsets.{IsNumbered, ReceivedRrset}
use Rattle.dnsv_canonical.specs.declared.number.SignatureNumber.{SignatureNumber}
use Rattle.dnsv_lines.specs.declared.line.fault.signature.ShownSignature.{ShownSignature}
use Rattle.dnsv_moments.specs.Dates.{times_of}
use Rattle.dnsv_moments.specs.declared.texts.borders.Border.{Border}
use Rattle.dnsv_derivations.proofs.lemmas.intervals.ShownLemmas.{rdata_at}
use Rattle.dnsv_derivations.specs.Listing.{AreOfEach}
use Rattle.dnsv_moments.proofs.DatedLemmas.{none_dated}
use Rattle.dnsv_moments.specs.texts.Following.{AddsShown}
use Rattle.dnsv_moments.specs.texts.Shown.{AreShownAs, IsSignatureShown, shown_of}
use Rattle.dnsv_moments.specs.declared.texts.shown.ShownBorder.{ShownBorder}

-- ---- each of a list

module _ (rrsets : List ReceivedRrset) (borders : List Border) where
  -- what is behind the place completes the list
  pub record AreShownTo (i : ℕ) (all : List ShownBorder) : Type 0 where
    pub rest : (others : List ShownBorder) → AreOfEach (AreShownAs rrsets) (drop i borders) others
        → AreOfEach (AreShownAs rrsets) borders (all ++ others)

  pub shown_more : (i : ℕ) (border : Border) (old new : List ShownBorder) → drop i borders ≡ border ∷ drop (i + 1) borders
      → AreShownTo i old → AddsShown rrsets border old new → AreShownTo (i + 1) new
  shown_more i border old new here so_far adds = record {
    rest = λ others are.
        let parted : AreOfEach (AreShownAs rrsets) (border ∷ drop (i + 1) borders) (adds.some ++ others) =
        record { first = adds.some; second = others; parts = refl; is_first = adds.are; is_second = are } in
        let there : AreOfEach (AreShownAs rrsets) (drop i borders) (adds.some ++ others) =
        subst (λ (bs : List Border). AreOfEach (AreShownAs rrsets) bs (adds.some ++ others)) (sym here) parted in
        subst (AreOfEach (AreShownAs rrsets) borders)
        (sym (append_assoc old adds.some others) ∙ ap (λ (ss : List ShownBorder). ss ++ others) (sym adds.is))
        (so_far.rest (adds.some ++ others) there);
  }

  pub shown_all : (i : ℕ) (all : List ShownBorder) → drop i borders ≡ [] → AreShownTo i all → AreOfEach (AreShownAs rrsets) borders all
  shown_all i all end so_far =
      subst (AreOfEach (AreShownAs rrsets) borders) (append-nil all)
      (so_far.rest [] (subst (λ (bs : List Border). AreOfEach (AreShownAs rrsets) bs []) (sym end) refl))

-- ---- one of them

module _ (rrsets : List ReceivedRrset) (number : SignatureNumber) (rrset : ReceivedRrset) (rrsigs : List Rrsig)
    (is_rrset : IsNumbered rrsets number.rrset rrset) (zip : AllZip IsRrsig rrset.signatures rrsigs) where
  pub none_shown : ((rrsig : Rrsig) → ¬ IsNumbered rrsigs number.signature rrsig) → (shown : ShownSignature)
      → ¬ IsSignatureShown rrsets number shown
  none_shown none shown is =
      none_dated rrsets number rrset rrsigs is_rrset zip none (record { number = number; times = times_of is.rrsig })
      (record {
        same = refl;
        rrset = is.rrset;
        is_rrset = is.is_rrset;
        rdata = is.rdata;
        is_signature = is.is_signature;
        rrsig = is.rrsig;
        read = is.read;
        times = refl;
      })

  pub some_shown : (rrsig : Rrsig) → IsNumbered rrsigs number.signature rrsig → (shown : ShownSignature)
      → shown ≡ shown_of number rrset rrsig → IsSignatureShown rrsets number shown
  some_shown rrsig numbered shown is =
      let there = rdata_at rrset.signatures rrsigs (number.signature - 1) rrsig zip numbered.1 in record {
        rrset = rrset;
        is_rrset = is_rrset;
        rdata = there.0;
        is_signature = (numbered.0, there.1);
        rrsig = rrsig;
        read = there.2;
        is = is;
      }
