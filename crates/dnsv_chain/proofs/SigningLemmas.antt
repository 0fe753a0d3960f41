-- Signatures under some keys, and their numbers.
pub mod GoodLemmas
pub mod NumberLemmas
use Rattle.std.proofs.Common.{◌≡◌, ◌<◌, ◌≤◌, ◌+◌, ◌-◌, ℕ, List, [], ◌∷◌, ◌++◌, length, get_or, sym, ap, ◌∙◌, subst, arith, ⊎_elim}
use Rattle.std.proofs.lemmas.Bool.{cases_lt}
use Rattle.std.proofs.lemmas.List.{get_or_append_left, get_or_push, length-append}
use Rattle.std.proofs.lemmas.List.Elements.{Contains-get_or, Contains-append_left, Contains-push, Contains-push_cases}
use Rattle.std.proofs.lemmas.Option.{slice_get_within, slice_get-get_or, get_or_from_slice_get}
use Rattle.std.specs.List.{AllZip, Contains, slice_get}
use Rattle.std.specs.List.Sorted.{IsStrictlyIncreasing}
use Rattle.dnsv_names.specs.Name.{Labels}
use Rattle.dnsv_records.proofs.OneRecord.{one_rrsig}
use Rattle.dnsv_records.specs.Rrsig.{IsRrsig}
use Rattle.dnsv_records.specs.declared.rrsig.Rrsig.{Rrsig}
use Rattle.dnsv_canonical.specs.Rrsets.{ReceivedRrset}
use Rattle.dnsv_verifier.specs.Admissible.{DnskeyRecord, IsGood, IsVerifiable}
use Rattle.dnsv_verifier.specs.declared.answer.Answer.{Answer}
use Rattle.dnsv_verifier.specs.declared.entry.Entry.{Entry}
use Rattle.dnsv_chain.proofs.ZipLemmas.{zip_at, zip_length}
use Rattle.dnsv_chain.specs.Signing.{AreGoodNumbers, AreGoodNumbersTo, IsGoodNumber, IsGoodUnderSome, IsSignedUnderSome, MayHaveMadeOne}

module _ (meaning : Entry → Answer) (moment : ℕ) (rrset : ReceivedRrset) (rrsig : Rrsig) (keys : List DnskeyRecord) where
  -- what is good can be verified, under a key that may have made it
  pub none_made : ¬ MayHaveMadeOne keys rrsig → IsGoodUnderSome meaning moment rrset rrsig keys → ⊥
  none_made none good =
      let admissible = good.good.admissible in
      none (record { key = good.key; among = good.among; made = record { zone_key = admissible.zone_key; named = admissible.named } })

  pub not_verifiable : ¬ IsVerifiable moment rrset rrsig → IsGoodUnderSome meaning moment rrset rrsig keys → ⊥
  not_verifiable never good =
      let admissible = good.good.admissible in
      never (record { over = admissible.over; timely = admissible.timely; signer = admissible.signer; unexpanded = admissible.unexpanded })

length_push : (xs : List ℕ) (y : ℕ) → length (xs ++ y ∷ []) ≡ length xs + 1
length_push xs y = length-append xs (y ∷ [])

-- ---- the signatures of an RRset, at their places

-- the RDATA of the signature at a place
pub signature_at : (rrset : ReceivedRrset) (rrsigs : List Rrsig) (i : ℕ) (rrsig : Rrsig) → AllZip IsRrsig rrset.signatures rrsigs
    → i < length rrsigs → rrsig ≡ get_or rrsigs i rrsig → (d : List ℕ) → IsRrsig (get_or rrset.signatures i d) rrsig
signature_at rrset rrsigs i rrsig each within at d =
    let sizes = zip_length IsRrsig rrset.signatures rrsigs each in
    subst (λ (r : Rrsig). IsRrsig (get_or rrset.signatures i d) r) (sym at)
    (zip_at IsRrsig rrset.signatures rrsigs i d rrsig each (omega (arith, sizes, within)))

module _ (meaning : Entry → Answer) (moment : ℕ) (rrset : ReceivedRrset) (rrsigs : List Rrsig) (each : AllZip IsRrsig rrset.signatures rrsigs) where
  sizes : length rrset.signatures ≡ length rrsigs
  sizes = zip_length IsRrsig rrset.signatures rrsigs each

  module _ (keys : List DnskeyRecord) where
    pub signed_found : (i : ℕ) (rrsig : Rrsig) → i < length rrsigs → rrsig ≡ get_or rrsigs i rrsig
        → IsGoodUnderSome meaning moment rrset rrsig keys → IsSignedUnderSome meaning moment rrset keys
    signed_found i rrsig within at good = record {
      key = good.key;
      among = good.among;
      signed = record {
        rrsig = rrsig;
        its = (get_or rrset.signatures i [], Contains-get_or rrset.signatures i [] (omega (arith, sizes, within)), signature_at rrset rrsigs i rrsig each within at []);
        good = good.good;
      };
    }

    pub none_signed : (n : ℕ) → length rrsigs ≤ n
        → ((k : ℕ) (d : Rrsig) → k < n → IsGoodUnderSome meaning moment rrset (get_or rrsigs k d) keys → ⊥)
        → IsSignedUnderSome meaning moment rrset keys → ⊥
    none_signed n past none signed =
        let its = signed.signed.its in
        let rrsig = signed.signed.rrsig in
        let k : ℕ = its.1.0 in
        let within : k < length rrset.signatures = its.1.1 in
        let there : IsRrsig its.0 (get_or rrsigs k rrsig) =
        subst (λ (rdata : List ℕ). IsRrsig rdata (get_or rrsigs k rrsig)) its.1.2 (zip_at IsRrsig rrset.signatures rrsigs k its.0 rrsig each within) in
        let same : rrsig ≡ get_or rrsigs k rrsig = one_rrsig its.0 rrsig (get_or rrsigs k rrsig) its.2 there in
        none k rrsig (omega (arith, sizes, within, past))
        (record { key = signed.key; among = signed.among; good = subst (λ (r : Rrsig). IsGood meaning moment rrset r signed.key) same signed.signed.good })

  module _ (keys : Labels → List DnskeyRecord) where
    abbrev IsGoodAt : Rrsig → Type 0
    IsGoodAt rrsig = IsGoodUnderSome meaning moment rrset rrsig (keys rrsig.signer)

    number_good : (i : ℕ) (rrsig : Rrsig) → i < length rrsigs → rrsig ≡ get_or rrsigs i rrsig → IsGoodAt rrsig
        → IsGoodNumber meaning moment rrset keys (i + 1)
    number_good i rrsig within at good =
        let inside : i < length rrset.signatures = omega (arith, sizes, within) in
        let place : i + 1 - 1 ≡ i = omega arith in
        record {
          rdata = get_or rrset.signatures i [];
          signature = (omega arith, ap (λ (j : ℕ). slice_get rrset.signatures j) place ∙ slice_get-get_or rrset.signatures i [] inside);
          rrsig = rrsig;
          is = signature_at rrset rrsigs i rrsig each within at [];
          good = good;
        }

    good_number : (i : ℕ) (rrsig : Rrsig) → i < length rrsigs → rrsig ≡ get_or rrsigs i rrsig
        → IsGoodNumber meaning moment rrset keys (i + 1) → IsGoodAt rrsig
    good_number i rrsig within at number =
        let place : i ≡ i + 1 - 1 = omega arith in
        let rdata : get_or rrset.signatures i [] ≡ number.rdata =
        get_or_from_slice_get rrset.signatures i number.rdata [] (ap (λ (j : ℕ). slice_get rrset.signatures j) place ∙ number.signature.1) in
        let here : IsRrsig number.rdata rrsig =
        subst (λ (octets : List ℕ). IsRrsig octets rrsig) rdata (signature_at rrset rrsigs i rrsig each within at []) in
        subst IsGoodAt (one_rrsig number.rdata number.rrsig rrsig number.is here) number.good

    rising_push : (xs : List ℕ) (y : ℕ) → IsStrictlyIncreasing xs → ((s : ℕ) → Contains xs s → s < y) → IsStrictlyIncreasing (xs ++ y ∷ [])
    rising_push xs y rising below = λ k within.
        let size : length (xs ++ y ∷ []) ≡ length xs + 1 = length_push xs y in
        ⊎_elim
        (λ (inner : k + 1 < length xs).
        let first = get_or_append_left xs (y ∷ []) 0 k (omega arith) in
        let second = get_or_append_left xs (y ∷ []) 0 (k + 1) inner in
        let rises = rising k inner in omega (arith, first, second, rises))
        (λ (outer : length xs ≤ k + 1).
        let last : length xs ≡ k + 1 = omega (arith, size, within, outer) in
        let first = get_or_append_left xs (y ∷ []) 0 k (omega (arith, last)) in
        let second = get_or_push xs y 0 (k + 1) last in
        let less = below (get_or xs k 0) (Contains-get_or xs k 0 (omega (arith, last))) in omega (arith, first, second, less))
        (cases_lt (k + 1) (length xs))

    pub number_more : (i : ℕ) (rrsig : Rrsig) (numbers : List ℕ) → i < length rrsigs → rrsig ≡ get_or rrsigs i rrsig → IsGoodAt rrsig
        → AreGoodNumbersTo meaning moment rrset keys i numbers → AreGoodNumbersTo meaning moment rrset keys (i + 1) (numbers ++ (i + 1) ∷ [])
    number_more i rrsig numbers within at good so_far = record {
      rising = rising_push numbers (i + 1) so_far.rising (λ s among. let at_most = ((so_far.members s).0 among).1 in omega (arith, at_most));
      members = λ s. (
        λ among. ⊎_elim
            (λ (earlier : Contains numbers s). let both = (so_far.members s).0 earlier in let at_most = both.1 in (both.0, omega (arith, at_most)))
            (λ (last : i + 1 ≡ s). (subst (λ (n : ℕ). IsGoodNumber meaning moment rrset keys n) last (number_good i rrsig within at good), omega (arith, last)))
            (Contains-push_cases numbers (i + 1) s among),
        λ both. ⊎_elim
            (λ (later : i < s). let at_most = both.1 in let last : i + 1 ≡ s = omega (arith, later, at_most) in
            subst (λ (n : ℕ). Contains (numbers ++ (i + 1) ∷ []) n) last (Contains-push numbers (i + 1)))
            (λ (earlier : s ≤ i). Contains-append_left numbers ((i + 1) ∷ []) s ((so_far.members s).1 (both.0, earlier)))
            (cases_lt i s),
      );
    }

    pub number_skip : (i : ℕ) (rrsig : Rrsig) (numbers : List ℕ) → i < length rrsigs → rrsig ≡ get_or rrsigs i rrsig → ¬ IsGoodAt rrsig
        → AreGoodNumbersTo meaning moment rrset keys i numbers → AreGoodNumbersTo meaning moment rrset keys (i + 1) numbers
    number_skip i rrsig numbers within at bad so_far = record {
      rising = so_far.rising;
      members = λ s. (
        λ among. let both = (so_far.members s).0 among in let at_most = both.1 in (both.0, omega (arith, at_most)),
        λ both. ⊎_elim
            (λ (later : i < s). let at_most = both.1 in let last : s ≡ i + 1 = omega (arith, later, at_most) in
            absurd (bad (good_number i rrsig within at (subst (λ (n : ℕ). IsGoodNumber meaning moment rrset keys n) last both.0))))
            (λ (earlier : s ≤ i). (so_far.members s).1 (both.0, earlier))
            (cases_lt i s),
      );
    }

    pub all_numbers : (n : ℕ) (numbers : List ℕ) → length rrsigs ≤ n → AreGoodNumbersTo meaning moment rrset keys n numbers
        → AreGoodNumbers meaning moment rrset keys numbers
    all_numbers n numbers past so_far = record {
      rising = so_far.rising;
      members = λ s. (
        λ among. ((so_far.members s).0 among).0,
        λ good.
            let within = slice_get_within rrset.signatures (s - 1) good.rdata good.signature.1 in
            (so_far.members s).1 (good, omega (arith, within, sizes, past)),
      );
    }
