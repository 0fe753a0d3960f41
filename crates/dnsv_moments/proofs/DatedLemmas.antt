-- Signatures of the evidence with their times, one after another.
use Rattle.std.proofs.Common.{◌≡◌, ℕ, ◌+◌, List, [], ◌∷◌, ◌++◌, drop, inl, inr, refl, sym, ap, ◌∙◌, subst, append_assoc}
use Rattle.std.proofs.lemmas.List.{append-nil}
use Rattle.std.specs.List.{AllZip}
use Rattle.dnsv_records.specs.Rrsig.{IsRrsig}
use Rattle.dnsv_records.specs.declared.rrsig.Rrsig.{Rrsig}
use Rattle.dnsv_canonical.specs.Rrsets.{IsNumbered, ReceivedRrset}
use Rattle.dnsv_canonical.specs.declared.number.SignatureNumber.{SignatureNumber}
use Rattle.dnsv_moments.specs.Dates.{times_of}
use Rattle.dnsv_moments.specs.declared.dated.DatedSignature.{DatedSignature}
use Rattle.dnsv_derivations.proofs.lemmas.intervals.ShownLemmas.{no_times, some_times}
use Rattle.dnsv_derivations.proofs.lemmas.one.TrustedLemmas.{one_signature_at}
use Rattle.dnsv_derivations.proofs.lemmas.OneListLemmas.{IsOneList, one_of_each}
use Rattle.dnsv_moments.specs.Dated.{AddsDated, AreDated, AreDatedAs, IsDated}

module _ (rrsets : List ReceivedRrset) (numbers : List SignatureNumber) where
  -- what is behind the place completes the list
  pub record AreDatedTo (i : ℕ) (all : List DatedSignature) : Type 0 where
    pub rest : (others : List DatedSignature) → AreDated rrsets (drop i numbers) others → AreDated rrsets numbers (all ++ others)

  pub dated_more : (i : ℕ) (number : SignatureNumber) (old new : List DatedSignature) → drop i numbers ≡ number ∷ drop (i + 1) numbers
      → AreDatedTo i old → AddsDated rrsets number old new → AreDatedTo (i + 1) new
  dated_more i number old new here so_far adds = record {
    rest = λ others are.
        let parted : AreDated rrsets (number ∷ drop (i + 1) numbers) (adds.some ++ others) =
        record { first = adds.some; second = others; parts = refl; is_first = adds.are; is_second = are } in
        let there : AreDated rrsets (drop i numbers) (adds.some ++ others) =
        subst (λ (ns : List SignatureNumber). AreDated rrsets ns (adds.some ++ others)) (sym here) parted in
        subst (AreDated rrsets numbers) (sym (append_assoc old adds.some others) ∙ ap (λ (ds : List DatedSignature). ds ++ others) (sym adds.is))
        (so_far.rest (adds.some ++ others) there);
  }

  pub dated_all : (i : ℕ) (all : List DatedSignature) → drop i numbers ≡ [] → AreDatedTo i all → AreDated rrsets numbers all
  dated_all i all end so_far =
      subst (AreDated rrsets numbers) (append-nil all)
      (so_far.rest [] (subst (λ (ns : List SignatureNumber). AreDated rrsets ns []) (sym end) refl))

-- ---- one of them

pub none_dated : (rrsets : List ReceivedRrset) (number : SignatureNumber) (rrset : ReceivedRrset) (rrsigs : List Rrsig)
    → IsNumbered rrsets number.rrset rrset → AllZip IsRrsig rrset.signatures rrsigs
    → ((rrsig : Rrsig) → ¬ IsNumbered rrsigs number.signature rrsig)
    → (dated : DatedSignature) → ¬ IsDated rrsets number dated
none_dated rrsets number rrset rrsigs is_rrset zip none dated is =
    no_times rrsets number rrset rrsigs is_rrset zip none (record { inception = is.rrsig.inception; expiration = is.rrsig.expiration })
    (record {
      rrset = is.rrset;
      is_rrset = is.is_rrset;
      rdata = is.rdata;
      is_signature = is.is_signature;
      rrsig = is.rrsig;
      read = is.read;
      inception = refl;
      expiration = refl;
    })

pub some_dated : (rrsets : List ReceivedRrset) (number : SignatureNumber) (rrset : ReceivedRrset) (rrsigs : List Rrsig) (rrsig : Rrsig)
    → IsNumbered rrsets number.rrset rrset → AllZip IsRrsig rrset.signatures rrsigs → IsNumbered rrsigs number.signature rrsig
    → IsDated rrsets number (record { number = number; times = record { inception = rrsig.inception; expiration = rrsig.expiration } })
some_dated rrsets number rrset rrsigs rrsig is_rrset zip numbered =
    let has = some_times rrsets number rrset rrsigs rrsig is_rrset zip numbered in record {
      same = refl;
      rrset = has.rrset;
      is_rrset = has.is_rrset;
      rdata = has.rdata;
      is_signature = has.is_signature;
      rrsig = has.rrsig;
      read = has.read;
      times = λ i. record { inception = has.inception i; expiration = has.expiration i };
    }

-- ---- one list

one_date : (rrsets : List ReceivedRrset) (number : SignatureNumber) (a b : DatedSignature) → IsDated rrsets number a
    → IsDated rrsets number b → a ≡ b
one_date rrsets number a b x y =
    let same = one_signature_at rrsets number number x.rrset y.rrset x.rdata y.rdata x.rrsig y.rrsig refl
    (x.is_rrset, x.is_signature, x.read) (y.is_rrset, y.is_signature, y.read) in
    let numbers : a.number ≡ b.number = x.same ∙ sym y.same in
    let times : a.times ≡ b.times = x.times ∙ ap (λ (g : Rrsig). times_of g) same.1 ∙ sym y.times in
    λ i. record { number = numbers i; times = times i }

one_dated_as : (rrsets : List ReceivedRrset) (number : SignatureNumber) → IsOneList (AreDatedAs rrsets number)
one_dated_as rrsets number a b (inl x) (inl y) =
    x.2 ∙ ap (λ (each : DatedSignature). each ∷ []) (one_date rrsets number x.0 y.0 x.1 y.1) ∙ sym y.2
one_dated_as rrsets number a b (inl x) (inr y) = absurd (y.0 x.0 x.1)
one_dated_as rrsets number a b (inr x) (inl y) = absurd (x.0 y.0 y.1)
one_dated_as rrsets number a b (inr x) (inr y) = x.1 ∙ sym y.1

-- numbers are of one list of signatures
pub one_dated : (rrsets : List ReceivedRrset) (numbers : List SignatureNumber) → IsOneList (AreDated rrsets numbers)
one_dated rrsets numbers = one_of_each (AreDatedAs rrsets) (one_dated_as rrsets) numbers
