-- The first trusted key under which a signature is good: the DNSKEY RRsets of its signer, by their numbers.
use Rattle.std.proofs.Common.{◌≡◌, ◌<◌, ◌≤◌, ◌+◌, ◌-◌, ℕ, List, Option, Some, None, length, get_or, sym, ap, ◌∙◌, subst, ⊎_elim, arith}
use Rattle.std.proofs.lemmas.Bool.{cases_lt}
use Rattle.dnsv_records.specs.declared.rrsig.Rrsig.{Rrsig}
use Rattle.dnsv_canonical.specs.Index.{numbers_at}
use Rattle.dnsv_canonical.specs.Rrsets.{IsNumbered, ReceivedRrset}
use Rattle.dnsv_canonical.specs.declared.number.SignatureNumber.{SignatureNumber}
use Rattle.dnsv_verifier.specs.Admissible.{DnskeyRecord}
use Rattle.dnsv_canonical.proofs.NumberLemmas.{IsOneAt, one_numbered}
use Rattle.dnsv_derivations.specs.Explained.{Setting}
use Rattle.dnsv_derivations.specs.derivations.SignerSearch.{IsFirstTo, IsLowestOf, IsSignatureAt}
use Rattle.dnsv_derivations.specs.derivations.WaySearch.{number_or_end}
use Rattle.dnsv_derivations.specs.derivations.Ways.{IsSigner}
use Rattle.dnsv_derivations.specs.declared.derivations.signers.Signer.{Signer}
use Rattle.dnsv_derivations.proofs.lemmas.IndexLemmas.{bound_past, bound_within, first_at_most, next_above, next_at_most, one_there}
use Rattle.dnsv_derivations.proofs.lemmas.derivations.SignerLemmas.{signer_at}

module _ (setting : Setting) (number : SignatureNumber) where
  -- none of these RRsets adds any
  still_first : (n m : ℕ) (first : Option Signer) → n ≤ m → IsFirstTo setting number n first
      → ((k : ℕ) (other : DnskeyRecord) → n < k → k ≤ m → ¬ IsSigner setting number k other) → IsFirstTo setting number m first
  still_first n m None order before never = λ k other below is. ⊎_elim
      (λ (later : n < k). never k other later below is)
      (λ (within : k ≤ n). before k other within is)
      (cases_lt n k)
  still_first n m (Some signer) order before never =
      let within = before.within in record {
        key = before.key;
        of = before.of;
        is = before.is;
        todo = before.todo;
        within = omega (arith, within, order);
        lowest = λ k other below is. ⊎_elim
            (λ (later : n < k). absurd (never k other later below is))
            (λ (inside : k ≤ n). before.lowest k other inside is)
            (cases_lt n k);
        earliest = λ k other below is same. ⊎_elim
            (λ (later : n < k). absurd (never k other later below is))
            (λ (inside : k ≤ n). before.earliest k other inside is same)
            (cases_lt n k);
      }

  module _ (rrset : ReceivedRrset) (rrsig : Rrsig) (is_rrset : IsNumbered setting.rrsets number.rrset rrset)
      (its : IsSignatureAt rrset number.signature rrsig) (numbers : List ℕ) (are : numbers ≡ numbers_at setting.rrsets rrsig.signer 48) where
    abbrev bound : ℕ → ℕ
    bound i = number_or_end setting.rrsets numbers i

    one_at : (k : ℕ) (key : DnskeyRecord) → IsSigner setting number k key → IsOneAt setting.rrsets rrsig.signer 48 k
    one_at k key is = signer_at setting number rrset rrsig is_rrset its k is.set is.is_set key is

    pub signers_begin : IsFirstTo setting number (bound 0 - 1) None
    signers_begin = λ k other below is.
        let from_one = is.is_set.0 in
        let at = first_at_most setting.rrsets rrsig.signer 48 numbers are k (one_at k other is) in
        absurd (omega (arith, below, from_one, at))

    -- behind those so far comes the RRset that is next
    pub signers_next : (i : ℕ) (first : Option Signer) → i < length numbers → IsFirstTo setting number (bound i - 1) first
        → IsFirstTo setting number (get_or numbers i 0 - 1) first
    signers_next i first within before =
        let To : ℕ → Type 0 = λ b. IsFirstTo setting number (b - 1) first in
        subst To (bound_within setting.rrsets rrsig.signer 48 numbers are i within) before

    next_number : (i : ℕ) → i < length numbers → get_or numbers i 0 - 1 + 1 ≡ get_or numbers i 0
    next_number i within =
        let one = one_there setting.rrsets rrsig.signer 48 numbers are i within in
        let from_one = one.is_rrset.0 in omega (arith, from_one)

    pub lowest_next : (i : ℕ) (found : Option Signer) → i < length numbers → IsLowestOf setting number (get_or numbers i 0) found
        → IsLowestOf setting number (get_or numbers i 0 - 1 + 1) found
    lowest_next i found within lowest =
        let At : ℕ → Type 0 = λ n. IsLowestOf setting number n found in subst At (sym (next_number i within)) lowest

    pub signers_more : (i : ℕ) (first : Option Signer) → i < length numbers → IsFirstTo setting number (get_or numbers i 0 - 1 + 1) first
        → IsFirstTo setting number (bound (i + 1) - 1) first
    signers_more i first within before =
        let above = next_above setting.rrsets rrsig.signer 48 numbers are i within in
        let To : ℕ → Type 0 = λ n. IsFirstTo setting number n first in
        still_first (get_or numbers i 0) (bound (i + 1) - 1) first (omega (arith, above)) (subst To (next_number i within) before)
        (λ k other later below is.
        let at = next_at_most setting.rrsets rrsig.signer 48 numbers are i k within later (one_at k other is) in
        absurd (omega (arith, at, below, later)))

    pub signers_end : (n : ℕ) (first : Option Signer) → length numbers ≤ n → IsFirstTo setting number (bound n - 1) first
        → IsFirstTo setting number (length setting.rrsets) first
    signers_end n first past before =
        let last = bound_past setting.rrsets rrsig.signer 48 numbers are n past in
        let all : bound n - 1 ≡ length setting.rrsets = omega (arith, last) in
        let To : ℕ → Type 0 = λ m. IsFirstTo setting number m first in
        subst To all before

    -- the RRset with the number at a place is a DNSKEY RRset
    pub key_set_there : (i : ℕ) → i < length numbers → (set : ReceivedRrset) → IsNumbered setting.rrsets (get_or numbers i 0) set
        → set.rtype ≡ 48
    key_set_there i within set numbered =
        let one = one_there setting.rrsets rrsig.signer 48 numbers are i within in
        let same = one_numbered setting.rrsets (get_or numbers i 0) one.rrset set one.is_rrset numbered in
        sym (ap (λ (each : ReceivedRrset). each.rtype) same) ∙ one.same_type

    pub set_there : (i : ℕ) → i < length numbers → ¬ ((each : ReceivedRrset) → ¬ IsNumbered setting.rrsets (get_or numbers i 0) each)
    set_there i within none =
        let one = one_there setting.rrsets rrsig.signer 48 numbers are i within in none one.rrset one.is_rrset
