-- The first signature that is such, and the first RRset.
pub mod FirstSuchLemmas
pub mod OptOutLemmas
pub mod ViewLemmas
use Rattle.std.proofs.Common.{◌≡◌, ◌≢◌, ◌⊎◌, ℕ, ◌+◌, ◌-◌, ◌<◌, ◌≤◌, true, false, List, refl, sym, subst, arith, length, inl, inr, ⊎_elim}
use Rattle.std.proofs.lemmas.Bool.{cases_lt}
use Rattle.std.proofs.lemmas.Bool.Decides.{eqb_tells}
use Rattle.std.proofs.lemmas.Option.{slice_get_read}
use lib.Dec.{eqb}
use Rattle.std.specs.Prelude.{Contains, Some, slice_get}
use Rattle.std.specs.List.{AllZip}
use Rattle.dnsv_names.specs.Name.{Labels, SameName}
use Rattle.dnsv_records.proofs.OneRecord.{one_rrsig}
use Rattle.dnsv_records.specs.Rrsig.{IsRrsig}
use Rattle.dnsv_records.specs.declared.rrsig.Rrsig.{Rrsig}
use Rattle.dnsv_canonical.specs.Rrsets.{IsNumbered, ReceivedRrset}
use Rattle.dnsv_canonical.proofs.NumberLemmas.{IsOneAt}
use Rattle.dnsv_verdict.specs.Secure.{IsFirstSuch, IsSecuredAt}
use Rattle.dnsv_chain.specs.Trust.{KeptTrust, SecuredIn, signed_of}
use Rattle.dnsv_verdict.specs.Secure.Search.{IsFirstFound, IsFound}
use Rattle.dnsv_chain.proofs.NumberedLemmas.{AreNumbersAt, rdata_at, rrsig_at, within}

-- ---- the first signature

-- none of the signatures so far is such
abbrev pub NoneSoFar : (ReceivedRrset → Rrsig → Type 0) → ReceivedRrset → List ℕ → List Rrsig → ℕ → Type 0
NoneSoFar Such rrset numbers rrsigs count =
    (n : ℕ) (rrsig : Rrsig) → n < count → slice_get rrsigs n ≡ Some rrsig → Contains numbers (n + 1) → ¬ Such rrset rrsig

-- it isn't among those so far
not_so_far : (Such : ReceivedRrset → Rrsig → Type 0) (rrset : ReceivedRrset) (numbers : List ℕ) (rrsigs : List Rrsig)
    (count : ℕ) → AllZip IsRrsig rrset.signatures rrsigs → NoneSoFar Such rrset numbers rrsigs count
    → (s : ℕ) → IsFound Such rrset numbers s → ¬ (s - 1 < count)
not_so_far Such rrset numbers rrsigs count zip none s found early =
    let there = rrsig_at rrset.signatures rrsigs zip (s - 1) found.rdata found.is_signature.1 in
    let number : s ≡ s - 1 + 1 = omega (arith, found.is_signature.0) in
    let same : found.rrsig ≡ there.0 = one_rrsig found.rdata found.rrsig there.0 found.read there.2 in
    none (s - 1) there.0 early there.1 (subst (λ n. Contains numbers n) number found.among)
    (subst (λ rrsig. Such rrset rrsig) same found.such)

behind : (s count : ℕ) → 1 ≤ s → ¬ (s - 1 < count) → count + 1 ≤ s
behind s count some late = omega (arith, some, late)

-- what is found stands behind those so far
pub found_behind : (Such : ReceivedRrset → Rrsig → Type 0) (rrset : ReceivedRrset) (numbers : List ℕ) (rrsigs : List Rrsig)
    (count : ℕ) → AllZip IsRrsig rrset.signatures rrsigs → NoneSoFar Such rrset numbers rrsigs count
    → (s : ℕ) → IsFound Such rrset numbers s → count + 1 ≤ s
found_behind Such rrset numbers rrsigs count zip none s found =
    behind s count found.is_signature.0 (not_so_far Such rrset numbers rrsigs count zip none s found)

-- with one more that isn't such
pub none_more : (Such : ReceivedRrset → Rrsig → Type 0) (rrset : ReceivedRrset) (numbers : List ℕ) (rrsigs : List Rrsig)
    (count : ℕ) (rrsig : Rrsig) → NoneSoFar Such rrset numbers rrsigs count → slice_get rrsigs count ≡ Some rrsig
    → (Contains numbers (count + 1) → ¬ Such rrset rrsig) → NoneSoFar Such rrset numbers rrsigs (count + 1)
none_more Such rrset numbers rrsigs count rrsig none there last n other early at among such =
    ⊎_elim (λ (same : (eqb n count ≡ true) × (n ≡ count)).
    let is : slice_get rrsigs count ≡ Some other = subst (λ m. slice_get rrsigs m ≡ Some other) same.1 at in
    let equal : other ≡ rrsig = cc in
    last (subst (λ m. Contains numbers (m + 1)) same.1 among) (subst (λ x. Such rrset x) equal such))
    (λ (less : (eqb n count ≡ false) × (n ≢ count)). none n other (omega (arith, early, less.1)) at among such)
    (eqb_tells n count)

-- the signature that the search stops at is the first
pub first_found : (Such : ReceivedRrset → Rrsig → Type 0) (rrset : ReceivedRrset) (numbers : List ℕ) (rrsigs : List Rrsig)
    (count : ℕ) (rrsig : Rrsig) → AllZip IsRrsig rrset.signatures rrsigs
    → NoneSoFar Such rrset numbers rrsigs count → slice_get rrsigs count ≡ Some rrsig
    → Contains numbers (count + 1) → Such rrset rrsig → IsFirstFound Such rrset numbers (count + 1) rrsig
first_found Such rrset numbers rrsigs count rrsig zip none there among such =
    let at = rdata_at rrset.signatures rrsigs zip count rrsig there in
    let place : count ≡ count + 1 - 1 = omega arith in record {
      found = record {
        rdata = at.0;
        is_signature = (omega arith, subst (λ n. slice_get rrset.signatures n ≡ Some at.0) place at.1);
        rrsig = rrsig;
        read = at.2;
        among = among;
        such = such;
      };
      first = found_behind Such rrset numbers rrsigs count zip none;
      is = refl;
    }

-- where none of all is such, none is found
pub none_found : (Such : ReceivedRrset → Rrsig → Type 0) (rrset : ReceivedRrset) (numbers : List ℕ) (rrsigs : List Rrsig)
    (count : ℕ) → length rrsigs ≤ count → AllZip IsRrsig rrset.signatures rrsigs
    → NoneSoFar Such rrset numbers rrsigs count → (s : ℕ) → ¬ IsFound Such rrset numbers s
none_found Such rrset numbers rrsigs count all zip none s found =
    let there = rrsig_at rrset.signatures rrsigs zip (s - 1) found.rdata found.is_signature.1 in
    let early = within rrsigs (s - 1) there.0 there.1 in
    not_so_far Such rrset numbers rrsigs count zip none s found (omega (arith, all, early))

-- ---- the first RRset

-- what is found in an RRset, as a signature of the evidence
found_in : (Such : ReceivedRrset → Rrsig → Type 0) (trust : KeptTrust) (name : Labels) (rrsets : List ReceivedRrset)
    (k s : ℕ) (at : IsSecuredAt (SecuredIn trust) rrsets name Such k s) → IsFound Such at.rrset (signed_of trust k) s
found_in Such trust name rrsets k s at = record {
  rdata = at.rdata;
  is_signature = at.is_signature;
  rrsig = at.rrsig;
  read = at.read;
  among = at.secured;
  such = at.such;
}

module _ (Such : ReceivedRrset → Rrsig → Type 0) (trust : KeptTrust) (rrsets : List ReceivedRrset) where
  -- none of the RRsets of the numbers so far has one
  abbrev pub NoneSoFarAt : List ℕ → ℕ → Type 0
  NoneSoFarAt numbers count =
      (place k : ℕ) (rrset : ReceivedRrset) → place < count → slice_get numbers place ≡ Some k → IsNumbered rrsets k rrset
      → (s : ℕ) → ¬ IsFound Such rrset (signed_of trust k) s

  -- with one more that has none
  pub none_with : (numbers : List ℕ) (count k : ℕ) (rrset : ReceivedRrset) → NoneSoFarAt numbers count
      → slice_get numbers count ≡ Some k → IsNumbered rrsets k rrset → ((s : ℕ) → ¬ IsFound Such rrset (signed_of trust k) s)
      → NoneSoFarAt numbers (count + 1)
  none_with numbers count k rrset none there is last place j other early at numbered s found =
      ⊎_elim (λ (same : (eqb place count ≡ true) × (place ≡ count)).
      let here : slice_get numbers count ≡ Some j = subst (λ m. slice_get numbers m ≡ Some j) same.1 at in
      let number : j ≡ k = cc in
      let moved : IsNumbered rrsets k other = subst (λ n. IsNumbered rrsets n other) number numbered in
      let one : slice_get rrsets (k - 1) ≡ Some other = moved.1 in
      let two : slice_get rrsets (k - 1) ≡ Some rrset = is.1 in
      let equal : other ≡ rrset = cc in
      last s (subst (λ x. IsFound Such x (signed_of trust k) s) equal (subst (λ n. IsFound Such other (signed_of trust n) s) number found)))
      (λ (less : (eqb place count ≡ false) × (place ≢ count)). none place j other (omega (arith, early, less.1)) at numbered s found)
      (eqb_tells place count)

  its_owner : (name : Labels) (rtype k : ℕ) (rrset : ReceivedRrset) → IsOneAt rrsets name rtype k → IsNumbered rrsets k rrset → SameName rrset.owner name
  its_owner name rtype k rrset one numbered =
      let first : slice_get rrsets (k - 1) ≡ Some one.rrset = one.is_rrset.1 in
      let second : slice_get rrsets (k - 1) ≡ Some rrset = numbered.1 in
      let equal : one.rrset ≡ rrset = cc in
      subst (λ (x : ReceivedRrset). SameName x.owner name) equal one.owner

  -- what is found in the RRset with the number
  found_here : (name : Labels) (k : ℕ) (rrset : ReceivedRrset) (j r : ℕ) → IsNumbered rrsets k rrset → k ≡ j
      → IsSecuredAt (SecuredIn trust) rrsets name Such j r → IsFound Such rrset (signed_of trust k) r
  found_here name k rrset j r numbered same at =
      let one : slice_get rrsets (k - 1) ≡ Some at.rrset = subst (λ n. slice_get rrsets (n - 1) ≡ Some at.rrset) (sym same) at.is_rrset.1 in
      let two : slice_get rrsets (k - 1) ≡ Some rrset = numbered.1 in
      let equal : at.rrset ≡ rrset = cc in
      subst (λ x. IsFound Such x (signed_of trust k) r) equal
      (subst (λ n. IsFound Such at.rrset (signed_of trust n) r) (sym same) (found_in Such trust name rrsets j r at))

  module _ (name : Labels) (rtype : ℕ) (numbers : List ℕ) (are : AreNumbersAt rrsets name rtype numbers) (only : (rrset : ReceivedRrset) (rrsig : Rrsig) → Such rrset rrsig → rrset.rtype ≡ rtype) where
    -- where its number stands, which isn't among those so far
    not_so_far_at : (count : ℕ) → NoneSoFarAt numbers count → (k s : ℕ) → IsSecuredAt (SecuredIn trust) rrsets name Such k s
        → (place : ℕ) × (slice_get numbers place ≡ Some k) × (count ≤ place) × (place < length numbers)
    not_so_far_at count none k s at =
        let there = are.all k (record { rrset = at.rrset; is_rrset = at.is_rrset; owner = at.owner; same_type = only at.rrset at.rrsig at.such }) in
        let stands : slice_get numbers there.0 ≡ Some k = slice_get_read numbers (length numbers) there.0 k refl there.1 (sym there.2) in
        ⊎_elim (λ (early : there.0 < count). absurd (none there.0 k at.rrset early stands at.is_rrset s (found_in Such trust name rrsets k s at)))
        (λ (late : count ≤ there.0). (there.0, stands, late, there.1))
        (cases_lt there.0 count)

    -- where none of all has one, there is none
    pub none_found_at : (count : ℕ) → length numbers ≤ count → NoneSoFarAt numbers count
        → (k s : ℕ) → ¬ IsSecuredAt (SecuredIn trust) rrsets name Such k s
    none_found_at count all none k s at =
        let place = not_so_far_at count none k s at in
        let late = place.2 in let within = place.3 in omega (arith, all, late, within)

    -- the RRset that the search stops at is the first
    pub first_such_found : (count k : ℕ) (rrset : ReceivedRrset) (s : ℕ) (rrsig : Rrsig) → NoneSoFarAt numbers count
        → slice_get numbers count ≡ Some k → IsOneAt rrsets name rtype k → IsNumbered rrsets k rrset
        → IsFirstFound Such rrset (signed_of trust k) s rrsig
        → (is : IsFirstSuch (IsSecuredAt (SecuredIn trust) rrsets name Such) k s) × (is.such.rrsig ≡ rrsig)
    first_such_found count k rrset s rrsig none there one numbered first = (
      record {
        such = record {
          rrset = rrset;
          is_rrset = numbered;
          owner = its_owner name rtype k rrset one numbered;
          rdata = first.found.rdata;
          is_signature = first.found.is_signature;
          rrsig = first.found.rrsig;
          read = first.found.read;
          secured = first.found.among;
          such = first.found.such;
        };
        earliest = λ j r other.
            let place = not_so_far_at count none j r other in
            let order : k ≤ j = are.rising count place.0 k j there place.1 place.2 in
            ⊎_elim (λ (later : k < j). inl later)
            (λ (same : j ≤ k). let equal : k ≡ j = omega (arith, same, order) in inr (equal, first.first r (found_here name k rrset j r numbered equal other)))
            (cases_lt k j);
      },
      first.is,
    )
