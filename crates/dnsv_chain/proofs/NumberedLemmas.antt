-- What is read of signatures place by place, and the numbers of the RRsets of a name and a type.
use Rattle.std.proofs.Common.{◌≡◌, ℕ, zero, suc, ◌<◌, ◌≤◌, List, [], ◌∷◌, refl, sym, subst, arith, length, get_or}
use Rattle.std.proofs.lemmas.List.Elements.{All-from_recursion, All-get_or}
use Rattle.std.specs.Prelude.{Contains, Some, slice_get}
use Rattle.std.specs.List.{AllByRecursion, AllZip}
use Rattle.dnsv_names.specs.Name.{Labels}
use Rattle.dnsv_records.specs.Rrsig.{IsRrsig}
use Rattle.dnsv_records.specs.declared.rrsig.Rrsig.{Rrsig}
use Rattle.dnsv_canonical.specs.Index.{numbers_at}
use Rattle.dnsv_canonical.specs.Rrsets.{ReceivedRrset}
use Rattle.dnsv_canonical.proofs.NumberLemmas.{IsOneAt, each_number, has_number, numbers_rise}

-- ---- lists side by side

pub rdata_at : (rdata : List (List ℕ)) (rrsigs : List Rrsig) → AllZip IsRrsig rdata rrsigs
    → (n : ℕ) (rrsig : Rrsig) → slice_get rrsigs n ≡ Some rrsig
    → (octets : List ℕ) × (slice_get rdata n ≡ Some octets) × IsRrsig octets rrsig
rdata_at [] [] zip n rrsig there = cc
rdata_at [] (r ∷ rrsigs) zip n rrsig there = absurd zip
rdata_at (octets ∷ rdata) [] zip n rrsig there = absurd zip
rdata_at (octets ∷ rdata) (r ∷ rrsigs) zip zero rrsig there =
    let same : r ≡ rrsig = cc in (octets, refl, subst (λ x. IsRrsig octets x) same zip.0)
rdata_at (octets ∷ rdata) (r ∷ rrsigs) zip (suc n) rrsig there = rdata_at rdata rrsigs zip.1 n rrsig there

pub rrsig_at : (rdata : List (List ℕ)) (rrsigs : List Rrsig) → AllZip IsRrsig rdata rrsigs
    → (n : ℕ) (octets : List ℕ) → slice_get rdata n ≡ Some octets
    → (rrsig : Rrsig) × (slice_get rrsigs n ≡ Some rrsig) × IsRrsig octets rrsig
rrsig_at [] [] zip n octets there = cc
rrsig_at [] (r ∷ rrsigs) zip n octets there = absurd zip
rrsig_at (o ∷ rdata) [] zip n octets there = absurd zip
rrsig_at (o ∷ rdata) (r ∷ rrsigs) zip zero octets there =
    let same : o ≡ octets = cc in (r, refl, subst (λ x. IsRrsig x r) same zip.0)
rrsig_at (o ∷ rdata) (r ∷ rrsigs) zip (suc n) octets there = rrsig_at rdata rrsigs zip.1 n octets there

pub within : {X : Type 0} (xs : List X) (n : ℕ) (x : X) → slice_get xs n ≡ Some x → n < length xs
within [] n x there = cc
within (y ∷ xs) zero x there = omega arith
within (y ∷ xs) (suc n) x there = omega (arith, within xs n x there)

-- ---- the RRsets of a name and a type

-- the numbers are those of the RRsets of the name and type, rising
pub record AreNumbersAt (rrsets : List ReceivedRrset) (name : Labels) (rtype : ℕ) (numbers : List ℕ) : Type 0 where
  pub each : AllByRecursion (IsOneAt rrsets name rtype) numbers
  pub all : (k : ℕ) → IsOneAt rrsets name rtype k → Contains numbers k
  pub rising : (i p k j : ℕ) → slice_get numbers i ≡ Some k → slice_get numbers p ≡ Some j → i ≤ p → k ≤ j

pub numbers_are : (rrsets : List ReceivedRrset) (name : Labels) (rtype : ℕ) (numbers : List ℕ) → numbers ≡ numbers_at rrsets name rtype → AreNumbersAt rrsets name rtype numbers
numbers_are rrsets name rtype numbers is =
    subst (AreNumbersAt rrsets name rtype) (sym is)
    (record { each = each_number rrsets name rtype; all = has_number rrsets name rtype; rising = numbers_rise rrsets name rtype })

-- the RRset of the number at a place
pub one_at : (rrsets : List ReceivedRrset) (name : Labels) (rtype : ℕ) (numbers : List ℕ) (place : ℕ)
    → AreNumbersAt rrsets name rtype numbers → place < length numbers → IsOneAt rrsets name rtype (get_or numbers place 0)
one_at rrsets name rtype numbers place are within =
    All-get_or (IsOneAt rrsets name rtype) numbers place 0 within (All-from_recursion (IsOneAt rrsets name rtype) numbers are.each)
