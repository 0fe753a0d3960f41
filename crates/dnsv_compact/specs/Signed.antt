-- The signatures of a capture that can be verified, as they are looked up. No public clause cites this module.
use Rattle.std.specs.Prelude.{◌≡◌, ◌↔◌, ◌<◌, ◌+◌, ℕ, false, List, Contains, Some, slice_get}
use Rattle.std.specs.List.Sorted.{IsSorted}
use Rattle.std.specs.Ordering.{is_gt, nat_cmp, ordering_then}
use Rattle.std.specs.declared.cmp.Ordering.{Ordering}
use Rattle.std.specs.declared.cmp.Ordering.TheVariants.{Equal}
use Rattle.dnsv_names.specs.Octets.{octets_cmp}
use Rattle.dnsv_records.specs.Rrsig.{IsRrsig}
use Rattle.dnsv_records.specs.declared.rrsig.Rrsig.{Rrsig}
use Rattle.dnsv_canonical.specs.Rrsets.{IsNumbered, ReceivedRrset}
use Rattle.dnsv_canonical.specs.SignedData.{IsSignedData}
use Rattle.dnsv_verifier.specs.Within.{IsVerifiableWithin}
use Rattle.dnsv_verifier.specs.declared.entry.Entry.{Entry}
use Rattle.dnsv_compact.specs.declared.signed.Signed.{Signed}

-- by what is signed and the signature, as entries of one key are ordered
abbrev pub part_cmp : Signed → Entry → Ordering
part_cmp signed entry = ordering_then (octets_cmp signed.octets entry.signed_data) (octets_cmp signed.made entry.signature)

-- by what is signed, the signature, and then the numbers
abbrev pub signed_cmp : Signed → Signed → Ordering
signed_cmp a b =
    ordering_then (octets_cmp a.octets b.octets)
    (ordering_then (octets_cmp a.made b.made) (ordering_then (nat_cmp a.rrset b.rrset) (nat_cmp a.signature b.signature)))

-- what is kept of a signature that can be verified at some moment of the range
pub record IsSignedBy (from to number : ℕ) (received : ReceivedRrset) (signature : ℕ) (rrsig : Rrsig) (signed : Signed) : Type 0 where
  pub verifiable : IsVerifiableWithin from to received rrsig
  pub signs : IsSignedData received.owner received.rtype received.rdata rrsig (Some signed.octets)
  pub made : signed.made ≡ rrsig.signature
  pub of_rrset : signed.rrset ≡ number
  pub of_signature : signed.signature ≡ signature

-- it is that of one of the signatures of the RRset with the number
pub record IsSignedAmong (from to number : ℕ) (received : ReceivedRrset) (signed : Signed) : Type 0 where
  pub signature : ℕ
  pub rdata : List ℕ
  pub its : IsNumbered received.signatures signature rdata
  pub rrsig : Rrsig
  pub reads : IsRrsig rdata rrsig
  pub is : IsSignedBy from to number received signature rrsig signed

-- it is that of a signature of one of the RRsets
pub record IsSignedIn (from to : ℕ) (rrsets : List ReceivedRrset) (signed : Signed) : Type 0 where
  pub number : ℕ
  pub received : ReceivedRrset
  pub numbered : IsNumbered rrsets number received
  pub is : IsSignedAmong from to number received signed

-- the entry asks about one of them
abbrev pub IsGiven : List Signed → Entry → Type 0
IsGiven all entry = (each : Signed) × Contains all each × (part_cmp each entry ≡ Equal)

-- it is one that the entry asks about, and the other, which the entry asks about too, doesn't come before it
pub record IsFirstSigned (all : List Signed) (entry : Entry) (found other : Signed) : Type 0 where
  pub among : Contains all found
  pub asked : part_cmp found entry ≡ Equal
  pub order : is_gt (signed_cmp found other) ≡ false

-- ---- how they are gathered

-- it comes of one of the first n elements, by its number
pub record ComesOfFirst {Y X : Type 0} (P : ℕ → Y → X → Type 0) (ys : List Y) (n : ℕ) (x : X) : Type 0 where
  pub place : ℕ
  pub source : Y
  pub before : place < n
  pub at : slice_get ys place ≡ Some source
  pub is : P (place + 1) source x

-- these are all, by what is signed, the signature and the numbers
pub record AreSignedIn (from to : ℕ) (rrsets : List ReceivedRrset) (signed : List Signed) : Type 0 where
  pub members : (each : Signed) → Contains signed each ↔ IsSignedIn from to rrsets each
  pub sorted : IsSorted signed_cmp signed
