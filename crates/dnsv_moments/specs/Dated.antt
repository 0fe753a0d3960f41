-- Signatures of the evidence by their numbers, with their times.
use Rattle.std.specs.Prelude.{◌≡◌, ◌⊎◌, ℕ, List, [], ◌∷◌, ◌++◌}
use Rattle.dnsv_records.specs.Rrsig.{IsRrsig}
use Rattle.dnsv_records.specs.declared.rrsig.Rrsig.{Rrsig}
use Rattle.dnsv_canonical.specs.Rrsets.{IsNumbered, ReceivedRrset}
use Rattle.dnsv_canonical.specs.declared.number.SignatureNumber.{SignatureNumber}
use Rattle.dnsv_moments.specs.Dates.{times_of}
use Rattle.dnsv_moments.specs.declared.dated.DatedSignature.{DatedSignature}
use Rattle.dnsv_derivations.specs.Listing.{AreOfEach}

-- the signature with the number has these times
pub record IsDated (rrsets : List ReceivedRrset) (number : SignatureNumber) (dated : DatedSignature) : Type 0 where
  pub same : dated.number ≡ number
  pub rrset : ReceivedRrset
  pub is_rrset : IsNumbered rrsets number.rrset rrset
  pub rdata : List ℕ
  pub is_signature : IsNumbered rrset.signatures number.signature rdata
  pub rrsig : Rrsig
  pub read : IsRrsig rdata rrsig
  pub times : dated.times ≡ times_of rrsig

-- that one, where the evidence has it
abbrev pub AreDatedAs : List ReceivedRrset → SignatureNumber → List DatedSignature → Type 0
AreDatedAs rrsets number some =
    ((dated : DatedSignature) × IsDated rrsets number dated × (some ≡ dated ∷ []))
    ⊎ (((dated : DatedSignature) → ¬ IsDated rrsets number dated) × (some ≡ []))

-- that one was added, where there is one: no public clause cites this
pub record AddsDated (rrsets : List ReceivedRrset) (number : SignatureNumber) (old new : List DatedSignature) : Type 0 where
  pub some : List DatedSignature
  pub is : new ≡ old ++ some
  pub are : AreDatedAs rrsets number some

-- each that the evidence has, in order
abbrev pub AreDated : List ReceivedRrset → List SignatureNumber → List DatedSignature → Type 0
AreDated rrsets numbers all = AreOfEach (AreDatedAs rrsets) numbers all
