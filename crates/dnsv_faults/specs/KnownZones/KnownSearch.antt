-- How known zones are looked for. Of this module, public clauses cite `IsAbove` alone (`is_above`).
use Rattle.std.specs.Prelude.{◌≡◌, ◌≤◌, ◌<◌, ◌↔◌, ℕ, Bool, false, IsTrue, List, Contains, length, slice_index_or}
use Rattle.dnsv_names.specs.Name.{Labels, IsAtOrBelow, rightmost}
use Rattle.dnsv_names.specs.Order.{IsBelow}
use Rattle.dnsv_records.specs.declared.rrsig.Rrsig.{Rrsig}
use Rattle.dnsv_canonical.specs.Rrsets.{ReceivedRrset}
use Rattle.dnsv_chain.specs.Basis.{Basis}
use Rattle.dnsv_verifier.specs.Admissible.{IsSignatureOf}
use Rattle.dnsv_faults.specs.KnownZones.{IsKnownZone, IsSpeaker, IsSpeakerOf, MaySpeak}

-- the signer is at or above the name, above it where it has to be
pub record IsAbove (name : Labels) (from_above : Bool) (signer : Labels) : Type 0 where
  pub at : IsAtOrBelow name signer
  pub properly : IsTrue from_above → IsBelow name signer

-- and has so many labels
pub record IsSignerAbove (name : Labels) (from_above : Bool) (signer : Labels) (n : ℕ) : Type 0 where
  pub above : IsAbove name from_above signer
  pub labels : n ≡ length signer

-- so many has the signer of a signature of the RRset
pub record IsSignedFromAbove (name : Labels) (from_above : Bool) (rrset : ReceivedRrset) (n : ℕ) : Type 0 where
  pub rrsig : Rrsig
  pub its : IsSignatureOf rrset rrsig
  pub signer : IsSignerAbove name from_above rrsig.signer n

-- so many labels has a speaker of the RRset, which may answer or deny
pub record IsSpokenBy (name : Labels) (t : ℕ) (rrset : ReceivedRrset) (n : ℕ) : Type 0 where
  pub may : MaySpeak name t rrset
  pub within : n ≤ length name
  pub speaks : IsSpeakerOf name t rrset (rightmost name n)

-- the numbers of labels of all speakers
abbrev pub AreSpoken : List ReceivedRrset → Labels → ℕ → List ℕ → Type 0
AreSpoken rrsets name t numbers = (n : ℕ) → n ≤ length name → Contains numbers n ↔ IsSpeaker rrsets name t (rightmost name n)

-- for each number below this one it is told
pub record AreKnownTo (basis : Basis) (name : Labels) (t n : ℕ) (known : List Bool) : Type 0 where
  pub count : length known ≡ n
  pub each : (m : ℕ) → m < n → IsTrue (slice_index_or known m false) ↔ IsKnownZone basis name t (rightmost name m)
