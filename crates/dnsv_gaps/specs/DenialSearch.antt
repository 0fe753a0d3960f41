-- How denials are looked for. No public clause cites this module.
use Rattle.std.specs.Prelude.{◌≡◌, ◌⊎◌, ◌≤◌, ◌<◌, ℕ, Bool, List, Contains, length}
use Rattle.dnsv_names.specs.Name.{Labels, SameName, rightmost}
use Rattle.dnsv_names.specs.Order.{IsBelow}
use Rattle.dnsv_records.specs.declared.rrsig.Rrsig.{Rrsig}
use Rattle.dnsv_canonical.specs.Rrsets.{ReceivedRrset}
use Rattle.dnsv_faults.specs.KnownZones.KnownSearch.{IsAbove}
use Rattle.dnsv_faults.specs.KnownZones.{IsKnownZone, IsSpeakerOf}
use Rattle.dnsv_gaps.specs.Asking.{Asking}

-- NSEC and NSEC3
abbrev pub IsDenialType : ℕ → Type 0
IsDenialType rtype = (rtype ≡ 47) ⊎ (rtype ≡ 50)

-- a zone speaks by the RRset
abbrev pub HasSpeaker : Labels → ℕ → ReceivedRrset → Type 0
HasSpeaker name t rrset = (zone : Labels) × IsSpeakerOf name t rrset zone

-- the signer of one of the signatures is at or above the name, above it where it has to be
pub record HasSignerAbove (rrsigs : List Rrsig) (name : Labels) (from_above : Bool) : Type 0 where
  pub rrsig : Rrsig
  pub among : Contains rrsigs rrsig
  pub above : IsAbove name from_above rrsig.signer

-- the signer of one of them is the zone
pub record HasOneBy (rrsigs : List Rrsig) (zone : Labels) : Type 0 where
  pub rrsig : Rrsig
  pub among : Contains rrsigs rrsig
  pub signer : SameName rrsig.signer zone

-- the name's so many labels are those of a known zone above the owner
pub record IsKnownAbove (a : Asking) (labels : ℕ) (owner : Labels) : Type 0 where
  pub known : IsKnownZone a.basis a.name a.rtype (rightmost a.name labels)
  pub above : IsBelow owner (rightmost a.name labels)

-- more labels than so many are
pub record HasKnownBetween (a : Asking) (labels : ℕ) (owner : Labels) : Type 0 where
  pub count : ℕ
  pub more : labels < count
  pub within : count ≤ length a.name
  pub is : IsKnownAbove a count owner
