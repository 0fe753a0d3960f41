-- Which NSEC and NSEC3 RRsets may deny a question, and for which zone, whether they are trusted or not.
use Rattle.std.specs.Prelude.{◌≡◌, ◌⊎◌, ℕ}
use Rattle.dnsv_names.specs.Name.{Labels, SameName, IsAtOrBelow}
use Rattle.dnsv_names.specs.Order.{IsBelow}
use Rattle.dnsv_records.specs.declared.rrsig.Rrsig.{Rrsig}
use Rattle.dnsv_canonical.specs.Rrsets.{IsNumbered, ReceivedRrset}
use Rattle.dnsv_verifier.specs.Admissible.{IsSignatureOf}
use Rattle.dnsv_faults.specs.KnownZones.{IsKnownZone, IsSpeakerOf}
use Rattle.dnsv_gaps.specs.Asking.{Asking}

-- the zone is the signer of a signature of the RRset
pub record HasSigner (rrset : ReceivedRrset) (zone : Labels) : Type 0 where
  pub rrsig : Rrsig
  pub its : IsSignatureOf rrset rrsig
  pub signer : SameName rrsig.signer zone

-- none of its signatures, if it has any, has a signer at or above the owner
abbrev pub IsStray : ReceivedRrset → Type 0
IsStray rrset = (rrsig : Rrsig) → IsSignatureOf rrset rrsig → ¬ IsAtOrBelow rrset.owner rrsig.signer

-- It is one of NSEC or NSEC3 records, and a signer at or above the name that is asked for, above it where DS is asked, speaks
-- by it; or it is stray.
pub record IsDenial (a : Asking) (rrset : ReceivedRrset) : Type 0 where
  pub its_type : (rrset.rtype ≡ 47) ⊎ (rrset.rtype ≡ 50)
  pub related : ((zone : Labels) × IsSpeakerOf a.name a.rtype rrset zone) ⊎ IsStray rrset

-- it is stray, and the zone is at or above its owner; no known zone lies between
pub record IsStrayOf (a : Asking) (zone : Labels) (rrset : ReceivedRrset) : Type 0 where
  pub stray : IsStray rrset
  pub below : IsAtOrBelow rrset.owner zone
  pub nearest : (other : Labels) → IsKnownZone a.basis a.name a.rtype other → IsBelow other zone → ¬ IsBelow rrset.owner other

-- it is a denial of the zone, which is at or above its owner: one that the zone signed, or a stray one
pub record IsDenialOf (a : Asking) (zone : Labels) (rrset : ReceivedRrset) : Type 0 where
  pub denial : IsDenial a rrset
  pub below : IsAtOrBelow rrset.owner zone
  pub its : HasSigner rrset zone ⊎ IsStrayOf a zone rrset

-- so is RRset k
pub record IsDenialNumber (a : Asking) (zone : Labels) (k : ℕ) : Type 0 where
  pub rrset : ReceivedRrset
  pub numbered : IsNumbered a.basis.rrsets k rrset
  pub denial : IsDenialOf a zone rrset
