-- Which names at or above the name that is asked for the evidence knows as zones.
pub mod KnownSearch
use Rattle.std.specs.Prelude.{◌≡◌, ◌≢◌, ◌≤◌, ◌⊎◌, ◌↔◌, ◌+◌, ℕ, Bool, false, IsTrue, List, Contains, length, slice_index_or}
use Rattle.dnsv_names.specs.Name.{Labels, SameName, IsAtOrBelow, rightmost}
use Rattle.dnsv_names.specs.Order.{IsBelow}
use Rattle.dnsv_records.specs.declared.rrsig.Rrsig.{Rrsig}
use Rattle.dnsv_canonical.specs.Rrsets.{ReceivedRrset}
use Rattle.dnsv_anchors.specs.Anchor.{anchor_owner}
use Rattle.dnsv_anchors.specs.declared.anchor.Anchor.{Anchor}
use Rattle.dnsv_chain.specs.Basis.{Basis}
use Rattle.dnsv_verifier.specs.Admissible.{IsSignatureOf}

-- an anchor is just at the zone
abbrev pub HasOwnAnchor : List Anchor → Labels → Type 0
HasOwnAnchor anchors zone = (anchor : Anchor) × Contains anchors anchor × SameName (anchor_owner anchor) zone

-- an RRset of the type is there
pub record HasRrset (rrsets : List ReceivedRrset) (zone : Labels) (rtype : ℕ) : Type 0 where
  pub rrset : ReceivedRrset
  pub among : Contains rrsets rrset
  pub owner : SameName rrset.owner zone
  pub its_type : rrset.rtype ≡ rtype

-- the RRset may answer the question: it has the name, and the type or CNAME
pub record IsGoal (name : Labels) (t : ℕ) (rrset : ReceivedRrset) : Type 0 where
  pub owner : SameName rrset.owner name
  pub its_type : (rrset.rtype ≡ t) ⊎ (rrset.rtype ≡ 5)

-- it may answer, or it is one of NSEC or NSEC3 records, which may deny
abbrev pub MaySpeak : Labels → ℕ → ReceivedRrset → Type 0
MaySpeak name t rrset = IsGoal name t rrset ⊎ ((rrset.rtype ≡ 47) ⊎ (rrset.rtype ≡ 50))

-- DS is asked, which the zone above keeps (RFC 4035 2.4), and the RRset is no alias
abbrev pub IsFromAbove : ℕ → ReceivedRrset → Type 0
IsFromAbove t rrset = (t ≡ 43) × (rrset.rtype ≢ 5)

-- the zone is the signer of a signature of the RRset, and at or above the name; where the answer is from above, above it
pub record IsSpeakerOf (name : Labels) (t : ℕ) (rrset : ReceivedRrset) (zone : Labels) : Type 0 where
  pub rrsig : Rrsig
  pub its : IsSignatureOf rrset rrsig
  pub signer : SameName rrsig.signer zone
  pub above : IsAtOrBelow name zone
  pub properly : IsFromAbove t rrset → IsBelow name zone

-- so it is of one that may answer or deny
pub record IsSpeaker (rrsets : List ReceivedRrset) (name : Labels) (t : ℕ) (zone : Labels) : Type 0 where
  pub rrset : ReceivedRrset
  pub among : Contains rrsets rrset
  pub may : MaySpeak name t rrset
  pub speaks : IsSpeakerOf name t rrset zone

-- The zone is known: it is at or above the name, above it where DS is asked, and owns an anchor, a DS or a DNSKEY RRset, or
-- has signed what may answer or deny.
pub record IsKnownZone (basis : Basis) (name : Labels) (t : ℕ) (zone : Labels) : Type 0 where
  pub above : IsAtOrBelow name zone
  pub properly : t ≡ 43 → IsBelow name zone
  pub known : HasOwnAnchor basis.anchors zone ⊎ HasRrset basis.rrsets zone 43 ⊎ HasRrset basis.rrsets zone 48
      ⊎ IsSpeaker basis.rrsets name t zone

-- for each number of the name's labels, from none on, whether these are those of a known zone
pub record AreKnownZones (basis : Basis) (name : Labels) (t : ℕ) (known : List Bool) : Type 0 where
  pub count : length known ≡ length name + 1
  pub each : (n : ℕ) → n ≤ length name → IsTrue (slice_index_or known n false) ↔ IsKnownZone basis name t (rightmost name n)
