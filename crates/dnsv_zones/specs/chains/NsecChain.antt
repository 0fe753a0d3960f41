-- The chain of NSEC records that a signed zone has (RFC 4034 4, RFC 4035 2.3).
use Rattle.std.specs.Prelude.{◌≡◌, ◌⊎◌, ℕ, Bool, IsTrue, List, map}
use Rattle.std.specs.List.{AllByRecursion}
use Rattle.dnsv_names.specs.Name.{Labels, SameName}
use Rattle.dnsv_names.specs.Order.{canonical_cmp}
use Rattle.dnsv_names.specs.Circle.{IsSuccessor}
use Rattle.dnsv_zones.specs.zones.TypeNumbers.{rrsig, nsec}
use Rattle.dnsv_zones.specs.Any.{Any}
use Rattle.dnsv_zones.specs.zones.Zone.{Zone, IsOwner, Holds, IsWellFormed, HasNoWildcardDelegation}

-- an NSEC record: its owner, the next owner's name and a test of the types in its bitmap (RFC 4034 4.1)
pub record NsecRecord : Type 0 where
  pub owner : Labels
  pub next : Labels
  pub types : ℕ → Bool

-- the bitmap has the type
abbrev pub IsInBitmap : (ℕ → Bool) → ℕ → Type 0
IsInBitmap types t = IsTrue (types t)

-- The bitmap has the types of the name, and may have those that come with the chain: RRSIG, and NSEC in a chain of
-- these (RFC 4034 4.1.2, RFC 5155 7.1).
pub record IsBitmapOf (zone : Zone) (name : Labels) (types : ℕ → Bool) : Type 0 where
  pub all : (t : ℕ) → Holds zone name t → IsInBitmap types t
  pub no_more : (t : ℕ) → IsInBitmap types t → Holds zone name t ⊎ (t ≡ rrsig) ⊎ (t ≡ nsec)

-- the owners as they stand in the zone's list
abbrev pub owners : Zone → List Labels
owners zone = map (λ each. each.owner) zone.entries

-- The record is one of the zone's chain: it has an owner, the next owner in canonical order, the first one behind
-- the last, and the owner's types (RFC 4034 4.1.1, 6.1).
pub record IsInNsecChain (zone : Zone) (nsec : NsecRecord) : Type 0 where
  pub owner : IsOwner zone nsec.owner
  pub next : IsSuccessor canonical_cmp (owners zone) nsec.owner nsec.next
  pub types : IsBitmapOf zone nsec.owner nsec.types

-- The zone has this name, and the records are of its chain.
pub record HasNsecRecords (zone : Zone) (apex : Labels) (records : List NsecRecord) : Type 0 where
  pub well_formed : IsWellFormed zone
  pub same_apex : SameName apex zone.apex
  pub in_chain : AllByRecursion (IsInNsecChain zone) records

-- The records are the whole chain of the zone, which has no delegation at a wildcard.
pub record IsNsecChainOf (zone : Zone) (apex : Labels) (records : List NsecRecord) : Type 0 where
  pub has_records : HasNsecRecords zone apex records
  pub each_owner : (name : Labels) → IsOwner zone name → Any (λ nsec. SameName nsec.owner name) records
  pub wildcards : HasNoWildcardDelegation zone
