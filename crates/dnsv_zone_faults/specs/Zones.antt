-- What is so of the names at or above the name that is asked for, as zones.
pub mod HolderSearch
use Rattle.std.specs.Prelude.{◌≡◌, ◌↔◌, ◌+◌, ℕ, IsTrue, List, Some, Contains, length, slice_get}
use Rattle.std.specs.List.{AllZip}
use Rattle.std.specs.List.Sorted.{IsStrictlyIncreasing}
use Rattle.dnsv_names.specs.Name.{Labels, IsAtOrBelow, rightmost}
use Rattle.dnsv_canonical.specs.Index.{numbers_at}
use Rattle.dnsv_canonical.specs.Rrsets.{IsNumbered, ReceivedRrset}
use Rattle.dnsv_anchors.specs.Anchor.{anchor_owner}
use Rattle.dnsv_chain.specs.Trusted.{IsTrustedKey}
use Rattle.dnsv_anchors.specs.declared.anchor.Anchor.{Anchor}
use Rattle.dnsv_chain.specs.Basis.{Basis}
use Rattle.dnsv_mending.specs.declared.facts.zone.ZoneFacts.{ZoneFacts}
use Rattle.dnsv_mending.specs.declared.facts.zone.ZoneKey.{ZoneKey}
use Rattle.dnsv_zone_faults.specs.Dnskeys.{AreAllDnskeyFacts}
use Rattle.dnsv_zone_faults.specs.Groups.{AreAllDsFacts, AreAnchorFacts}
use Rattle.dnsv_zone_keys.specs.Keys.{AreZoneKeys}
use Rattle.dnsv_faults.specs.KnownZones.{IsKnownZone}

-- ---- the keys of a zone

-- the DNSKEY RRset with the place among those of the zone, from 0, holds the key
pub record IsHolder (rrsets : List ReceivedRrset) (zone : Labels) (rdata : List ℕ) (h : ℕ) : Type 0 where
  pub k : ℕ
  pub at : slice_get (numbers_at rrsets zone 48) h ≡ Some k
  pub set : ReceivedRrset
  pub numbered : IsNumbered rrsets k set
  pub holds : Contains set.rdata rdata

-- the facts are those of the key of the zone with the RDATA
pub record IsZoneKeyFacts (basis : Basis) (zone : Labels) (rdata : List ℕ) (facts : ZoneKey) : Type 0 where
  pub trusted : IsTrue facts.is_trusted ↔ IsTrustedKey basis.meaning basis.moment basis.rrsets basis.anchors zone rdata
  pub rising : IsStrictlyIncreasing facts.holders.items
  pub holders : (h : ℕ) → Contains facts.holders.items h ↔ IsHolder basis.rrsets zone rdata h

-- of each key of the zone, in their order
pub record AreZoneKeyFacts (basis : Basis) (zone : Labels) (facts : List ZoneKey) : Type 0 where
  pub keys : List (List ℕ)
  pub are : AreZoneKeys basis.rrsets zone keys
  pub each : AllZip (IsZoneKeyFacts basis zone) keys facts

-- ---- a zone

-- an anchor is at or above the zone
pub record IsAnchored (anchors : List Anchor) (zone : Labels) : Type 0 where
  pub anchor : Anchor
  pub among : Contains anchors anchor
  pub above : IsAtOrBelow zone (anchor_owner anchor)

-- the facts are those of the name as a zone, where the name and the type are asked for
pub record AreFactsOfZone (basis : Basis) (name : Labels) (t : ℕ) (zone : Labels) (facts : ZoneFacts) : Type 0 where
  pub known : IsTrue facts.is_known ↔ IsKnownZone basis name t zone
  pub anchored : IsTrue facts.is_anchored ↔ IsAnchored basis.anchors zone
  pub keys : AreZoneKeyFacts basis zone facts.keys.items
  pub dnskeys : AreAllDnskeyFacts basis zone facts.dnskeys.items
  pub anchors : AreAnchorFacts basis zone facts.anchors.items
  pub ds : AreAllDsFacts basis zone facts.ds.items

-- for each number of the name's labels, from none on, those of the name that these are
pub record AreZoneFacts (basis : Basis) (name : Labels) (t : ℕ) (zones : List ZoneFacts) : Type 0 where
  pub count : length zones ≡ length name + 1
  pub each : (n : ℕ) (facts : ZoneFacts) → slice_get zones n ≡ Some facts → AreFactsOfZone basis name t (rightmost name n) facts
