-- Which keys a signature names. No public clause cites this module.
use Rattle.std.specs.Prelude.{List, Contains}
use Rattle.dnsv_canonical.specs.Rrsets.{ReceivedRrset}
use Rattle.dnsv_records.specs.declared.rrsig.Rrsig.{Rrsig}
use Rattle.dnsv_zone_keys.specs.Keys.Index.{AreIndexed, IsNamedBySigner, Placed}
use Rattle.dnsv_zone_keys.specs.Keys.{IsZoneKey}

-- just those keys of the evidence that the signature names
pub record AreNamedOf (rrsets : List ReceivedRrset) (rrsig : Rrsig) (named : List Placed) : Type 0 where
  pub all : List Placed
  pub indexed : AreIndexed rrsets all
  pub among : (placed : Placed) → Contains named placed → Contains all placed
  pub each : (placed : Placed) → Contains named placed → IsNamedBySigner rrsig placed.key
  pub every : (placed : Placed) → Contains all placed → IsNamedBySigner rrsig placed.key → Contains named placed

-- a zone may sign with one of the keys
pub record HasZoneKey (keys : List Placed) : Type 0 where
  pub placed : Placed
  pub among : Contains keys placed
  pub is : IsZoneKey placed.key
