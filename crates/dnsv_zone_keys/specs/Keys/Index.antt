-- How the keys that a signature names are looked for.
use Rattle.std.specs.Prelude.{◌≡◌, ℕ, List, Contains}
use Rattle.dnsv_names.specs.Name.{Labels, SameName}
use Rattle.dnsv_canonical.specs.Rrsets.{ReceivedRrset}
use Rattle.dnsv_records.specs.declared.rrsig.Rrsig.{Rrsig}
use Rattle.dnsv_verifier.specs.Admissible.{DnskeyRecord}
use Rattle.dnsv_verifier.specs.Asking.{KeyName, name_of_key}
use Rattle.dnsv_zone_keys.specs.Keys.{IsKeyPlaced, IsNamed}

-- a key with its place among those of its owner
pub record Placed : Type 0 where
  pub place : ℕ
  pub key : DnskeyRecord

abbrev pub name_of : Placed → KeyName
name_of placed = name_of_key placed.key

-- one of them has the place and the RDATA of the key
pub record HasPlaced (all : List Placed) (zone : Labels) (place : ℕ) (key : DnskeyRecord) : Type 0 where
  pub placed : Placed
  pub among : Contains all placed
  pub place_is : placed.place ≡ place
  pub rdata : placed.key.rdata ≡ key.rdata
  pub owner : SameName placed.key.owner zone

-- the keys of the zone are among them
abbrev pub HaveAllOf : List ReceivedRrset → List Placed → Labels → Type 0
HaveAllOf rrsets all zone = (place : ℕ) (key : DnskeyRecord) → IsKeyPlaced rrsets zone place key → HasPlaced all zone place key

-- each is placed as it says
abbrev pub IsPlaced : List ReceivedRrset → Placed → Type 0
IsPlaced rrsets placed = IsKeyPlaced rrsets placed.key.owner placed.place placed.key

-- the keys of the evidence, with their places
pub record AreIndexed (rrsets : List ReceivedRrset) (all : List Placed) : Type 0 where
  pub each : (placed : Placed) → Contains all placed → IsPlaced rrsets placed
  pub every : (zone : Labels) → HaveAllOf rrsets all zone

-- one of the signer with the tag and the algorithm
pub record IsNamedBySigner (rrsig : Rrsig) (key : DnskeyRecord) : Type 0 where
  pub named : IsNamed rrsig key
  pub owner : SameName key.owner rrsig.signer
