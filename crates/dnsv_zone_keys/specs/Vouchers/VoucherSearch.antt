-- How the keys that anchors and DS records match are looked for.
use Rattle.std.specs.Prelude.{◌≡◌, ⊤, ℕ, List, Option, Some, None, Contains, IsTrue}
use Rattle.std.specs.List.Sorted.{IsStrictlyIncreasing}
use Rattle.dnsv_names.specs.Name.{Labels}
use Rattle.dnsv_records.specs.Algorithm.{is_supported}
use Rattle.dnsv_records.specs.Dnskey.KeyTag.{key_tag_of}
use Rattle.dnsv_canonical.specs.Rrsets.{ReceivedRrset}
use Rattle.dnsv_digest.specs.Digest.{ds_digest_of}
use Rattle.dnsv_verifier.specs.Admissible.{DnskeyRecord}
use Rattle.dnsv_lines.specs.declared.line.fault.zone.WhyEntry.{WhyEntry}
use Rattle.dnsv_lines.specs.declared.line.fault.zone.WhyEntry.TheVariants as why
use Rattle.dnsv_zone_keys.specs.Keys.Index.{HaveAllOf, Placed}
use Rattle.dnsv_zone_keys.specs.Keys.{IsKeyPlaced}
use Rattle.dnsv_zone_keys.specs.Vouchers.{HasTag, HasUnknownDigest, IsIgnoredBeside, IsMatchOf, IsWantedBy, Wanted, wanted_key}
use Rattle.dnsv_zone_keys.specs.Vouchers.Wanted.{by_digest, whole_key}
use Rattle.dnsv_zone_keys.specs.declared.vouchers.asked.Asked.{Asked}
use Rattle.dnsv_zone_keys.specs.declared.vouchers.asked.Asked.TheVariants as asked

abbrev pub wanted_of : Asked → Wanted
wanted_of (asked.Digest records ds) = by_digest records.now ds.now
wanted_of (asked.Key rdata) = whole_key rdata.now

-- the keys of the zone, each with its place
pub record AreKeysOfZone (rrsets : List ReceivedRrset) (zone : Labels) (keys : List Placed) : Type 0 where
  pub each : (placed : Placed) → Contains keys placed → IsKeyPlaced rrsets zone placed.place placed.key
  pub every : HaveAllOf rrsets keys zone

abbrev pub tag_of : Placed → ℕ
tag_of placed = key_tag_of placed.key.rdata

-- what is kept is the key's digest by the digest type
abbrev pub IsKeptDigest : ℕ → DnskeyRecord → Option (List ℕ) → Type 0
IsKeptDigest number key None = ⊤
IsKeptDigest number key (Some digest) = ds_digest_of number key.owner key.rdata ≡ Some digest

-- the key's digests by the digest types that are supported, as far as they are kept
pub record AreDigestsOf (key : DnskeyRecord) (by_sha1 by_sha256 by_sha384 : Option (List ℕ)) : Type 0 where
  pub sha1 : IsKeptDigest 1 key by_sha1
  pub sha256 : IsKeptDigest 2 key by_sha256
  pub sha384 : IsKeptDigest 4 key by_sha384

-- one of the keys is such
pub record HasAmong (Such : DnskeyRecord → Type 0) (keys : List Placed) : Type 0 where
  pub placed : Placed
  pub among : Contains keys placed
  pub such : Such placed.key

-- the algorithm that it asks for is supported
abbrev pub IsSupportedWanted : Wanted → Type 0
IsSupportedWanted wanted = IsTrue (is_supported (wanted_key wanted).algorithm.0)

-- why it can't be used, whatever keys the zone has
abbrev pub IsUnusableWord : Wanted → Option WhyEntry → Type 0
IsUnusableWord wanted None = IsSupportedWanted wanted × (¬ HasUnknownDigest wanted) × (¬ IsIgnoredBeside wanted)
IsUnusableWord wanted (Some why.Algorithm) = ¬ IsSupportedWanted wanted
IsUnusableWord wanted (Some why.DigestType) = IsSupportedWanted wanted × HasUnknownDigest wanted
IsUnusableWord wanted (Some why.DigestIgnored) = IsSupportedWanted wanted × (¬ HasUnknownDigest wanted) × IsIgnoredBeside wanted
IsUnusableWord wanted (Some why.KeyMissing) = ⊥
IsUnusableWord wanted (Some why.KeyAlgorithm) = ⊥
IsUnusableWord wanted (Some why.DigestDiffers) = ⊥

-- why it matches none of the keys
abbrev pub IsKeyWord : List Placed → Wanted → Option WhyEntry → Type 0
IsKeyWord keys wanted None = HasAmong (IsMatchOf wanted) keys
IsKeyWord keys wanted (Some why.KeyMissing) = ¬ HasAmong (HasTag wanted) keys
IsKeyWord keys wanted (Some why.KeyAlgorithm) = HasAmong (HasTag wanted) keys × (¬ HasAmong (IsWantedBy wanted) keys)
IsKeyWord keys wanted (Some why.DigestDiffers) = HasAmong (IsWantedBy wanted) keys × (¬ HasAmong (IsMatchOf wanted) keys)
IsKeyWord keys wanted (Some why.Algorithm) = ⊥
IsKeyWord keys wanted (Some why.DigestType) = ⊥
IsKeyWord keys wanted (Some why.DigestIgnored) = ⊥

-- the place is that of the key, which is such
pub record IsPlaceOf (Such : DnskeyRecord → Type 0) (placed : Placed) (place : ℕ) : Type 0 where
  pub such : Such placed.key
  pub is : place ≡ placed.place

-- the places of those keys that are such
pub record ArePlacesOf (keys : List Placed) (Such : DnskeyRecord → Type 0) (places : List ℕ) : Type 0 where
  pub rising : IsStrictlyIncreasing places
  pub only : (place : ℕ) → Contains places place → (placed : Placed) × Contains keys placed × IsPlaceOf Such placed place
  pub all : (placed : Placed) → Contains keys placed → Such placed.key → Contains places placed.place
