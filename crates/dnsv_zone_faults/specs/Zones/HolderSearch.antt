-- How the DNSKEY RRsets that hold a key are looked for. No public clause cites this module.
use Rattle.std.specs.Prelude.{◌≡◌, ◌↔◌, ℕ, Bool, IsTrue, List, Some, Contains, length, slice_get}
use Rattle.std.specs.List.Sorted.{IsSortedByKey, IsStrictlyIncreasing}
use Rattle.std.specs.Ordering.{nat_cmp}
use Rattle.dnsv_verifier.specs.Asking.{ComesOfSome}
use Rattle.dnsv_mending.specs.declared.facts.keys.DnskeyFacts.{DnskeyFacts}
use Rattle.dnsv_mending.specs.declared.facts.keys.HeldKey.{HeldKey}
use Rattle.dnsv_mending.specs.declared.facts.zone.ZoneKey.{ZoneKey}
use Rattle.dnsv_zone_faults.specs.declared.zone.holders.Holding.{Holding}

abbrev pub key_of : Holding → ℕ
key_of holding = holding.key

-- what is kept of a key in a DNSKEY RRset with the place
abbrev pub holding_of : ℕ → Bool → HeldKey → Holding
holding_of h is_trusted held = record { key = held.key; holder = h; is_trusted = is_trusted }

-- the RRset has the key with the place
pub record Holds (dnskeys : List DnskeyFacts) (place h : ℕ) (dnskey : DnskeyFacts) : Type 0 where
  pub at : slice_get dnskeys h ≡ Some dnskey
  pub held : HeldKey
  pub among : Contains dnskey.keys.items held
  pub key : held.key ≡ place

-- one that is trusted has
pub record IsHeldByTrusted (dnskeys : List DnskeyFacts) (place : ℕ) : Type 0 where
  pub h : ℕ
  pub dnskey : DnskeyFacts
  pub holds : Holds dnskeys place h dnskey
  pub trusted : IsTrue dnskey.is_trusted

-- the facts are those of the key with the place, by what its RRsets hold
pub record AreHolders (dnskeys : List DnskeyFacts) (place : ℕ) (facts : ZoneKey) : Type 0 where
  pub trusted : IsTrue facts.is_trusted ↔ IsHeldByTrusted dnskeys place
  pub rising : IsStrictlyIncreasing facts.holders.items
  pub holders : (h : ℕ) → Contains facts.holders.items h ↔ ((dnskey : DnskeyFacts) × Holds dnskeys place h dnskey)

-- a holding comes of a key in the RRset with the place
abbrev pub IsHoldingOf : ℕ → DnskeyFacts → Holding → Type 0
IsHoldingOf h dnskey = ComesOfSome (λ held holding. holding ≡ holding_of h dnskey.is_trusted held) dnskey.keys.items

-- or in one of them
pub record IsHoldingIn (dnskeys : List DnskeyFacts) (holding : Holding) : Type 0 where
  pub h : ℕ
  pub dnskey : DnskeyFacts
  pub at : slice_get dnskeys h ≡ Some dnskey
  pub of : IsHoldingOf h dnskey holding

-- just these, by the places of their keys
pub record AreHoldings (dnskeys : List DnskeyFacts) (holdings : List Holding) : Type 0 where
  pub sorted : IsSortedByKey key_of nat_cmp holdings
  pub only : (holding : Holding) → Contains holdings holding → IsHoldingIn dnskeys holding
  pub all : (holding : Holding) → IsHoldingIn dnskeys holding → Contains holdings holding

-- those of them that have the key
pub record AreOfKey (holdings : List Holding) (place : ℕ) (own : List Holding) : Type 0 where
  pub among : (holding : Holding) → Contains own holding → Contains holdings holding
  pub its : (holding : Holding) → Contains own holding → holding.key ≡ place
  pub all : (holding : Holding) → Contains holdings holding → holding.key ≡ place → Contains own holding

-- some of them are of a trusted RRset
pub record HasTrusted (own : List Holding) : Type 0 where
  pub holding : Holding
  pub among : Contains own holding
  pub trusted : IsTrue holding.is_trusted

-- the places of their RRsets
pub record AreHoldersOf (own : List Holding) (holders : List ℕ) : Type 0 where
  pub rising : IsStrictlyIncreasing holders
  pub only : (h : ℕ) → Contains holders h → (holding : Holding) × Contains own holding × (holding.holder ≡ h)
  pub all : (holding : Holding) → Contains own holding → Contains holders holding.holder

-- for each place below the count
pub record AreHoldersOfEach (dnskeys : List DnskeyFacts) (count : ℕ) (keys : List ZoneKey) : Type 0 where
  pub length_is : length keys ≡ count
  pub each : (place : ℕ) (facts : ZoneKey) → slice_get keys place ≡ Some facts → AreHolders dnskeys place facts
