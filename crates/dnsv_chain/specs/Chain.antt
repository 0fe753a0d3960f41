-- How trust is worked out, a step at a time. No public clause cites this module.
use Rattle.std.specs.Prelude.{◌≡◌, ◌<◌, ◌⊎◌, ◌↔◌, ℕ, List, Contains, length, slice_index_or, true}
use Rattle.std.specs.BTreeSet.{BTreeSet, contains}
use Rattle.std.specs.Ordering.{ordering_then}
use Rattle.std.specs.declared.cmp.Ordering.{Ordering}
use Rattle.dnsv_names.specs.Name.{Labels, SameName}
use Rattle.dnsv_names.specs.Order.ByWire.{search_cmp}
use Rattle.dnsv_anchors.specs.declared.by_owner.key.OwnerKey.{OwnerKey}
use Rattle.dnsv_records.specs.declared.dnskey.Dnskey.{Dnskey}
use Rattle.dnsv_canonical.specs.Canonical.{rdata_cmp}
use Rattle.dnsv_canonical.specs.Rrsets.{ReceivedRrset}
use Rattle.dnsv_verifier.specs.Admissible.{DnskeyRecord}
use Rattle.dnsv_verifier.specs.declared.answer.Answer.{Answer}
use Rattle.dnsv_verifier.specs.declared.entry.Entry.{Entry}
use Rattle.dnsv_chain.specs.Anchor.{HasAnchorMatch}
use Rattle.dnsv_chain.specs.Trusted.{IsKeyOf, IsSignedUnder, SignsItsSet, DelegatesTo, IsTrusted}
use Rattle.dnsv_anchors.specs.declared.anchor.Anchor.{Anchor}
use Rattle.dnsv_chain.specs.declared.order.Step.{Step}
use Rattle.dnsv_chain.specs.Order.{IsStepOf}
use Rattle.dnsv_chain.specs.Signing.{IsGoodNumber}

-- ---- DNSKEY RRsets

-- one of the DS RRsets matches the key
pub record IsDelegatedBySome (delegations : List ReceivedRrset) (key : DnskeyRecord) : Type 0 where
  pub ds : ReceivedRrset
  pub among : Contains delegations ds
  pub delegates : DelegatesTo ds key

-- an anchor or one of the DS RRsets matches the key
abbrev pub IsVouchedFor : List Anchor → List ReceivedRrset → DnskeyRecord → Type 0
IsVouchedFor anchors delegations key = HasAnchorMatch anchors key ⊎ IsDelegatedBySome delegations key

-- just the keys of the set
abbrev pub AreKeysOfSet : ReceivedRrset → List DnskeyRecord → Type 0
AreKeysOfSet set keys = (key : DnskeyRecord) → Contains keys key ↔ IsKeyOf set key

-- just those among the first so many of the set
pub record AreKeysTo (set : ReceivedRrset) (count : ℕ) (keys : List DnskeyRecord) : Type 0 where
  pub each : (key : DnskeyRecord) → Contains keys key → IsKeyOf set key
  pub every : (place : ℕ) (key : DnskeyRecord) → place < count → place < length set.rdata
      → slice_index_or set.rdata place key.rdata ≡ key.rdata → IsKeyOf set key → Contains keys key

-- just those of the keys that are vouched for
abbrev pub AreVouched : List Anchor → List ReceivedRrset → List DnskeyRecord → List DnskeyRecord → Type 0
AreVouched anchors delegations keys vouched =
    (key : DnskeyRecord) → Contains vouched key ↔ (Contains keys key × IsVouchedFor anchors delegations key)

-- a key of the set signs it, and an anchor or one of the DS RRsets matches the key
pub record IsSignedByVouched
    (meaning : Entry → Answer) (moment : ℕ) (anchors : List Anchor) (delegations : List ReceivedRrset)
    (set : ReceivedRrset) : Type 0 where
  pub key : DnskeyRecord
  pub signs : SignsItsSet meaning moment set key
  pub vouched : IsVouchedFor anchors delegations key

-- one of the keys has the RDATA
abbrev pub HasRdata : List DnskeyRecord → List ℕ → Type 0
HasRdata keys rdata = (key : DnskeyRecord) × Contains keys key × (key.rdata ≡ rdata)

-- each RDATA of the set is that of one of the keys
abbrev pub HasKeys : ReceivedRrset → List DnskeyRecord → Type 0
HasKeys set keys = (rdata : List ℕ) → Contains set.rdata rdata → HasRdata keys rdata

-- the key is one of a trusted set at the zone
pub record IsKeyOfTrusted
    (meaning : Entry → Answer) (moment : ℕ) (rrsets : List ReceivedRrset) (anchors : List Anchor)
    (zone : Labels) (key : DnskeyRecord) : Type 0 where
  pub set : ReceivedRrset
  pub trusted : IsTrusted meaning moment rrsets anchors set
  pub owner : SameName set.owner zone
  pub stands : IsKeyOf set key

-- the DS RRset of the evidence has a signature that is good under a key of a trusted set
pub record IsDelegation
    (meaning : Entry → Answer) (moment : ℕ) (rrsets : List ReceivedRrset) (anchors : List Anchor)
    (ds : ReceivedRrset) : Type 0 where
  pub among : Contains rrsets ds
  pub parent : ReceivedRrset
  pub trusted : IsTrusted meaning moment rrsets anchors parent
  pub above : DnskeyRecord
  pub stands : IsKeyOf parent above
  pub signed : IsSignedUnder meaning moment ds above

-- by owner, and by RDATA as unsigned octets
abbrev pub known_cmp : OwnerKey × (List ℕ × Dnskey) → OwnerKey × (List ℕ × Dnskey) → Ordering
known_cmp a b = ordering_then (search_cmp a.0.0 b.0.0) (rdata_cmp a.1.0 b.1.0)

-- each owner and RDATA is that of a key that is kept for the owner
pub record AreKnown (known : BTreeSet (OwnerKey × (List ℕ × Dnskey))) (keys : Labels → List DnskeyRecord) : Type 0 where
  pub each : (key : OwnerKey × (List ℕ × Dnskey)) → contains known_cmp known key ≡ true
      → HasRdata (keys key.0.0) key.1.0

-- ---- the walk

-- Each RDATA of the set is there for its owner besides what was, and nothing else came.
pub record AddsKeys (set : ReceivedRrset) (old new : Labels → List DnskeyRecord) : Type 0 where
  pub cases : (zone : Labels) (key : DnskeyRecord) → Contains (new zone) key
      → Contains (old zone) key ⊎ (SameName set.owner zone × IsKeyOf set key)
  pub kept : (zone : Labels) (key : DnskeyRecord) → Contains (old zone) key → Contains (new zone) key
  pub all : HasKeys set (new set.owner)

-- the same of the first so many RDATA
pub record AddsKeysTo (set : ReceivedRrset) (count : ℕ) (old new : Labels → List DnskeyRecord) : Type 0 where
  pub cases : (zone : Labels) (key : DnskeyRecord) → Contains (new zone) key
      → Contains (old zone) key ⊎ (SameName set.owner zone × IsKeyOf set key)
  pub kept : (zone : Labels) (key : DnskeyRecord) → Contains (old zone) key → Contains (new zone) key
  pub all : (place : ℕ) (rdata : List ℕ) → place < count → place < length set.rdata
      → slice_index_or set.rdata place rdata ≡ rdata → HasRdata (new set.owner) rdata

-- the keys of the set are added where a key that is vouched for signs it
pub record AddsTrusted
    (meaning : Entry → Answer) (moment : ℕ) (anchors : List Anchor) (delegations : Labels → List ReceivedRrset)
    (set : ReceivedRrset) (old new : Labels → List DnskeyRecord) : Type 0 where
  pub signed : IsSignedByVouched meaning moment anchors (delegations set.owner) set → AddsKeys set old new
  pub kept : (zone : Labels) (key : DnskeyRecord) → Contains (old zone) key → Contains (new zone) key
  pub cases : (zone : Labels) (key : DnskeyRecord) → Contains (new zone) key
      → Contains (old zone) key
      ⊎ (IsSignedByVouched meaning moment anchors (delegations set.owner) set × SameName set.owner zone
      × IsKeyOf set key)

-- the DS RRset is added where a signature of it is good under a key of its signer
pub record AddsDelegation
    (meaning : Entry → Answer) (moment : ℕ) (keys : Labels → List DnskeyRecord) (ds : ReceivedRrset)
    (old new : Labels → List ReceivedRrset) : Type 0 where
  pub good : (s : ℕ) → IsGoodNumber meaning moment ds keys s → Contains (new ds.owner) ds
  pub kept : (zone : Labels) (each : ReceivedRrset) → Contains (old zone) each → Contains (new zone) each
  pub cases : (zone : Labels) (each : ReceivedRrset) → Contains (new zone) each
      → Contains (old zone) each ⊎ ((each ≡ ds) × ((s : ℕ) × IsGoodNumber meaning moment ds keys s))

-- what is kept by owner has the keys of the trusted sets and the DS RRsets with a good signature, those of the steps
-- that are done all
pub record IsWalked
    (meaning : Entry → Answer) (moment : ℕ) (rrsets : List ReceivedRrset) (anchors : List Anchor) (done : List Step)
    (keys : Labels → List DnskeyRecord) (delegations : Labels → List ReceivedRrset) : Type 0 where
  pub keys_are : (zone : Labels) (key : DnskeyRecord) → Contains (keys zone) key
      → IsKeyOfTrusted meaning moment rrsets anchors zone key
  pub keys_all : (step : Step) (set : ReceivedRrset) → Contains done step → IsStepOf rrsets step set
      → IsTrusted meaning moment rrsets anchors set → HasKeys set (keys set.owner)
  pub delegations_are : (zone : Labels) (ds : ReceivedRrset) → Contains (delegations zone) ds
      → IsDelegation meaning moment rrsets anchors ds
  pub delegations_all : (step : Step) (ds : ReceivedRrset) → Contains done step → IsStepOf rrsets step ds
      → ds.rtype ≡ 43 → IsDelegation meaning moment rrsets anchors ds → Contains (delegations ds.owner) ds

-- the keys of trusted sets, all of them
pub record AreKeysByOwner
    (meaning : Entry → Answer) (moment : ℕ) (rrsets : List ReceivedRrset) (anchors : List Anchor)
    (keys : Labels → List DnskeyRecord) : Type 0 where
  pub are : (zone : Labels) (key : DnskeyRecord) → Contains (keys zone) key
      → IsKeyOfTrusted meaning moment rrsets anchors zone key
  pub all : (set : ReceivedRrset) → IsTrusted meaning moment rrsets anchors set → HasKeys set (keys set.owner)
  pub same : (a b : Labels) → SameName a b → keys a ≡ keys b
