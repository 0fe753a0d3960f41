-- Trust as a list of links, from an anchor down (RFC 4035 5).
use Rattle.std.specs.Prelude.{◌≡◌, ℕ, List, [], ◌∷◌, Contains}
use Rattle.dnsv_names.specs.Order.{IsBelow}
use Rattle.dnsv_canonical.specs.Rrsets.{ReceivedRrset}
use Rattle.dnsv_verifier.specs.Admissible.{DnskeyRecord}
use Rattle.dnsv_verifier.specs.declared.answer.Answer.{Answer}
use Rattle.dnsv_verifier.specs.declared.entry.Entry.{Entry}
use Rattle.dnsv_chain.specs.Anchor.{HasAnchorMatch}
use Rattle.dnsv_chain.specs.Trusted.{IsKeyOf, IsSignedUnder, SignsItsSet, DelegatesTo}
use Rattle.dnsv_anchors.specs.declared.anchor.Anchor.{Anchor}

-- a key of the DNSKEY RRset of the evidence signs it and matches an anchor
pub record IsAnchored
    (meaning : Entry → Answer) (moment : ℕ) (rrsets : List ReceivedRrset) (anchors : List Anchor)
    (set : ReceivedRrset) : Type 0 where
  pub among : Contains rrsets set
  pub key : DnskeyRecord
  pub signs : SignsItsSet meaning moment set key
  pub anchored : HasAnchorMatch anchors key

-- A link: a key of the DNSKEY RRset above signs a DS RRset, a usable record of that matches a key of the DNSKEY RRset
-- below, and this key signs the RRset that it stands in. The owner below is below the one above.
pub record IsLink (meaning : Entry → Answer) (moment : ℕ) (rrsets : List ReceivedRrset) (above below : ReceivedRrset)
    : Type 0 where
  pub signer : DnskeyRecord
  pub stands : IsKeyOf above signer
  pub ds : ReceivedRrset
  pub ds_among : Contains rrsets ds
  pub ds_signed : IsSignedUnder meaning moment ds signer
  pub key : DnskeyRecord
  pub delegated : DelegatesTo ds key
  pub among : Contains rrsets below
  pub signs : SignsItsSet meaning moment below key
  pub goes_down : IsBelow below.owner above.owner

-- from the first of the sets, links lead down over these to the last
abbrev pub LeadsTo
    : (Entry → Answer) → ℕ → List ReceivedRrset → ReceivedRrset → List ReceivedRrset → ReceivedRrset → Type 0
LeadsTo meaning moment rrsets first [] last = first ≡ last
LeadsTo meaning moment rrsets first (next ∷ sets) last =
    IsLink meaning moment rrsets first next × LeadsTo meaning moment rrsets next sets last

-- the set has a derivation: a set that is anchored, and links from there down to it
pub record HasDerivation
    (meaning : Entry → Answer) (moment : ℕ) (rrsets : List ReceivedRrset) (anchors : List Anchor)
    (set : ReceivedRrset) : Type 0 where
  pub first : ReceivedRrset
  pub anchored : IsAnchored meaning moment rrsets anchors first
  pub sets : List ReceivedRrset
  pub leads : LeadsTo meaning moment rrsets first sets set
