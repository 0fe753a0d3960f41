-- How a `Name` keeps its labels: as the octets of their wire form. No public clause cites this module.
use Rattle.std.specs.Prelude.{◌≡◌, ℕ, zero, suc, List, [], ◌∷◌, take}
use Rattle.dnsv_names.specs.Name.{Labels, wire, IsName}

-- the labels that the octets spell after the first `skipped` of them
abbrev pub labels_after : ℕ → List ℕ → Labels
labels_after skipped [] = []
labels_after (suc skipped) (octet ∷ octets) = labels_after skipped octets
labels_after zero (zero ∷ octets) = []
labels_after zero (suc more ∷ octets) = take (suc more) octets ∷ labels_after (suc more) octets

-- the labels that the octets spell, up to the root
abbrev pub labels_of : List ℕ → Labels
labels_of octets = labels_after 0 octets

-- the octets are the wire form of a name
pub record SpellsName (octets : List ℕ) : Type 0 where
  pub name : IsName (labels_of octets)
  pub whole : octets ≡ wire (labels_of octets)
