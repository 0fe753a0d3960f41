-- Names read by following octets from a place on: how a `NameRef` is seen. No public clause cites this module.
pub mod Kept
pub mod Pieces
pub mod Rdata
use Rattle.std.specs.Prelude.{◌≡◌, ℕ, zero, suc, ◌+◌, ◌-◌, ◌*◌, ◌^◌, ◌<◌, ◌≤◌, Bool, true, false, nat_lt, List, [], ◌∷◌, length, get_or, take, drop}
use Rattle.dnsv_names.specs.Name.{Labels}
use Rattle.dnsv_names.specs.Octets.{AreOctets, number_at}
use Rattle.dnsv_message.specs.NameAt.{NameFrom}

-- a label of that size and what follows it, or what the pointer at the place leads to
abbrev pub behind : (ℕ → Labels) → List ℕ → ℕ → ℕ → Bool → Labels
behind rest octets place size true = take size (drop (place + 1) octets) ∷ rest (place + (1 + size))
behind rest octets place size false = rest (number_at octets place 2 - 3 * 2 ^ 14)

-- the labels from a place where this octet stands, if `rest` gives those of further places
abbrev pub by_octet : (ℕ → Labels) → List ℕ → ℕ → ℕ → Labels
by_octet rest octets place zero = []
by_octet rest octets place (suc more) = behind rest octets place (suc more) (nat_lt (suc more) 64)

-- the labels that so many steps from the place find
unfoldable pub labels_from : ℕ → List ℕ → ℕ → Labels
labels_from zero octets place = []
labels_from (suc steps) octets place = by_octet (labels_from steps octets) octets place (get_or octets place 0)

-- The labels of the name at a place. Its 127 labels at most, its 32 pointers and its root are 160 steps.
abbrev pub labels_at : List ℕ → ℕ → Labels
labels_at octets place = labels_from 160 octets place

-- a name stands at the place
pub record IsNamed (octets : List ℕ) (place : ℕ) : Type 0 where
  pub fit : AreOctets octets
  pub end : ℕ
  pub name : NameFrom octets place (labels_at octets place) end

-- and it begins with a label, which is all there, or with the root
pub record StandsAt (octets : List ℕ) (place : ℕ) : Type 0 where
  pub named : IsNamed octets place
  pub plain : get_or octets place 0 < 64
  pub within : place + (1 + get_or octets place 0) ≤ length octets

-- the label at a place, behind its length
abbrev pub label_at : List ℕ → ℕ → List ℕ
label_at octets place = take (get_or octets place 0) (drop (place + 1) octets)
