-- The intervals of a timeline as they are shown: its stretches, or where kinds are shown alone those of one kind joined.
use Rattle.std.specs.Prelude.{◌≡◌, ◌⊎◌, ℕ, Bool, IsTrue, List, [], ◌∷◌}
use Rattle.dnsv_canonical.specs.Rrsets.{ReceivedRrset}
use Rattle.dnsv_timeline.specs.declared.stretch.Stretch.{Stretch}
use Rattle.dnsv_moments.specs.validity.Said.{Said}
use Rattle.dnsv_moments.specs.texts.Shown.{AreBordersShown}
use Rattle.dnsv_moments.specs.declared.texts.shown.ShownBorder.{ShownBorder}

-- the borders in front of an interval, its first moment and its last, and what is said at these
pub record Piece : Type 0 where
  pub borders : List ShownBorder
  pub from : ℕ
  pub to : ℕ
  pub first : Said
  pub last : Said

-- an interval that begins with the stretch
abbrev pub begun : List ShownBorder → Stretch Said → Piece
begun borders stretch =
    record { borders = borders; from = stretch.from; to = stretch.to; first = stretch.said; last = stretch.said }

-- the same interval up to the end of the stretch
abbrev pub longer : Piece → Stretch Said → Piece
longer piece stretch =
    record { borders = piece.borders; from = piece.from; to = stretch.to; first = piece.first; last = stretch.said }

-- kinds are shown alone, and both have one kind
abbrev pub AreJoined : Bool → Said → Said → Type 0
AreJoined kinds last said = IsTrue kinds × (last.told.kind ≡ said.told.kind)

-- the intervals that follow from one and the stretches behind it
abbrev pub GoOn : List ReceivedRrset → Bool → Piece → List (Stretch Said) → List Piece → Type 0
GoOn rrsets kinds piece [] pieces = pieces ≡ piece ∷ []
GoOn rrsets kinds piece (stretch ∷ stretches) pieces =
    (AreJoined kinds piece.last stretch.said × GoOn rrsets kinds (longer piece stretch) stretches pieces)
    ⊎ ((¬ AreJoined kinds piece.last stretch.said)
    × ((borders : List ShownBorder) × AreBordersShown rrsets piece.last.by stretch.said.by stretch.from borders
    × ((others : List Piece) × GoOn rrsets kinds (begun borders stretch) stretches others × (pieces ≡ piece ∷ others))))

-- those of the stretches of a timeline: nothing stands in front of the first
abbrev pub ArePieces : List ReceivedRrset → Bool → List (Stretch Said) → List Piece → Type 0
ArePieces rrsets kinds [] pieces = pieces ≡ []
ArePieces rrsets kinds (stretch ∷ stretches) pieces = GoOn rrsets kinds (begun [] stretch) stretches pieces
