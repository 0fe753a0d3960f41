-- How an interval goes on, or ends, and what is added to those so far. No public clause cites this module.
use Rattle.std.specs.Prelude.{◌≡◌, ◌⊎◌, Bool, List, [], ◌∷◌, ◌++◌}
use Rattle.dnsv_canonical.specs.Rrsets.{ReceivedRrset}
use Rattle.dnsv_moments.specs.declared.texts.borders.Border.{Border}
use Rattle.dnsv_timeline.specs.declared.stretch.Stretch.{Stretch}
use Rattle.dnsv_moments.specs.validity.Said.{Said}
use Rattle.dnsv_moments.specs.texts.Pieces.{AreJoined, Piece, begun, longer}
use Rattle.dnsv_moments.specs.texts.Shown.{AreBordersShown, AreShownAs}
use Rattle.dnsv_moments.specs.declared.texts.shown.ShownBorder.{ShownBorder}

-- it has the stretch too, or it is added to the others and the stretch begins the next
abbrev pub Follows : List ReceivedRrset → Bool → Piece → Stretch Said → List Piece → List Piece → Piece → Type 0
Follows rrsets kinds piece stretch old new next =
    (AreJoined kinds piece.last stretch.said × (new ≡ old) × (next ≡ longer piece stretch))
    ⊎ ((¬ AreJoined kinds piece.last stretch.said)
    × ((borders : List ShownBorder) × AreBordersShown rrsets piece.last.by stretch.said.by stretch.from borders
    × (new ≡ old ++ piece ∷ []) × (next ≡ begun borders stretch)))

-- what is shown of the border was added, where the evidence has its signature
pub record AddsShown (rrsets : List ReceivedRrset) (border : Border) (old new : List ShownBorder) : Type 0 where
  pub some : List ShownBorder
  pub is : new ≡ old ++ some
  pub are : AreShownAs rrsets border some
