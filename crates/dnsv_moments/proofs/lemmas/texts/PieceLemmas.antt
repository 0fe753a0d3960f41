-- The intervals of a timeline, one stretch after another.
use Rattle.std.proofs.Common.{◌≡◌, ℕ, ◌+◌, Bool, inl, inr, List, [], ◌∷◌, ◌++◌, drop, refl, sym, ap, ◌∙◌, subst, append_assoc}
use Rattle.dnsv_canonical.specs.Rrsets.{ReceivedRrset}
use Rattle.dnsv_timeline.specs.declared.stretch.Stretch.{Stretch}
use Rattle.dnsv_moments.specs.validity.Said.{Said}
use Rattle.dnsv_moments.specs.texts.Following.{Follows}
use Rattle.dnsv_moments.specs.texts.Pieces.{ArePieces, GoOn, Piece, begun, longer}
use Rattle.dnsv_moments.specs.declared.texts.shown.ShownBorder.{ShownBorder}

module _ (rrsets : List ReceivedRrset) (kinds : Bool) (stretches others : List (Stretch Said)) where
  -- those that are added, and what goes on from the interval at hand, are all
  pub record ArePiecesTo (i : ℕ) (all : List Piece) (piece : Piece) : Type 0 where
    pub rest : (behind : List Piece) → GoOn rrsets kinds piece (drop i others) behind
        → ArePieces rrsets kinds stretches (all ++ behind)

  pub first_piece : (first : Stretch Said) (all : List Piece) (borders : List ShownBorder) (piece : Piece) → stretches ≡ first ∷ others
      → all ≡ [] → borders ≡ [] → piece ≡ begun borders first → ArePiecesTo 0 all piece
  first_piece first all borders piece is none empty same =
      let start : ArePiecesTo 0 [] (begun [] first) = record {
        rest = λ behind on. subst (λ (each : List (Stretch Said)). ArePieces rrsets kinds each behind) (sym is) on;
      } in
      subst (λ (each : List Piece). ArePiecesTo 0 each piece) (sym none)
      (subst (ArePiecesTo 0 []) (sym (same ∙ ap (λ (each : List ShownBorder). begun each first) empty)) start)

  pub next_piece : (i : ℕ) (stretch : Stretch Said) (old new : List Piece) (piece next : Piece)
      → drop i others ≡ stretch ∷ drop (i + 1) others → ArePiecesTo i old piece
      → Follows rrsets kinds piece stretch old new next → ArePiecesTo (i + 1) new next
  next_piece i stretch old new piece next here so_far (inl (joined, same, is)) = record {
    rest = λ behind on.
        let longer_on : GoOn rrsets kinds (longer piece stretch) (drop (i + 1) others) behind =
        subst (λ (each : Piece). GoOn rrsets kinds each (drop (i + 1) others) behind) is on in
        let there : GoOn rrsets kinds piece (drop i others) behind =
        subst (λ (left : List (Stretch Said)). GoOn rrsets kinds piece left behind) (sym here) (inl (joined, longer_on)) in
        subst (λ (each : List Piece). ArePieces rrsets kinds stretches (each ++ behind)) (sym same) (so_far.rest behind there);
  }
  next_piece i stretch old new piece next here so_far (inr (apart, (borders, shown, more, is))) = record {
    rest = λ behind on.
        let begun_on : GoOn rrsets kinds (begun borders stretch) (drop (i + 1) others) behind =
        subst (λ (each : Piece). GoOn rrsets kinds each (drop (i + 1) others) behind) is on in
        let there : GoOn rrsets kinds piece (drop i others) (piece ∷ behind) =
        subst (λ (left : List (Stretch Said)). GoOn rrsets kinds piece left (piece ∷ behind)) (sym here)
        (inr (apart, (borders, shown, (behind, begun_on, refl)))) in
        subst (λ (each : List Piece). ArePieces rrsets kinds stretches each)
        (sym (append_assoc old (piece ∷ []) behind) ∙ ap (λ (each : List Piece). each ++ behind) (sym more)) (so_far.rest (piece ∷ behind) there);
  }

  pub all_pieces : (i : ℕ) (all : List Piece) (piece : Piece) → drop i others ≡ [] → ArePiecesTo i all piece
      → ArePieces rrsets kinds stretches (all ++ piece ∷ [])
  all_pieces i all piece end so_far =
      so_far.rest (piece ∷ []) (subst (λ (left : List (Stretch Said)). GoOn rrsets kinds piece left (piece ∷ [])) (sym end) refl)
