use Rattle.std.proofs.Common.{◌≡◌, ◌++◌, ◌∙◌, List, ap, map, string_bytes, sym}
use Rattle.std.proofs.lemmas.List.{get_or_read}
use Rattle.dnsv_lines.specs.Json.{parted, still_first}
use Rattle.dnsv_lines.proofs.JsonLemmas.{Parted-next}
use Rattle.dnsv_moments.specs.texts.Pieces.{Piece}
use Rattle.dnsv_moments.specs.texts.Shown.{border_json}
use Rattle.dnsv_moments.specs.declared.texts.shown.ShownBorder.{ShownBorder}
use Rattle.dnsv_moments.proofs.texts.json.push_edges.Goals as goal

pub loop-piece-preserved : goal.loop-piece-preserved
loop-piece-preserved c =
    let borders : c.deref.result.now ≡ c.piece-item.result.borders = c.deref.ensures.value ∙ ap (λ (piece : Piece). piece.borders) c.piece.view_is in
    Parted-next c.loop-piece.invariant c.piece-item.result c.push_borders.new.first (string_bytes c.push_borders.new.text) c.loop-piece-test.true
    (λ d. sym (get_or_read c.args.pieces.now c.loop-piece.piece-index c.piece-item.result c.loop-piece-test.true c.piece-item.is d))
    (c.in_ok-push_borders.ensures.text
    ∙ ap (λ (each : List ShownBorder). string_bytes c.loop-piece.text ++ parted c.loop-piece.first (map border_json each)) borders)
    (c.in_ok-push_borders.ensures.first ∙ ap (λ (each : List ShownBorder). still_first c.loop-piece.first (map border_json each)) borders)
