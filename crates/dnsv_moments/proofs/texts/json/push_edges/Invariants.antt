use Rattle.std.specs.Prelude.{map, string_bytes, true}
use Rattle.dnsv_lines.proofs.JsonLemmas.{Parted}
use Rattle.dnsv_moments.specs.texts.Shown.{border_json}
use Rattle.dnsv_moments.proofs.texts.json.push_edges.Given as goal

abbrev pub invariant-loop-piece : goal.invariant-loop-piece
invariant-loop-piece l =
    Parted (λ piece. map border_json piece.borders) l.pieces l.piece-index true (string_bytes l.fn.text) l.first (string_bytes l.text)
