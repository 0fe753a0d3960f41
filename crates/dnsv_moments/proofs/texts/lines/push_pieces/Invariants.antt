use Rattle.std.specs.Prelude.{string_bytes}
use Rattle.dnsv_lines.proofs.JsonLemmas.{Joined}
use Rattle.dnsv_moments.specs.texts.Text.{piece_lines}
use Rattle.dnsv_moments.proofs.texts.lines.push_pieces.Given as goal

abbrev pub invariant-loop-piece : goal.invariant-loop-piece
invariant-loop-piece l = Joined (piece_lines l.kinds) l.pieces l.piece-index (string_bytes l.fn.text) (string_bytes l.text)
