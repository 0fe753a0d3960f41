use Rattle.std.specs.Prelude.{[], ◌∷◌, string_bytes, true}
use Rattle.dnsv_lines.proofs.JsonLemmas.{Parted}
use Rattle.dnsv_moments.specs.texts.Text.{interval_json}
use Rattle.dnsv_moments.proofs.texts.json.interval.push_intervals.Given as goal

abbrev pub invariant-loop-piece : goal.invariant-loop-piece
invariant-loop-piece l =
    Parted (λ piece. interval_json l.kinds piece ∷ []) l.pieces l.piece-index true (string_bytes l.fn.text) l.first (string_bytes l.text)
