use Rattle.std.specs.Prelude.{[], ◌∷◌, string_bytes}
use Rattle.dnsv_lines.proofs.JsonLemmas.{Parted}
use Rattle.dnsv_moments.specs.texts.Shown.{border_json}
use Rattle.dnsv_moments.proofs.texts.json.push_borders.Given as goal

abbrev pub invariant-loop-border : goal.invariant-loop-border
invariant-loop-border l =
    Parted (λ border. border_json border ∷ []) l.borders l.border-index l.fn.first (string_bytes l.fn.text) l.first (string_bytes l.text)
