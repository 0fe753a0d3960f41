use Rattle.std.specs.Prelude.{[], ◌∷◌, ◌++◌, codes, string_bytes, true}
use Rattle.dnsv_lines.proofs.JsonLemmas.{Parted}
use Rattle.dnsv_moments.specs.texts.Text.{by_json}
use Rattle.dnsv_moments.proofs.texts.json.interval.push_by.Given as goal

abbrev pub invariant-loop-number : goal.invariant-loop-number
invariant-loop-number l =
    Parted (λ number. by_json number ∷ []) l.by l.number-index true (string_bytes l.fn.text ++ codes ",\"by\":[") l.first (string_bytes l.text)
