use Rattle.std.specs.Prelude.{[], ◌∷◌, ◌++◌, codes, string_bytes, true}
use Rattle.std.specs.Option.{option_map}
use Rattle.dnsv_lines.proofs.JsonLemmas.{Parted}
use Rattle.dnsv_texts.specs.Why.{why_json}
use Rattle.dnsv_texts.proofs.json.explaining.push_lines.Given as goal

abbrev pub invariant-loop-line : goal.invariant-loop-line
invariant-loop-line l =
    Parted (λ line. why_json (option_map (λ numbers. numbers.now) l.numbers) line ∷ []) l.lines l.line-index true (string_bytes l.fn.text ++ codes "[") l.first (string_bytes l.text)
