use Rattle.std.specs.Prelude.{string_bytes}
use Rattle.std.specs.Option.{option_map}
use Rattle.dnsv_texts.specs.Why.{why_line}
use Rattle.dnsv_lines.proofs.JsonLemmas.{Joined}
use Rattle.dnsv_texts.proofs.explaining.push_lines.Given as goal

abbrev pub invariant-loop-line : goal.invariant-loop-line
invariant-loop-line l = Joined (why_line (option_map (λ numbers. numbers.now) l.numbers)) l.lines l.line-index (string_bytes l.fn.text) (string_bytes l.text)
