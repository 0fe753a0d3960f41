use Rattle.std.specs.Prelude.{string_bytes}
use Rattle.dnsv_lines.proofs.JsonLemmas.{Joined}
use Rattle.dnsv_moments.specs.texts.Shown.{border_line}
use Rattle.dnsv_moments.proofs.texts.lines.push_borders.Given as goal

abbrev pub invariant-loop-border : goal.invariant-loop-border
invariant-loop-border l = Joined border_line l.borders l.border-index (string_bytes l.fn.text) (string_bytes l.text)
