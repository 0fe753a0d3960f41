use Rattle.std.proofs.Common.{◌≡◌, map, take}
use Rattle.dnsv_remedies.specs.Sources.{held_line}
use Rattle.dnsv_remedies.proofs.sources.held_lines.Given as goal

-- those so far
abbrev pub invariant-loop-why : goal.invariant-loop-why
invariant-loop-why l = l.lines.items ≡ map (held_line l.source l.name) (take l.why-index l.held)
