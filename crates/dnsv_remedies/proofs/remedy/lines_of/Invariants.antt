use Rattle.std.proofs.Common.{◌≡◌, map, take}
use Rattle.dnsv_remedies.specs.declared.said.Said.TheVariants as said
use Rattle.dnsv_remedies.proofs.remedy.lines_of.Given as goal

-- those so far
abbrev pub invariant-loop-line : goal.invariant-loop-line
invariant-loop-line l = l.lines.items ≡ map said.Trust (take l.line-index l.told)
