use Rattle.std.proofs.Common.{◌≡◌, map, take}
use Rattle.dnsv_remedies.specs.Remedy.{unusable_line}
use Rattle.dnsv_remedies.proofs.remedy.unusable_lines.Given as goal

-- those so far
abbrev pub invariant-loop-record : goal.invariant-loop-record
invariant-loop-record l = l.lines.items ≡ map unusable_line (take l.record-index l.unusable)
