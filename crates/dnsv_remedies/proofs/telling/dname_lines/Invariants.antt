use Rattle.std.proofs.Common.{◌≡◌, map, take}
use Rattle.dnsv_remedies.specs.Question.{dname_line}
use Rattle.dnsv_remedies.proofs.telling.dname_lines.Given as goal

-- those so far
abbrev pub invariant-loop-dname : goal.invariant-loop-dname
invariant-loop-dname l = l.lines.items ≡ map dname_line (take l.dname-index l.dnames)
