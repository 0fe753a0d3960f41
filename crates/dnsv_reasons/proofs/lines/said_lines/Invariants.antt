use Rattle.std.proofs.Common.{List, ◌++◌, drop}
use Rattle.dnsv_gaps.specs.Asking.{asking}
use Rattle.dnsv_lines.specs.declared.line.Line.{Line}
use Rattle.dnsv_reasons.specs.Lines.{AreSaidLines}
use Rattle.dnsv_reasons.proofs.lines.said_lines.Given as goal

-- behind the lines so far the rest makes the whole
abbrev pub invariant-loop-said : goal.invariant-loop-said
invariant-loop-said l = (rest : List Line) → AreSaidLines (asking l.question) (drop l.said-index l.told) rest
    → AreSaidLines (asking l.question) l.told (l.lines.items ++ rest)
