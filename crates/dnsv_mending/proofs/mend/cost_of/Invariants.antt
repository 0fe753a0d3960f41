use Rattle.std.proofs.Common.{◌≡◌, drop}
use Rattle.dnsv_mending.specs.Mend.{cost_from}
use Rattle.dnsv_mending.specs.Price.{none}
use Rattle.dnsv_mending.proofs.mend.cost_of.Given as goal

-- the lines that are left, on top of those before
abbrev pub invariant-loop-line : goal.invariant-loop-line
invariant-loop-line l = cost_from l.price (drop l.line-index l.lines) ≡ cost_from none l.lines
