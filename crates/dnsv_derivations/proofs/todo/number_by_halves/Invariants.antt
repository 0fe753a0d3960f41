use Rattle.std.proofs.Common.{◌-◌}
use Rattle.dnsv_derivations.proofs.lemmas.RisingLemmas.{LiesBetween}
use Rattle.dnsv_derivations.proofs.todo.number_by_halves.Given as goal

-- what is before `low` is less, what is from `high` on is greater
abbrev pub invariant-loop-low : goal.invariant-loop-low
invariant-loop-low l = LiesBetween l.entries l.wanted l.low l.high

abbrev pub decreases-loop-low : goal.decreases-loop-low
decreases-loop-low l = l.high - l.low
