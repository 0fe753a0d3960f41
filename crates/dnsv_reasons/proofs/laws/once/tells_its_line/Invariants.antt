use Rattle.std.specs.Prelude.{take}
use Rattle.std.specs.List.{AllByRecursion}
use Rattle.dnsv_reasons.specs.laws.Once.{TellsItsLine}
use Rattle.dnsv_reasons.proofs.laws.once.tells_its_line.Given as goal

abbrev pub invariant-loop-other : goal.invariant-loop-other
invariant-loop-other l = AllByRecursion (TellsItsLine l.line) (take l.other-index l.lines)
