use Rattle.std.specs.Prelude.{take}
use Rattle.std.specs.List.{AllByRecursion}
use Rattle.dnsv_reasons.specs.laws.Once.{TellsItsLine}
use Rattle.dnsv_reasons.proofs.laws.once.no_text_of_what_fails_stands_twice.Given as goal

abbrev pub invariant-loop-line : goal.invariant-loop-line
invariant-loop-line l = AllByRecursion (λ line. AllByRecursion (TellsItsLine line) l.lines) (take l.line-index l.lines)
