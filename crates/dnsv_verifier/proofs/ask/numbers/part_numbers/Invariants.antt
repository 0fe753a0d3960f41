use Rattle.std.proofs.Common.{take}
use Rattle.std.specs.List.{AllZip}
use Rattle.dnsv_verifier.specs.Numbers.{IsPartNumber}
use Rattle.dnsv_verifier.proofs.ask.numbers.part_numbers.Given as goal

-- those of the signatures so far
abbrev pub invariant-loop-each : goal.invariant-loop-each
invariant-loop-each l = AllZip (IsPartNumber l.parts) (take l.each-index l.made) l.found.items
