use Rattle.std.proofs.Common.{take}
use Rattle.std.specs.List.{AllByRecursion}
use Rattle.dnsv_canonical.specs.Evidence.{IsReadable}
use Rattle.dnsv_canonical.proofs.capture.readable.first_bad.Given as goal

-- the records so far can be read
abbrev pub invariant-loop-index : goal.invariant-loop-index
invariant-loop-index l =
    AllByRecursion IsReadable (take l.index l.records)
