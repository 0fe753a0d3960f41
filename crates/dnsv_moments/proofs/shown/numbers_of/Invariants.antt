use Rattle.std.proofs.Common.{◌≡◌, map, take}
use Rattle.dnsv_moments.specs.Shown.{number_of}
use Rattle.dnsv_moments.proofs.shown.numbers_of.Given as goal

-- those so far
abbrev pub invariant-loop-each : goal.invariant-loop-each
invariant-loop-each l = l.numbers.items ≡ map number_of (take l.each-index l.shown)
