use Rattle.std.proofs.Common.{◌≡◌, map, take}
use Rattle.dnsv_work.specs.Known.{open_numbers}
use Rattle.dnsv_work.proofs.known.open_places.Given as goal

-- the numbers of the open ones so far
abbrev pub invariant-loop-index : goal.invariant-loop-index
invariant-loop-index l = l.numbers.items ≡ open_numbers 1 (map (λ each. each.answer) (take l.index l.said))
