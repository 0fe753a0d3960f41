use Rattle.std.proofs.Common.{◌≡◌, map, take}
use Rattle.std.specs.List.{filter, zip}
use Rattle.dnsv_verifier.specs.Table.{is_unknown}
use Rattle.dnsv_verifier.proofs.table.unknown_numbers.Given as goal

-- the numbers of the Unknown entries so far
abbrev pub invariant-loop-place : goal.invariant-loop-place
invariant-loop-place l =
    l.unknown.items ≡ map (λ each. each.0) (filter (λ each. is_unknown each.1) (take l.place (zip l.numbers l.answers)))
