use Rattle.std.proofs.Common.{◌≡◌, map, take}
use Rattle.dnsv_proof_forms.specs.records.Numbers.{number_at, numbers_of}
use Rattle.dnsv_gaps.proofs.sources.saying.numbers_at.Given as goal

-- those at the places so far
abbrev pub invariant-loop-place : goal.invariant-loop-place
invariant-loop-place l = l.numbers.items ≡ map (number_at (numbers_of l.records)) (take l.place-index l.places)
