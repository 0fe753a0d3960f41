use Rattle.std.proofs.Common.{map, take, ◌≤◌}
use Rattle.arrayvec.specs.ArrayVec.{array_vec_len}
use Rattle.dnsv_proof_forms.specs.records.Numbers.{numbers_of, number_at}
use Rattle.dnsv_denial.proofs.lemmas.proving.NumberLemmas.{AreDistinctOf}
use Rattle.dnsv_denial.proofs.proving.numbers.record_numbers.Given as goal

abbrev pub invariant-loop-place : goal.invariant-loop-place
invariant-loop-place l =
    AreDistinctOf (map (number_at (numbers_of l.records)) (take l.place-index l.place-items)) l.numbers.items × (array_vec_len l.numbers ≤ l.place-index)
