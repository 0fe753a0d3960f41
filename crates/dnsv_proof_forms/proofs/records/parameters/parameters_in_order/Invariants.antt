-- the parameters so far
use Rattle.std.proofs.Common.{◌≡◌, map, take}
use Rattle.dnsv_proof_forms.proofs.records.parameters.parameters_in_order.Given as goal

abbrev pub invariant-loop-parameters : goal.invariant-loop-parameters
invariant-loop-parameters l = map (λ each. each.parameters.now) l.ordered.items ≡ take l.parameters-index l.all
