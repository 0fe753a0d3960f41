-- The order of the parameters of NSEC3 records.
use Rattle.std.proofs.lemmas.Cmp.{nat_cmp_total, nat_list_cmp_total, on_total, then_total}
use Rattle.std.specs.Cmp.{IsTotalOrder}
use Rattle.dnsv_zones.specs.chains.Nsec3Chain.{Parameters}
use Rattle.dnsv_proof_forms.specs.records.ParametersOrder.{parameters_cmp}

pub parameters_total : IsTotalOrder parameters_cmp
parameters_total = then_total (on_total (λ (p : Parameters). p.iterations) nat_cmp_total) (on_total (λ (p : Parameters). p.salt) nat_list_cmp_total)
