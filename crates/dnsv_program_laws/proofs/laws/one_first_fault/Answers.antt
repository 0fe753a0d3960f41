use Rattle.dnsv_program_laws.proofs.LawLemmas.OneFault.{one_first_fault}
use Rattle.dnsv_program_laws.proofs.laws.one_first_fault.Goals as goal

pub returns : goal.returns
returns c = one_first_fault c.layers.ensures
