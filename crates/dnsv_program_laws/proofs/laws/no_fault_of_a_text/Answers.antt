use Rattle.dnsv_program_laws.proofs.LawLemmas.OneFault.{text_stands}
use Rattle.dnsv_program_laws.proofs.laws.no_fault_of_a_text.Goals as goal

pub returns : goal.returns
returns c = text_stands c.layers.ensures
