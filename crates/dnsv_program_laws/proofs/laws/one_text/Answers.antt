use Rattle.dnsv_program_laws.proofs.LawLemmas.OneRequest.{one_text}
use Rattle.dnsv_program_laws.proofs.laws.one_text.Goals as goal

pub returns : goal.returns
returns c = one_text c.layers.ensures
