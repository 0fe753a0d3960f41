use Rattle.dnsv_chain.specs.Trust.{SecuredIn}
use Rattle.dnsv_denial.proofs.meaning.CutMeaningLemmas.{shown_encloser}
use Rattle.dnsv_denial.proofs.unsigned_cuts.cut_meaning.a_shown_encloser_is_an_open_node_of_the_zone.Goals as goal

pub returns : goal.returns
returns c = λ trust rrsets name apex encloser parameters number zone. shown_encloser (SecuredIn trust) rrsets name apex number zone encloser parameters
