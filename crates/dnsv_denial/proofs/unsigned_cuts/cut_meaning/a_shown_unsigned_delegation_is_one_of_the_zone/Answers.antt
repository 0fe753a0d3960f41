use Rattle.dnsv_chain.specs.Trust.{SecuredIn}
use Rattle.dnsv_denial.proofs.meaning.CutMeaningLemmas.{shown_unsigned}
use Rattle.dnsv_denial.proofs.unsigned_cuts.cut_meaning.a_shown_unsigned_delegation_is_one_of_the_zone.Goals as goal

pub returns : goal.returns
returns c = λ trust rrsets name apex cut chain number zone. shown_unsigned (SecuredIn trust) rrsets name apex number zone cut chain
