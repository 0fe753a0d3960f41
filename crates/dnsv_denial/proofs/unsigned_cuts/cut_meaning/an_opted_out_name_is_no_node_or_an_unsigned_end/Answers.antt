use Rattle.dnsv_chain.specs.Trust.{SecuredIn}
use Rattle.dnsv_denial.proofs.meaning.CutMeaningLemmas.{opted_out_end}
use Rattle.dnsv_denial.proofs.unsigned_cuts.cut_meaning.an_opted_out_name_is_no_node_or_an_unsigned_end.Goals as goal

pub returns : goal.returns
returns c = λ trust rrsets apex covered chain number zone. opted_out_end (SecuredIn trust) rrsets apex number zone covered chain
