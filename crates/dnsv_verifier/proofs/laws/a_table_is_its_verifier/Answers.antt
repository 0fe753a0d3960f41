use Rattle.dnsv_verifier.proofs.TableLemmas.{only_table, says_as_its_verifier, says_no_more}
use Rattle.dnsv_verifier.proofs.TimelyLemmas.{only_within}
use Rattle.dnsv_verifier.proofs.laws.a_table_is_its_verifier.Goals as goal

pub returns-clause-answer : goal.returns-clause-answer
returns-clause-answer c = λ meaning moment rrsets contents is. says_as_its_verifier meaning moment rrsets contents is

pub returns-clause-others : goal.returns-clause-others
returns-clause-others c = λ meaning moment rrsets contents is. says_no_more meaning moment rrsets contents is

pub returns-clause-one : goal.returns-clause-one
returns-clause-one c = λ meaning moment rrsets a b first second. only_table meaning moment rrsets a first b second

pub returns-clause-within : goal.returns-clause-within
returns-clause-within c = λ meaning from to rrsets a b first second. only_within meaning from to rrsets a b first second
