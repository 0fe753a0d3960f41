use Rattle.dnsv_statements.proofs.StatementsLemmas.{statements_or_fault}
use Rattle.dnsv_statements.specs.StatementsLaws.{AreStatementsOf-only, AreStatementsOf-no_fault, IsFaultOf-only}
use Rattle.dnsv_statements.proofs.statements.a_text_is_one_list_of_statements.Goals as goal

pub returns-clause-statements : goal.returns-clause-statements
returns-clause-statements c = AreStatementsOf-only

pub returns-clause-fault : goal.returns-clause-fault
returns-clause-fault c = IsFaultOf-only

pub returns-clause-apart : goal.returns-clause-apart
returns-clause-apart c = AreStatementsOf-no_fault

pub returns-clause-either : goal.returns-clause-either
returns-clause-either c = statements_or_fault
