use Rattle.dnsv_remedies.proofs.Once.{each_told, nowhere_twice, only_told}
use Rattle.dnsv_remedies.proofs.laws.each_line_is_told_once.Goals as goal

pub returns-clause-once : goal.returns-clause-once
returns-clause-once c = nowhere_twice

pub returns-clause-each : goal.returns-clause-each
returns-clause-each c = each_told

pub returns-clause-only : goal.returns-clause-only
returns-clause-only c = only_told
