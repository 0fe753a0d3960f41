use Rattle.dnsv_moment_laws.proofs.lemmas.WithinLemmas.{range_by_table, says_within, table_by_range}
use Rattle.dnsv_moment_laws.proofs.validity.a_table_for_a_range_serves_each_moment.Goals as goal

pub returns-clause-answer : goal.returns-clause-answer
returns-clause-answer c = λ meaning from to rrsets within is. says_within meaning from to rrsets within is

pub returns-clause-table : goal.returns-clause-table
returns-clause-table c = λ meaning from to rrsets within moment contents is begins ends. (
  table_by_range meaning from to rrsets within is moment begins ends contents,
  range_by_table meaning from to rrsets within is moment begins ends contents,
)
