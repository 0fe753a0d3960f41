use Rattle.dnsv_mending.proofs.Cheapest.{none_first, none_second}
use Rattle.dnsv_mending.proofs.laws.a_sum_is_nothing_where_both_are.Goals as goal

pub returns-clause-first : goal.returns-clause-first
returns-clause-first c = none_first

pub returns-clause-second : goal.returns-clause-second
returns-clause-second c = none_second
