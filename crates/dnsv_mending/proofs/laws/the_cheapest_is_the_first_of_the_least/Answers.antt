use Rattle.dnsv_mending.proofs.Cheapest.{cheapest_first, cheapest_none}
use Rattle.dnsv_mending.proofs.laws.the_cheapest_is_the_first_of_the_least.Goals as goal

pub returns-clause-first : goal.returns-clause-first
returns-clause-first c = cheapest_first

pub returns-clause-none : goal.returns-clause-none
returns-clause-none c = cheapest_none
