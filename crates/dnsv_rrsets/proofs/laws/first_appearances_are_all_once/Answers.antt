use Rattle.dnsv_rrsets.proofs.LawLemmas.{first_appearances_members, first_appearances_once}
use Rattle.dnsv_rrsets.proofs.laws.first_appearances_are_all_once.Goals as goal

pub returns-clause-members : goal.returns-clause-members
returns-clause-members c = first_appearances_members

pub returns-clause-once : goal.returns-clause-once
returns-clause-once c = first_appearances_once
