use Rattle.dnsv_verdict.proofs.WayLemmas.RefusalLemmas.{one_stopped, refused_where_stopped, stopped_where_refused}
use Rattle.dnsv_verdict.proofs.laws.ways.a_question_stops_at_one_alias.Goals as goal

pub returns-clause-refusal : goal.returns-clause-refusal
returns-clause-refusal c = λ basis name t error. (
  λ refused. (
    refused.links,
    record { name = refused.last; rrset = refused.k; signature = refused.s },
    stopped_where_refused basis name t error refused,
  ),
  λ stopped. refused_where_stopped basis name t stopped.0 stopped.1 error stopped.2,
)

pub returns-clause-one : goal.returns-clause-one
returns-clause-one c = one_stopped
