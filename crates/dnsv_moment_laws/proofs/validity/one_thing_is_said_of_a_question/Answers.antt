use Rattle.dnsv_moment_laws.proofs.lemmas.OneSaidLemmas.{one_of_said, one_said}
use Rattle.dnsv_moment_laws.proofs.validity.one_thing_is_said_of_a_question.Goals as goal

pub returns-clause-said : goal.returns-clause-said
returns-clause-said c = λ format basis name t said other.
    one_said format basis name t said other c.a_question_leads_one_way.ensures.verdict c.a_question_leads_one_way.ensures.not_both
    c.a_question_stops_at_one_alias.ensures.one

pub returns-clause-timeline : goal.returns-clause-timeline
returns-clause-timeline c =
    one_of_said c.a_question_leads_one_way.ensures.verdict c.a_question_leads_one_way.ensures.not_both c.a_question_stops_at_one_alias.ensures.one
