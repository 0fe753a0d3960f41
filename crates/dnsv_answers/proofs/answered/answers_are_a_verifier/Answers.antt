use Rattle.dnsv_answers.proofs.AnsweredLaws.{answered_count, answered_count_within, answered_is_table, answered_within, one_answered_table, one_answered_within}
use Rattle.dnsv_answers.proofs.answered.answers_are_a_verifier.Goals as goal

pub returns-clause-verifier : goal.returns-clause-verifier
returns-clause-verifier c = λ moment rrsets said table is. answered_is_table moment rrsets said table is

pub returns-clause-one : goal.returns-clause-one
returns-clause-one c = λ moment rrsets said a b first second. one_answered_table moment rrsets said a first b second

pub returns-clause-count : goal.returns-clause-count
returns-clause-count c = λ moment rrsets said table count is asked. answered_count moment rrsets said table is count asked

pub returns-clause-verifier_within : goal.returns-clause-verifier_within
returns-clause-verifier_within c = λ from to rrsets said table is. answered_within from to rrsets said table is

pub returns-clause-one_within : goal.returns-clause-one_within
returns-clause-one_within c = λ from to rrsets said a b first second. one_answered_within from to rrsets said a first b second

pub returns-clause-count_within : goal.returns-clause-count_within
returns-clause-count_within c = λ from to rrsets said table count is asked. answered_count_within from to rrsets said table is count asked
