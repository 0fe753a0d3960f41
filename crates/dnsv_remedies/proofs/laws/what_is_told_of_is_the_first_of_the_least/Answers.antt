use Rattle.dnsv_remedies.specs.Question.{question_ways}
use Rattle.dnsv_remedies.proofs.Least.{least_first, least_none}
use Rattle.dnsv_remedies.proofs.laws.what_is_told_of_is_the_first_of_the_least.Goals as goal

pub returns-clause-first : goal.returns-clause-first
returns-clause-first c = λ levels q m h. least_first (question_ways levels q) m h

pub returns-clause-none : goal.returns-clause-none
returns-clause-none c = λ levels q h. least_none (question_ways levels q) h
