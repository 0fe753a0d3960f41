use Rattle.dnsv_moments.specs.Moments.{basis_with}
use Rattle.dnsv_moment_laws.proofs.lemmas.VerifierLemmas.{timeline_of_other}
use Rattle.dnsv_moment_laws.proofs.timelines.a_question_has_one_timeline.Goals as goal

pub returns-clause-one : goal.returns-clause-one
returns-clause-one c = λ meaning moments format name t stretches others.
    c.one_thing_is_said_of_a_question.ensures.timeline format (basis_with meaning moments) name t moments.from moments.to stretches others

pub returns-clause-whoever : goal.returns-clause-whoever
returns-clause-whoever c = λ meaning other moments format name t stretches by its.
    timeline_of_other c.a_table_for_a_range_serves_each_moment.ensures.answer meaning other moments by its
    c.what_is_said_depends_on_what_is_asked.ensures.said format name t stretches
