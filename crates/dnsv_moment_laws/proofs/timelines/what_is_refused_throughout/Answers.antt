use Rattle.dnsv_moments.proofs.QuestionLemmas.{all_told, one_refused, said_told}
use Rattle.dnsv_moment_laws.proofs.lemmas.VerifierLemmas.{refused_for_other}
use Rattle.dnsv_moment_laws.proofs.timelines.what_is_refused_throughout.Goals as goal

pub returns-clause-one : goal.returns-clause-one
returns-clause-one c = one_refused c.a_question_leads_one_way.ensures.refusal

pub returns-clause-told : goal.returns-clause-told
returns-clause-told c = λ format basis from to name t error stretches turned question timeline. (
  all_told c.a_question_leads_one_way.ensures.refusal c.a_question_leads_one_way.ensures.not_both basis from to name t turned question
      format stretches timeline error,
  said_told c.a_question_leads_one_way.ensures.refusal c.a_question_leads_one_way.ensures.not_both basis from to name t turned question
      format stretches timeline error,
)

pub returns-clause-whoever : goal.returns-clause-whoever
returns-clause-whoever c = λ meaning other moments name t error by its.
    refused_for_other c.a_table_for_a_range_serves_each_moment.ensures.answer meaning other moments by its
    c.what_is_said_depends_on_what_is_asked.ensures.refused name t error
