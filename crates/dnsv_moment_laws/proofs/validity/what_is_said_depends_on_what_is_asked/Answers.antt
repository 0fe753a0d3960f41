use Rattle.dnsv_moment_laws.proofs.lemmas.AlikeLemmas.{alike_by, said_alike}
use Rattle.dnsv_verdict.proofs.AlikeLemmas.{refusal_to}
use Rattle.dnsv_moment_laws.proofs.validity.what_is_said_depends_on_what_is_asked.Goals as goal

pub returns-clause-said : goal.returns-clause-said
returns-clause-said c = λ format basis other name t said alike.
    said_alike c.trust_depends_on_what_is_asked.ensures.numbers basis other alike format name t said

pub returns-clause-refused : goal.returns-clause-refused
returns-clause-refused c = λ basis other name t error alike.
    refusal_to basis basis.moment other (alike_by c.trust_depends_on_what_is_asked.ensures.numbers basis other alike) name t error
