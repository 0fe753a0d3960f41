use Rattle.dnsv_explain_laws.proofs.lemmas.stands.WholeLemmas.{last_no_worse, links_no_worse, settled_holding}
use Rattle.dnsv_explain_laws.proofs.laws.verdicts_are_no_worse_as_long_as_explanations_hold.Goals as goal

pub returns-clause-last : goal.returns-clause-last
returns-clause-last c = λ explained t name links last verdict lines moment better other of settled is valid answers later.
    last_no_worse c.more_evidence_takes_no_trust_away.ensures.numbers explained t links last verdict lines moment better settled
    (settled_holding explained t links last verdict lines settled is) valid answers other of.is_verdict later

pub returns-clause-links : goal.returns-clause-links
returns-clause-links c = λ explained t name links last verdict lines moment better link other of settled is valid answers there later.
    links_no_worse c.more_evidence_takes_no_trust_away.ensures.numbers explained t links last verdict lines moment better settled
    (settled_holding explained t links last verdict lines settled is) valid answers name link other of.way.leads there later
