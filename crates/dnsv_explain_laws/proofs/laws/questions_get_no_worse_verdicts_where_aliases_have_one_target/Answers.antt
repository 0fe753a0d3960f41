use Rattle.dnsv_explain_laws.proofs.lemmas.stands.WayLemmas.{no_worse, not_refused}
use Rattle.dnsv_explain_laws.proofs.lemmas.stands.WholeLemmas.{last_no_worse, links_no_worse, settled_holding}
use Rattle.dnsv_verifier.specs.Table.{table_answer}
use Rattle.dnsv_explain_laws.proofs.laws.questions_get_no_worse_verdicts_where_aliases_have_one_target.Goals as goal

pub returns-clause-verdict : goal.returns-clause-verdict
returns-clause-verdict c = λ explained t name links last verdict lines moment better its_links its_last other of settled is valid answers targets its.
    let keeps = c.more_evidence_takes_no_trust_away.ensures.numbers in
    let holds = settled_holding explained t links last verdict lines settled is in
    no_worse explained.rrsets explained.anchors explained.anchors explained.table.moment moment (table_answer explained.table) better t
    name links last verdict its_links its_last other of targets its
    (last_no_worse keeps explained t links last verdict lines moment better settled holds valid answers other of.is_verdict)
    (λ link. links_no_worse keeps explained t links last verdict lines moment better settled holds valid answers name link other of.way.leads)

pub returns-clause-refused : goal.returns-clause-refused
returns-clause-refused c = λ explained t name links last verdict moment better error of targets.
    not_refused explained.rrsets explained.anchors explained.anchors explained.table.moment moment (table_answer explained.table) better t
    name links last error of.way targets
