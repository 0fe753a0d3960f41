use Rattle.dnsv_verdict.proofs.SettledLemmas.PendingLemmas.{hopes_settle, nothing_to_hope, settled_is_conclusive}
use Rattle.dnsv_chain.specs.Basis.{with_meaning}
use Rattle.dnsv_verdict.proofs.laws.valid_answers_settle_what_depends_on_them.Goals as goal

pub returns-clause-settles : goal.returns-clause-settles
returns-clause-settles c = λ basis name t entries later pending valid others.
    hopes_settle c.trust_depends_on_what_is_asked.ensures.numbers basis name t entries later pending.1 pending.2 valid others

pub returns-clause-verdict : goal.returns-clause-verdict
returns-clause-verdict c = λ basis name t entries later pending valid others verdict is.
    settled_is_conclusive (with_meaning basis later) name t verdict
    (hopes_settle c.trust_depends_on_what_is_asked.ensures.numbers basis name t entries later pending.1 pending.2 valid others) is

pub returns-clause-some : goal.returns-clause-some
returns-clause-some c = λ basis name t pending.
    pending.0 (nothing_to_hope c.trust_depends_on_what_is_asked.ensures.numbers basis name t pending.2 pending.1)
