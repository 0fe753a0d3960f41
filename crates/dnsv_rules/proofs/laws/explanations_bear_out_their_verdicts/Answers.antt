use Rattle.dnsv_rules.proofs.bears.BorneLemmas.{explanation_borne}
use Rattle.dnsv_rules.proofs.laws.explanations_bear_out_their_verdicts.Goals as goal

pub returns-clause-verdict : goal.returns-clause-verdict
returns-clause-verdict c = λ explained t name links last verdict lines of is.
    (explanation_borne explained t name links last lines verdict lines of is (λ each there. there)).0

pub returns-clause-links : goal.returns-clause-links
returns-clause-links c = λ explained t name links last verdict lines link of is there.
    (explanation_borne explained t name links last lines verdict lines of is (λ each there. there)).1 link there
