use Rattle.dnsv_holding.proofs.lemmas.telling.SecureLemmas.{word_or_not}
use Rattle.dnsv_holding.proofs.verdict.is_settled.Goals as goal

pub returns : goal.returns
returns c = word_or_not c.args.verdict.now c.kind_of.result c.is_some.result c.kind_of.ensures c.is_some.ensures
