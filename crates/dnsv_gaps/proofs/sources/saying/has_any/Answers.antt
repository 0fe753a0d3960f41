use Rattle.dnsv_gaps.proofs.AnswerLemmas.{has_some}
use Rattle.dnsv_gaps.proofs.sources.saying.has_any.Goals as goal

pub returns : goal.returns
returns c = has_some c.args.places.now c.is_empty.result c.is_empty.ensures
