use Rattle.dnsv_gaps.proofs.AnswerLemmas.{first_in, none_in}
use Rattle.dnsv_gaps.proofs.speakers.cases.closed.first_of.Goals as goal

pub returns-then-is_empty : goal.returns-then-is_empty
returns-then-is_empty c = none_in c.args.places.now c.is_empty.result c.is_empty.ensures c.if-is_empty.true

pub returns : goal.returns
returns c = first_in c.args.places.now c.is_empty.result c.is_empty.ensures c.if-is_empty.false
