use Rattle.dnsv_moments.proofs.NumberLemmas.{decides}
use Rattle.dnsv_moments.proofs.said.are_same.Goals as goal

pub returns : goal.returns
returns c = decides c.args.one.now c.args.other.now c.eq.result c.eq.ensures
