use Rattle.dnsv_moments.proofs.SayingLemmas.{own_within}
use Rattle.dnsv_moments.proofs.moments.Moments.of.Goals as goal

pub invariant_of-result : goal.invariant_of-result
invariant_of-result c =
    let by = c.requires in
    (c.from-first.ensures.range, (by.0, own_within by.0 c.args.range.from c.args.range.to by.1 c.args.table by.2))

pub returns-clause-by : goal.returns-clause-by
returns-clause-by c = λ meaning rrsets within. record { table = own_within meaning c.args.range.from c.args.range.to rrsets c.args.table within }
