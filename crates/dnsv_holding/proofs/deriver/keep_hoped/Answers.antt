use Rattle.dnsv_holding.proofs.lemmas.marks.HopeLemmas.{the_hope}
use Rattle.dnsv_holding.proofs.lemmas.marks.HopedWayLemmas.{listed, ways_of_hope}
use Rattle.dnsv_holding.proofs.deriver.keep_hoped.Goals as goal

pub returns : goal.returns
returns c =
    let judged = c.args.judged.now in
    let case = c.args.case.now in
    ways_of_hope case c.in-Some.hope c.in-Pending.unknown judged.report.last c.args.rtype.0 _
    (the_hope case judged.report.last c.args.rtype.0 judged.report.verdict judged.hope c.in-Pending.unknown c.in-Pending.is c.requires.hope c.in-Some.hope c.in-Some.is)
    (listed case judged.report.last c.args.rtype.0 judged.report.verdict c.in-Pending.unknown c.in-Pending.is c.requires.verdict)
    c.in_ok-hoped.ensures.ways
