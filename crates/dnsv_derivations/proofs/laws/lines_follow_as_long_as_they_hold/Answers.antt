use Rattle.std.proofs.Common.{[]}
use Rattle.dnsv_derivations.proofs.lemmas.intervals.MomentLemmas.{follow_at}
use Rattle.dnsv_derivations.proofs.laws.lines_follow_as_long_as_they_hold.Goals as goal

pub returns : goal.returns
returns c = λ setting lines interval moment follows holding from to.
    follow_at setting moment [] lines (holding.holds moment from to) follows
