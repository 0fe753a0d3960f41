use Rattle.dnsv_derivations.specs.intervals.Holding.{ShowsTimes}
use Rattle.dnsv_verifier.proofs.AskLemmas.{some_more}
use Rattle.dnsv_derivations.proofs.shown.times_shown.Goals as goal

pub loop-line-preserved : goal.loop-line-preserved
loop-line-preserved c =
    some_more (ShowsTimes c.args.rrsets.now) c.args.lines.now c.loop-line.line-index c.line-item.result _ _ _
    c.loop-line-test.true c.line-item.is c.loop-line.invariant c.in_ok-push_shown.ensures
