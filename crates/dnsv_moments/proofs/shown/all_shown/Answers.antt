use Rattle.dnsv_verifier.proofs.AskLemmas.{some_more}
use Rattle.dnsv_moments.specs.Shown.{Shows}
use Rattle.dnsv_moments.proofs.shown.all_shown.Goals as goal

pub loop-line-preserved : goal.loop-line-preserved
loop-line-preserved c =
    some_more Shows c.args.lines.now c.loop-line.line-index c.line-item.result _ _ _
    c.loop-line-test.true c.line-item.is c.loop-line.invariant c.in_ok-push_shown.ensures
