use Rattle.dnsv_work.proofs.WorkLemmas.Known.{open_step}
use Rattle.dnsv_work.proofs.known.open_places.Goals as goal

pub loop-index-preserved : goal.loop-index-preserved
loop-index-preserved c =
    open_step c.args.said.now c.loop-index.index _ c.loop-index.numbers.items c.push_open.new.numbers.items c.loop-index-test.true c.loop-index.invariant
    c.in_ok-push_open.ensures
