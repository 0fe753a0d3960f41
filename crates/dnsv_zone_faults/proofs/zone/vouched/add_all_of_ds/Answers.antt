use Rattle.dnsv_verifier.proofs.AskLemmas.{some_all, some_more, some_none}
use Rattle.dnsv_zone_faults.specs.Groups.GroupSearch.{IsMatchedByDs}
use Rattle.dnsv_zone_faults.proofs.zone.vouched.add_all_of_ds.Goals as goal

pub loop-each-init : goal.loop-each-init
loop-each-init c = some_none IsMatchedByDs c.args.ds.now _

pub loop-each-preserved : goal.loop-each-preserved
loop-each-preserved c =
    some_more IsMatchedByDs c.args.ds.now c.loop-each.each-index c.each-item.result _ _ _ c.loop-each-test.true c.each-item.is c.loop-each.invariant
    c.in_ok-add_of_ds.ensures

pub returns : goal.returns
returns c = some_all IsMatchedByDs c.args.ds.now c.loop-each.each-index _ _ c.loop-each-test.false c.loop-each.invariant
