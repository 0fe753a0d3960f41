use Rattle.dnsv_moments.proofs.DateLemmas.{read_all, read_more, read_none}
use Rattle.dnsv_moments.proofs.dates.push_times.Goals as goal

pub loop-rrsig-init : goal.loop-rrsig-init
loop-rrsig-init c = read_none c.signatures-rrsig-items.result.now _

pub loop-rrsig-preserved : goal.loop-rrsig-preserved
loop-rrsig-preserved c =
    read_more c.signatures-rrsig-items.result.now c.loop-rrsig.rrsig-index c.rrsig-item.result _ _ _ c.loop-rrsig-test.true c.rrsig-item.is
    c.loop-rrsig.invariant c.in_ok-push.ensures.items

pub returns : goal.returns
returns c =
    read_all c.args.rrset.now c.signatures-rrsig-items.result.now c.signatures-rrsig-items.ensures c.loop-rrsig.rrsig-index _ _
    c.loop-rrsig-test.false c.loop-rrsig.invariant
