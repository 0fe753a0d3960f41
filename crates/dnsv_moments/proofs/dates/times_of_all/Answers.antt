use Rattle.std.proofs.Common.{List, subst}
use Rattle.dnsv_canonical.specs.Rrsets.{ReceivedRrset}
use Rattle.dnsv_moments.specs.Dates.{AreTimesOf}
use Rattle.dnsv_moments.proofs.DateLemmas.{dates_all, dates_more, dates_none}
use Rattle.dnsv_moments.proofs.dates.times_of_all.Goals as goal

pub loop-rrset-init : goal.loop-rrset-init
loop-rrset-init c = dates_none c.rrsets-rrset-items.result.now _ c.new-all.ensures.items

pub loop-rrset-preserved : goal.loop-rrset-preserved
loop-rrset-preserved c =
    dates_more c.rrsets-rrset-items.result.now c.loop-rrset.rrset-index c.rrset-item.result _ _ c.loop-rrset-test.true c.rrset-item.is
    c.loop-rrset.invariant c.in_ok-push_times.ensures

pub returns : goal.returns
returns c =
    subst (λ (each : List ReceivedRrset). AreTimesOf each c.loop-rrset.all.items) c.rrsets-rrset-items.ensures.value
    (dates_all c.rrsets-rrset-items.result.now c.loop-rrset.rrset-index _ c.loop-rrset-test.false c.loop-rrset.invariant)
