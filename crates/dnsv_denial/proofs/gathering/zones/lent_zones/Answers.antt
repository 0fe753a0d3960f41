use Rattle.std.proofs.Common.{arith}
use Rattle.dnsv_chain.specs.Trust.{SecuredIn}
use Rattle.dnsv_denial.proofs.lemmas.gathering.GatherZoneLemmas.{no_zones, zone_more}
use Rattle.dnsv_denial.proofs.gathering.zones.lent_zones.Goals as goal

pub loop-labels-init : goal.loop-labels-init
loop-labels-init c = λ trust rrsets are. rw c.new-zones.ensures.items (no_zones (SecuredIn trust) rrsets c.args.name.now)

pub loop-labels-preserved : goal.loop-labels-preserved
loop-labels-preserved c = λ trust rrsets are. rw c.in_ok-push.ensures.items
    (zone_more (SecuredIn trust) rrsets c.args.name.now c.loop-labels.labels c.loop-labels.zones.items _
    c.suffix-zone.ensures.labels (c.of_zone-records.ensures trust rrsets are) (c.loop-labels.invariant trust rrsets are))

pub returns : goal.returns
returns c = λ trust rrsets are. let zones = c.loop-labels.invariant trust rrsets are in record {
  count = omega (arith, zones.count, c.loop-labels-test.false, c.loop-labels.auto.labels-end, c.labels-labels-end.ensures.count);
  each = zones.each;
}
