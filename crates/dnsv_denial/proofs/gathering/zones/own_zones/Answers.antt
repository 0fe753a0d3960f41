use Rattle.std.proofs.Common.{arith, subst, sym}
use Rattle.dnsv_chain.specs.Trust.{SecuredIn}
use Rattle.dnsv_denial.specs.gathering.Gathered.{IsListing}
use Rattle.dnsv_denial.proofs.lemmas.gathering.GatherZoneLemmas.{no_zones, zone_more}
use Rattle.dnsv_denial.proofs.gathering.zones.own_zones.Goals as goal

pub secured_records-requires : goal.secured_records-requires
secured_records-requires c = subst (IsListing (SecuredIn c.args.trust.now) c.args.capture.now.rrsets c.suffix-zone.result) (sym c.numbers_of-listed.ensures) (c.in_ok-numbers.ensures c.suffix-zone.result)

pub loop-count-init : goal.loop-count-init
loop-count-init c = rw c.new-zones.ensures.items (no_zones (SecuredIn c.args.trust.now) c.args.capture.now.rrsets c.args.name.now)

pub loop-count-preserved : goal.loop-count-preserved
loop-count-preserved c = rw c.in_ok-push.ensures.items
    (zone_more (SecuredIn c.args.trust.now) c.args.capture.now.rrsets c.args.name.now c.loop-count.count c.loop-count.zones.items _
    c.suffix-zone.ensures.labels c.in_ok-records.ensures c.loop-count.invariant)

pub returns : goal.returns
returns c = let zones = c.loop-count.invariant in record {
  count = omega (arith, zones.count, c.loop-count-test.false, c.loop-count.auto.count-end, c.labels-count-end.ensures.count);
  each = zones.each;
}
