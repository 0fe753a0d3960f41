use Rattle.std.proofs.Common.{length, refl}
use Rattle.std.proofs.lemmas.Option.{slice_get_read}
use Rattle.dnsv_chain.specs.Trust.{SecuredIn}
use Rattle.dnsv_denial.specs.unsigned_cuts.ShownCuts.{IsCutIn, IsOptOutIn}
use Rattle.dnsv_denial.proofs.lemmas.unsigned_cuts.ShownLemmas.{none_shown, shown_with, shown_all, all_shown}
use Rattle.dnsv_denial.proofs.unsigned_cuts.shown_cuts.zones_cuts.Goals as goal

pub loop-zone-init : goal.loop-zone-init
loop-zone-init c = λ trust rrsets are sets.
    none_shown c.args.zones.now (λ zone. IsCutIn (SecuredIn trust) rrsets c.args.name.now zone.zone)
    (λ zone. IsOptOutIn (SecuredIn trust) rrsets c.args.name.now zone.zone)

pub loop-zone-preserved : goal.loop-zone-preserved
loop-zone-preserved c = λ trust rrsets are sets.
    let there = slice_get_read c.args.zones.now (length c.args.zones.now) c.loop-zone.zone-index c.zone-item.result refl c.loop-zone-test.true c.zone-item.is in
    shown_with c.args.zones.now (λ zone. IsCutIn (SecuredIn trust) rrsets c.args.name.now zone.zone)
    (λ zone. IsOptOutIn (SecuredIn trust) rrsets c.args.name.now zone.zone)
    c.loop-zone.zone-index c.zone-item.result c.loop-zone.found c.zone_cuts.result c.both-found.result there
    (c.loop-zone.invariant trust rrsets are sets)
    (c.zone_cuts.ensures trust rrsets (are.each c.loop-zone.zone-index c.zone-item.result there).1 sets) c.both-found.ensures

pub returns : goal.returns
returns c = λ trust rrsets are sets.
    all_shown (SecuredIn trust) rrsets c.args.name.now c.args.zones.now are c.loop-zone.found
    (shown_all c.args.zones.now (λ zone. IsCutIn (SecuredIn trust) rrsets c.args.name.now zone.zone)
    (λ zone. IsOptOutIn (SecuredIn trust) rrsets c.args.name.now zone.zone)
    c.loop-zone.zone-index c.loop-zone.found c.loop-zone-test.false (c.loop-zone.invariant trust rrsets are sets))
