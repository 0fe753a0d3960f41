use Rattle.std.proofs.Common.{List, ◌+◌, sym, subst}
use Rattle.dnsv_mending.specs.declared.facts.zone.ZoneKey.{ZoneKey}
use Rattle.dnsv_zone_faults.specs.Zones.HolderSearch.{AreHoldersOfEach, AreHoldings}
use Rattle.dnsv_zone_faults.specs.declared.zone.holders.Holding.{Holding}
use Rattle.dnsv_zone_faults.proofs.lemmas.zones.HolderLemmas.{more_of_each}
use Rattle.dnsv_zone_faults.proofs.zone.holders.zone_key_facts.Goals as goal

pub loop-place-preserved : goal.loop-place-preserved
loop-place-preserved c =
    let holdings = subst (λ (all : List Holding). AreHoldings c.args.dnskeys.now all) (sym c.deref.ensures.value) c.in_ok-holdings.ensures in
    subst (λ (keys : List ZoneKey). AreHoldersOfEach c.args.dnskeys.now (c.loop-place.place + 1) keys) (sym c.in_ok-push.ensures.items)
    (more_of_each c.args.dnskeys.now c.loop-place.place c.loop-place.keys.items _ c.loop-place.invariant (c.in_ok-zone_key.ensures c.args.dnskeys.now holdings))
