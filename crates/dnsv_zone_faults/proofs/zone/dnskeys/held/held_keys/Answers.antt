use Rattle.std.proofs.Common.{List, map, take, sym, ◌+◌, ◌∙◌, subst}
use Rattle.std.proofs.lemmas.List.{take_all}
use Rattle.std.proofs.lemmas.List.Elements.{Contains-get_or}
use Rattle.std.specs.Prelude.{Contains}
use Rattle.dnsv_mending.specs.declared.facts.keys.HeldKey.{HeldKey}
use Rattle.dnsv_zone_faults.specs.Dnskeys.{AreHeldKeys}
use Rattle.dnsv_zone_faults.specs.Dnskeys.DnskeySearch.{basis_of_set, rdata_of}
use Rattle.dnsv_zone_keys.specs.Keys.Index.{Placed}
use Rattle.dnsv_zone_faults.proofs.lemmas.zones.DnskeyLemmas.{held_next}
use Rattle.dnsv_zone_faults.proofs.zone.dnskeys.held.held_keys.Goals as goal

pub held_key-requires-clause-among : goal.held_key-requires-clause-among
held_key-requires-clause-among c =
    let items = c.deref-placed-items.result.now in
    let placed = c.placed-item.result in
    let there = subst (λ (each : Placed). Contains items each) (sym c.placed-item.is) (Contains-get_or items c.loop-place.place placed c.loop-place-test.true) in
    subst (λ (each : List Placed). Contains each placed) c.deref-placed-items.ensures.value there

pub loop-place-preserved : goal.loop-place-preserved
loop-place-preserved c =
    let set = c.args.set.now in
    subst (λ (held : List HeldKey). AreHeldKeys (basis_of_set set) set.keyed.now.zone.now set.number set.rrset.now 1
    (map rdata_of (take (c.loop-place.place + 1) c.deref-placed-items.result.now)) held) (sym c.in_ok-push.ensures.items)
    (held_next (basis_of_set set) set.keyed.now.zone.now set.number set.rrset.now c.deref-placed-items.result.now c.loop-place.place c.placed-item.result
    c.loop-place.held.items c.in_ok-held_key.field-0 c.loop-place-test.true c.placed-item.is c.loop-place.invariant c.in_ok-held_key.ensures)

pub returns : goal.returns
returns c =
    let set = c.args.set.now in
    subst (λ (keys : List Placed). AreHeldKeys (basis_of_set set) set.keyed.now.zone.now set.number set.rrset.now 1 (map rdata_of keys) c.loop-place.held.items)
    (take_all c.loop-place.place c.deref-placed-items.result.now c.loop-place-test.false ∙ c.deref-placed-items.ensures.value) c.loop-place.invariant
