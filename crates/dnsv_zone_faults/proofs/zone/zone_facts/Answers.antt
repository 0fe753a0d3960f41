use Rattle.std.proofs.Common.{◌↔◌, ℕ, Bool, false, List, IsTrue, get_or, length, sym, ap, ◌+◌, subst, arith}
use Rattle.dnsv_names.specs.Name.{Labels, rightmost}
use Rattle.dnsv_mending.specs.declared.facts.zone.ZoneFacts.{ZoneFacts}
use Rattle.dnsv_chain.specs.Basis.{basis_by}
use Rattle.dnsv_faults.specs.KnownZones.{IsKnownZone}
use Rattle.dnsv_zone_faults.specs.Zones.{AreFactsOfZone}
use Rattle.dnsv_zone_faults.proofs.lemmas.zones.ZoneLemmas.{AreZonesTo, all_zones, more_zones, no_zones}
use Rattle.dnsv_zone_faults.proofs.zone.zone_facts.Goals as goal

pub loop-labels-init : goal.loop-labels-init
loop-labels-init c = no_zones (basis_by c.args.facts.now) c.args.name.now c.args.rtype.0 c.in_ok-zones.zones.items c.in_ok-zones.ensures.items

pub suffix-requires : goal.suffix-requires
suffix-requires c =
    let within = c.loop-labels-test.true in
    let count = c.in_ok-known.ensures.count in
    let same = ap (λ (each : List Bool). length each) c.deref-is_known-items.ensures.value in
    omega (arith, within, count, same)

pub loop-labels-preserved : goal.loop-labels-preserved
loop-labels-preserved c =
    let basis = basis_by c.args.facts.now in
    let name = c.args.name.now in
    let i : ℕ = c.loop-labels.labels in
    let within = c.loop-labels-test.true in
    let count = c.in_ok-known.ensures.count in
    let same = ap (λ (each : List Bool). length each) c.deref-is_known-items.ensures.value in
    let told = c.in_ok-known.ensures.each i (omega (arith, within, count, same)) in
    let Told : List Bool → Type 0 = λ known. IsTrue (get_or known i false) ↔ IsKnownZone basis name c.args.rtype.0 (rightmost name i) in
    let here = subst Told (sym c.deref-is_known-items.ensures.value) told in
    let Known : Labels → Type 0 = λ zone. IsTrue (get_or c.deref-is_known-items.result.now i false) ↔ IsKnownZone basis name c.args.rtype.0 zone in
    let found = c.in_ok-facts_of_zone.ensures name c.args.rtype.0 (subst Known (sym c.suffix.ensures.labels) here) in
    subst (λ (zones : List ZoneFacts). AreZonesTo basis name c.args.rtype.0 (i + 1) zones) (sym c.in_ok-push.ensures.items)
    (more_zones basis name c.args.rtype.0 i c.loop-labels.zones.items c.in_ok-facts_of_zone.field-0 c.loop-labels.invariant
    (subst (λ (zone : Labels). AreFactsOfZone basis name c.args.rtype.0 zone c.in_ok-facts_of_zone.field-0) c.suffix.ensures.labels found))

pub returns : goal.returns
returns c =
    let past = c.loop-labels-test.false in
    let count = c.in_ok-known.ensures.count in
    let same = ap (λ (each : List Bool). length each) c.deref-is_known-items.ensures.value in
    let end = c.loop-labels.auto.labels-end in
    all_zones (basis_by c.args.facts.now) c.args.name.now c.args.rtype.0 c.loop-labels.labels c.loop-labels.zones.items (omega (arith, past, count, same, end)) c.loop-labels.invariant
