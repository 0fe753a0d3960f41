use Rattle.std.proofs.Common.{List, subst}
use Rattle.dnsv_anchors.specs.declared.anchor.Anchor.{Anchor}
use Rattle.std.proofs.lemmas.List.{take_all}
use Rattle.dnsv_zone_faults.specs.Groups.{AreAnchorFactsFrom}
use Rattle.dnsv_zone_faults.proofs.lemmas.GroupLemmas.{anchor_next}
use Rattle.dnsv_zone_faults.proofs.zone.groups.anchors.anchor_facts.Goals as goal

pub loop-place-preserved : goal.loop-place-preserved
loop-place-preserved c =
    anchor_next c.args.facts.now.rrsets c.args.zone.now c.args.keys.now c.requires c.anchors-anchor-items.result.now c.loop-place.place
    c.anchor-item.result c.loop-place.anchors.items c.add_anchor.new.anchors.items c.loop-place-test.true c.anchor-item.is c.loop-place.invariant
    c.in_ok-add_anchor.ensures

pub returns : goal.returns
returns c =
    let From : List Anchor → Type 0 = λ each. AreAnchorFactsFrom c.args.facts.now.rrsets c.args.zone.now 1 each c.loop-place.anchors.items in
    subst From c.anchors-anchor-items.ensures (subst From (take_all c.loop-place.place c.anchors-anchor-items.result.now c.loop-place-test.false) c.loop-place.invariant)
