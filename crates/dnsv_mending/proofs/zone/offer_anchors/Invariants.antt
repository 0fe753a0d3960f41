use Rattle.std.proofs.Common.{◌≡◌, drop, flat_map}
use Rattle.std.specs.Option.{option_map}
use Rattle.dnsv_mending.specs.Mend.{cheapest_from, seen}
use Rattle.dnsv_mending.specs.Zone.{anchor_ways}
use Rattle.dnsv_mending.proofs.zone.offer_anchors.Given as goal

-- those that are left, after what was offered
abbrev pub invariant-loop-anchor : goal.invariant-loop-anchor
invariant-loop-anchor l = cheapest_from (option_map seen l.best) (flat_map (anchor_ways) (drop l._anchor-index l.anchors))
    ≡ cheapest_from (option_map seen l.fn.best) (flat_map (anchor_ways) l.anchors)
