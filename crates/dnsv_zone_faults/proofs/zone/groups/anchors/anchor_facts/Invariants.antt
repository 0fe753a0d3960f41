use Rattle.std.proofs.Common.{take}
use Rattle.dnsv_zone_faults.specs.Groups.{AreAnchorFactsFrom}
use Rattle.dnsv_zone_faults.proofs.zone.groups.anchors.anchor_facts.Given as goal

-- those of the anchors so far
abbrev pub invariant-loop-place : goal.invariant-loop-place
invariant-loop-place l = AreAnchorFactsFrom l.facts.rrsets l.zone 1 (take l.place l.anchor-items) l.anchors.items
