-- the way so far
use Rattle.std.proofs.Common.{◌-◌, length, map}
use Rattle.dnsv_verdict.proofs.WayLemmas.FollowLemmas.{IsFollowed}
use Rattle.dnsv_verdict.proofs.TrailLemmas.{IsTrailOf}
use Rattle.dnsv_verdict.specs.Shared.{IsSharedOf}
use Rattle.dnsv_verdict.proofs.way.follow.Given as goal

abbrev pub invariant-links : goal.invariant-links
invariant-links l =
    IsFollowed l.case.rrsets l.case.anchors l.case.table l.rtype.0 l.name l.initial.hashed l.hashed
    l.way.links l.way.last
    × IsTrailOf l.case.rrsets (map (λ link. link.name) l.way.links) l.initial.trail l.trail
    × IsSharedOf l.case l.shared

-- each turn adds a link
abbrev pub decreases-links : goal.decreases-links
decreases-links l = 8 - length l.way.links
