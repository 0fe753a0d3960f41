use Rattle.std.proofs.Common.{◌≡◌, drop, flat_map, map}
use Rattle.std.specs.Option.{option_map}
use Rattle.dnsv_mending.specs.Level.{seen_level}
use Rattle.dnsv_mending.specs.Mend.{cheapest_from, seen}
use Rattle.dnsv_remedies.specs.Parts.{within_kept}
use Rattle.dnsv_remedies.proofs.parts.offer_each.Given as goal

-- those that are left, after what was offered
abbrev pub invariant-loop-rrset : goal.invariant-loop-rrset
invariant-loop-rrset l = cheapest_from (option_map seen l.best) (flat_map (within_kept (map seen_level l.levels) l.zone) (drop l.rrset-index l.rrsets))
    ≡ cheapest_from (option_map seen l.fn.best) (flat_map (within_kept (map seen_level l.levels) l.zone) l.rrsets)
