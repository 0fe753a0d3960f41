use Rattle.std.proofs.Common.{◌≡◌, drop, flat_map, map}
use Rattle.std.specs.Option.{option_map}
use Rattle.dnsv_mending.specs.Level.{seen_level}
use Rattle.dnsv_remedies.specs.Cuts.{parent_ways}
use Rattle.dnsv_remedies.specs.Remedy.{least_from, seen}
use Rattle.dnsv_remedies.proofs.cuts.offer_parents.Given as goal

-- those that are left, after what was offered
abbrev pub invariant-loop-parent : goal.invariant-loop-parent
invariant-loop-parent l = least_from (option_map seen l.best) (flat_map (parent_ways (map seen_level l.levels)) (drop l.parent-index l.parents))
    ≡ least_from (option_map seen l.fn.best) (flat_map (parent_ways (map seen_level l.levels)) l.parents)
