use Rattle.std.proofs.Common.{◌≡◌, drop, flat_map}
use Rattle.std.specs.Option.{option_map}
use Rattle.dnsv_mending.specs.Level.{seen_level}
use Rattle.dnsv_mending.specs.Mend.{cheapest_from, seen}
use Rattle.dnsv_mending.specs.Rrset.{held_ways}
use Rattle.dnsv_mending.proofs.signature.offer_held.Given as goal

-- those that are left, after what was offered
abbrev pub invariant-loop-key : goal.invariant-loop-key
invariant-loop-key l = cheapest_from (option_map seen l.best) (flat_map (held_ways (seen_level l.level) l.signature) (drop l.key-index l.keys))
    ≡ cheapest_from (option_map seen l.fn.best) (flat_map (held_ways (seen_level l.level) l.signature) l.keys)
