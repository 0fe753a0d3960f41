use Rattle.std.proofs.Common.{◌≡◌, drop, flat_map, map}
use Rattle.std.specs.Option.{option_map}
use Rattle.dnsv_mending.specs.Level.{seen_level}
use Rattle.dnsv_remedies.specs.Denials.{other_ways}
use Rattle.dnsv_remedies.specs.Remedy.{least_from, seen}
use Rattle.dnsv_remedies.proofs.denials.offer_others.Given as goal

-- those that are left, after what was offered
abbrev pub invariant-loop-speaker : goal.invariant-loop-speaker
invariant-loop-speaker l = least_from (option_map seen l.best) (flat_map (other_ways (map seen_level l.levels) l.labels) (drop l.speaker-index l.speakers))
    ≡ least_from (option_map seen l.fn.best) (flat_map (other_ways (map seen_level l.levels) l.labels) l.speakers)
