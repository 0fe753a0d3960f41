use Rattle.std.proofs.Common.{◌≡◌, drop, flat_map, map}
use Rattle.std.specs.Option.{option_map}
use Rattle.dnsv_mending.specs.Level.{seen_level}
use Rattle.dnsv_remedies.specs.Cuts.{cut_source_ways}
use Rattle.dnsv_remedies.specs.Remedy.{least_from, seen}
use Rattle.dnsv_remedies.proofs.cuts.offer_sources.Given as goal

-- those that are left, after what was offered
abbrev pub invariant-loop-source : goal.invariant-loop-source
invariant-loop-source l = least_from (option_map seen l.best) (flat_map (cut_source_ways (map seen_level l.levels) l.zone l.name) (drop l.source-index l.sources))
    ≡ least_from (option_map seen l.fn.best) (flat_map (cut_source_ways (map seen_level l.levels) l.zone l.name) l.sources)
