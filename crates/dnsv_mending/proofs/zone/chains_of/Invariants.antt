use Rattle.std.proofs.Common.{◌≡◌, map, take}
use Rattle.std.specs.Option.{option_map}
use Rattle.dnsv_mending.specs.Level.{seen_level}
use Rattle.dnsv_mending.specs.Mend.{seen}
use Rattle.dnsv_mending.specs.Zone.{chain_of}
use Rattle.dnsv_mending.proofs.zone.chains_of.Given as goal

-- those so far
abbrev pub invariant-loop-each : goal.invariant-loop-each
invariant-loop-each l = map (option_map seen) l.chains.items ≡ map (chain_of (map seen_level l.levels)) (take l.each-index l.ds)
