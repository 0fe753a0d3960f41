use Rattle.std.proofs.Common.{◌≡◌, map, take}
use Rattle.std.specs.Option.{option_map}
use Rattle.dnsv_mending.specs.Level.{seen_key}
use Rattle.dnsv_mending.specs.Mend.{seen}
use Rattle.dnsv_mending.specs.Zone.{held}
use Rattle.dnsv_mending.proofs.levels.held_keys.Given as goal

-- those so far
abbrev pub invariant-loop-key : goal.invariant-loop-key
invariant-loop-key l = map seen_key l.kept.items ≡ map (held (map (option_map seen) l.sets)) (take l.key-index l.keys)
