use Rattle.std.proofs.Common.{◌≡◌, map, take}
use Rattle.dnsv_verifier.specs.Numbers.{part_of_key}
use Rattle.dnsv_verifier.proofs.ask.key_parts.Given as goal

-- the parts of the keys so far
abbrev pub invariant-loop-key : goal.invariant-loop-key
invariant-loop-key l = l.parts.items ≡ map part_of_key (take l.key-index l.keys)
