use Rattle.std.proofs.Common.{◌≡◌, map, take}
use Rattle.dnsv_compact.specs.CompactList.{key_of_entry}
use Rattle.dnsv_compact.proofs.key.all_keys.Given as goal

-- the keys of the entries so far
abbrev pub invariant-loop-place : goal.invariant-loop-place
invariant-loop-place l = l.keys.items ≡ map key_of_entry (take l.place l.entries)
