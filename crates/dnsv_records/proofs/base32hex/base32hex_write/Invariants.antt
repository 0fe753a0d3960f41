use Rattle.std.proofs.Common.{◌≡◌, ◌*◌, take}
use Rattle.dnsv_records.specs.Base32Hex.{Base32Hex}
use Rattle.arrayvec.specs.ArrayVec.{array_vec_len}
use Rattle.dnsv_records.proofs.base32hex.base32hex_write.Given as goal

-- the groups so far are written
abbrev pub invariant-loop-group : goal.invariant-loop-group
invariant-loop-group l = Base32Hex l.text.items (take (5 * l.group) l.octets) × (array_vec_len l.text ≡ 8 * l.group)
