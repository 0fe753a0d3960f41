use Rattle.std.proofs.Common.{◌≡◌, ◌*◌, ◌<◌, take, map}
use Rattle.std.specs.List.{AllByRecursion}
use Rattle.std.specs.Char.{to_ascii_lowercase}
use Rattle.dnsv_records.specs.Base32Hex.{Base32Hex}
use Rattle.arrayvec.specs.ArrayVec.{array_vec_len}
use Rattle.dnsv_records.proofs.base32hex.base32hex_read.Given as goal

-- the groups so far are read
abbrev pub invariant-loop-group : goal.invariant-loop-group
invariant-loop-group l =
    Base32Hex (take (8 * l.group) (map to_ascii_lowercase l.text)) l.octets.items
    × AllByRecursion (λ octet. octet < 256) l.octets.items
    × (array_vec_len l.octets ≡ 5 * l.group)
