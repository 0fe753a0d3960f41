use Rattle.std.proofs.Common.{take}
use Rattle.std.specs.Prelude.{◌↔◌, IsTrue}
use Rattle.std.specs.List.{AllPass}
use Rattle.hex.specs.Hex.{is_hex_digit}
use Rattle.dnsv_anchors.proofs.hex_field.are_digits.Given as goal

-- what was seen of those so far
abbrev pub invariant-loop-octet : goal.invariant-loop-octet
invariant-loop-octet l = IsTrue l.all ↔ AllPass is_hex_digit (take l.octet-index l.octets)
