use Rattle.std.proofs.Common.{◌≡◌, ◌*◌, ◌++◌, length, take, drop}
use Rattle.hex.specs.Hex.{encode_lower}
use Rattle.dnsv_evidence_texts.proofs.hex_text.write_digits.Given as goal

-- the digits of the octets so far are written
abbrev pub invariant-loop-place : goal.invariant-loop-place
invariant-loop-place l =
    (length l.digits ≡ 2 * length l.octets)
    × (take (2 * l.place) l.digits ++ encode_lower (drop l.place l.octets) ≡ encode_lower l.octets)
