use Rattle.std.proofs.Common.{◌≡◌, ◌*◌, take, drop}
use Rattle.hex.proofs.Pairs.{prepend}
use Rattle.hex.specs.Hex.{decode_pairs}
use Rattle.dnsv_anchors.proofs.hex_field.decode.Given as goal

-- the octets so far, and what the other digits decode to behind them, are the whole
abbrev pub invariant-loop-place : goal.invariant-loop-place
invariant-loop-place l =
    decode_pairs 0 l.digits ≡ prepend (take l.place l.octets) (decode_pairs (2 * l.place) (drop (2 * l.place) l.digits))
