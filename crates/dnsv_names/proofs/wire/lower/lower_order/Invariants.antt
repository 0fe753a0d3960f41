use Rattle.std.proofs.Common.{◌≡◌, drop, map}
use Rattle.std.specs.Char.{to_ascii_lowercase}
use Rattle.dnsv_names.specs.Octets.{octets_cmp}
use Rattle.dnsv_names.proofs.wire.lower.lower_order.Given as goal

-- the octets so far are the same in lower case, so what is left decides
abbrev pub invariant-loop-i : goal.invariant-loop-i
invariant-loop-i l =
    octets_cmp (map to_ascii_lowercase l.a) (map to_ascii_lowercase l.b)
    ≡ octets_cmp (drop l.i (map to_ascii_lowercase l.a)) (drop l.i (map to_ascii_lowercase l.b))
