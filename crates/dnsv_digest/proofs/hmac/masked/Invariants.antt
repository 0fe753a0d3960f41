use Rattle.std.proofs.Common.{◌≡◌, ◌++◌, map, take, drop, bit_xor}
use Rattle.dnsv_digest.proofs.hmac.masked.Given as goal

-- the octets before the place are masked, the others are the block's
abbrev pub invariant-loop-octet : goal.invariant-loop-octet
invariant-loop-octet l =
    l.octet-items ≡ map (λ octet. bit_xor octet l.pad) (take l.octet-index l.fn.block) ++ drop l.octet-index l.fn.block
