use Rattle.std.proofs.Common.{map, take, ◌++◌}
use Rattle.std.specs.List.{concat}
use Rattle.sha2.specs.Hashers.{Holds256}
use Rattle.dnsv_digest.specs.Hmac.{masked}
use Rattle.dnsv_digest.proofs.hmac.hmac_sha256.Given as goal

-- the inner hasher holds the block under the inner pad and the pieces so far
abbrev pub invariant-loop-piece : goal.invariant-loop-piece
invariant-loop-piece l =
    Holds256 l.inner (masked l.block 0x36 ++ concat (map (λ piece. piece.now) (take l.piece-index l.pieces)))
