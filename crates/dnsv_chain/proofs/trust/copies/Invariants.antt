use Rattle.std.proofs.Common.{◌≡◌, map, take}
use Rattle.dnsv_chain.proofs.trust.copies.Given as goal

-- the keys so far
abbrev pub invariant-loop-key : goal.invariant-loop-key
invariant-loop-key l = l.copies.items ≡ map (λ key. key.1) (take l.key-index l.keys)
