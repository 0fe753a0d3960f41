use Rattle.dnsv_chain.specs.Chain.{AreKeysTo}
use Rattle.dnsv_chain.proofs.chain.keys_of.Given as goal

-- the keys so far
abbrev pub invariant-loop-place : goal.invariant-loop-place
invariant-loop-place l = AreKeysTo l.set l.place l.keys.items
