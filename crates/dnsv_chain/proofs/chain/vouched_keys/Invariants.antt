use Rattle.std.proofs.Common.{◌≡◌, ◌++◌, length, map}
use Rattle.dnsv_chain.specs.Chain.{AreVouched}
use Rattle.dnsv_chain.proofs.chain.vouched_keys.Given as goal

-- those of the keys so far
abbrev pub invariant-loop-key : goal.invariant-loop-key
invariant-loop-key l = record {
  parts : l.yielded ++ l.key-iterator.rest.items ≡ l.fn.keys.items;
  size : l.key-iterator.rest.len ≡ length l.key-iterator.rest.items;
  vouched : AreVouched l.anchors (map (λ ds. ds.now) l.delegations) l.yielded l.vouched.items;
}
