use Rattle.dnsv_anchors.specs.ByOwner.{values_at}
use Rattle.dnsv_chain.specs.Chain.{AddsKeysTo, AreKnown}
use Rattle.dnsv_chain.proofs.chain.add_keys.Given as goal

abbrev pub invariant-loop-place : goal.invariant-loop-place
invariant-loop-place l = record {
  adds : AddsKeysTo l.set l.place (values_at l.fn.keys) (values_at l.keys);
  known : AreKnown l.known (values_at l.keys);
}
