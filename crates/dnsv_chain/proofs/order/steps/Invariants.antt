use Rattle.dnsv_chain.specs.Order.{AreStepsTo}
use Rattle.dnsv_chain.proofs.order.steps.Given as goal

abbrev pub invariant-loop-place : goal.invariant-loop-place
invariant-loop-place l = AreStepsTo l.rrsets l.place l.steps.items
