use Rattle.dnsv_names.specs.Order.Ends.{EndAlike}
use Rattle.dnsv_names.proofs.wire.lower.alike_at_end.Given as goal

abbrev pub invariant-loop-alike : goal.invariant-loop-alike
invariant-loop-alike l = EndAlike l.a l.b l.alike
