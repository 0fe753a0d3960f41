use Rattle.std.proofs.Common.{◌+◌, ◌≤◌, length}
use Rattle.dnsv_names.proofs.CompareLemmas.{Apart}
use Rattle.dnsv_names.specs.Order.Ends.{Walked}
use Rattle.dnsv_names.proofs.order.compared.Given as goal

abbrev pub invariant-loop-a_rest : goal.invariant-loop-a_rest
invariant-loop-a_rest l = record {
  left : Walked l.a l.a_rest l.a_label;
  right : Walked l.b l.b_rest l.b_label;
  apart : Apart l.alike l.a_rest l.b_rest l.a_label l.b_label;
  near : length l.a_rest ≤ l.alike;
}

abbrev pub decreases-loop-a_rest : goal.decreases-loop-a_rest
decreases-loop-a_rest l = length l.a_rest + length l.b_rest
