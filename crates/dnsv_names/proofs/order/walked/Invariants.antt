use Rattle.std.proofs.Common.{◌<◌, length}
use Rattle.std.specs.Option.{IfSome}
use Rattle.dnsv_names.specs.Order.Ends.{Walked}
use Rattle.dnsv_names.proofs.order.walked.Given as goal

abbrev pub invariant-loop-rest : goal.invariant-loop-rest
invariant-loop-rest l = record {
  so_far : Walked l.octets l.rest l.label;
  far : IfSome l.label (λ before. l.reach < length before.now);
}

abbrev pub decreases-loop-rest : goal.decreases-loop-rest
decreases-loop-rest l = length l.rest
