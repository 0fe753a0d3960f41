use Rattle.std.proofs.Common.{arith}
use Rattle.dnsv_proof_forms.proofs.forms.ends.end_at.Goals as goal

pub overflow_add-labels : goal.overflow_add-labels
overflow_add-labels c = omega (arith, c.is_above.ensures.at_most_127 c.if-not-is_above.false)

pub returns-then-needs_none : goal.returns-then-needs_none
returns-then-needs_none c = record {
  above = c.is_above.ensures.above.0 c.if-not-is_above.false;
  encloser = c.needs_none.ensures.0 c.if-needs_none.true;
  next_closer = c.in_ok-next_closer.ensures c.args.apex.now;
}

pub returns : goal.returns
returns c = record {
  above = c.is_above.ensures.above.0 c.if-not-is_above.false;
  encloser = (
    λ needs. let holds = c.needs_none.ensures.1 needs in let fails = c.if-needs_none.false in cc,
    c.in_ok-encloser.ensures c.args.apex.now,
  );
  next_closer = c.in_ok-covering.ensures c.args.apex.now;
}
