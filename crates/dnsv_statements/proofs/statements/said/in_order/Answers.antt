use Rattle.std.proofs.Common.{arith}
use Rattle.dnsv_statements.proofs.SaidLemmas.{none_in_tree}
use Rattle.dnsv_statements.proofs.statements.said.in_order.Goals as goal

pub returns-then-len-eq0-clause-same : goal.returns-then-len-eq0-clause-same
returns-then-len-eq0-clause-same c =
    none_in_tree c.args.tree.entries _ c.new.ensures.items (omega (arith, c.len.ensures.len, c.if-len-eq0.true))
