use Rattle.std.proofs.Common.{List, ap, ◌∙◌, arith}
use Rattle.dnsv_statements.specs.StatementsReading.{said_in}
use Rattle.dnsv_verifier.specs.declared.entry.Entry.{Entry}
use Rattle.dnsv_statements.specs.declared.statements.statement.Word.{Word}
use Rattle.dnsv_statements.proofs.SaidLemmas.{without_tree}
use Rattle.dnsv_statements.proofs.statements.said.listed_in.Goals as goal

pub returns-then-len-eq0-clause-same : goal.returns-then-len-eq0-clause-same
returns-then-len-eq0-clause-same c = without_tree c.args.rising.items c.args.tree.entries (omega (arith, c.len.ensures.len, c.if-len-eq0.true))

pub returns-clause-same : goal.returns-clause-same
returns-clause-same c = λ each.
    ap (λ (items : List (Entry × Word)). said_in items each) c.in_ok-listed.ensures.same ∙ c.in_ok-gather.ensures.same each
