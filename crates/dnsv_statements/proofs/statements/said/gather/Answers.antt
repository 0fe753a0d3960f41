use Rattle.std.proofs.Common.{◌≡◌, ◌++◌, ◌∷◌, [], List, sym, ap, ◌∙◌, arith, rules}
use Rattle.dnsv_statements.specs.StatementsReading.{said_in}
use Rattle.dnsv_verifier.specs.declared.entry.Entry.{Entry}
use Rattle.dnsv_statements.specs.declared.statements.statement.Word.{Word}
use Rattle.dnsv_statements.proofs.SaidLemmas.{empty_list, moved}
use Rattle.dnsv_statements.proofs.statements.said.gather.Goals as goal

pub loop-entry-preserved : goal.loop-entry-preserved
loop-entry-preserved c = λ each.
    let popped : c.loop-entry.rising.items ≡ c.pop.new.self.items ++ (c.in-Some.entry, c.in-Some.word) ∷ [] = search rules in
    moved c.pop.new.self.items c.loop-entry.tree.entries c.insert.new.self.entries c.in-Some.entry c.in-Some.word c.in_ok-insert.ensures.updates.0 each
    ∙ ap (λ (items : List (Entry × Word)). said_in (items ++ c.loop-entry.tree.entries) each) (sym popped) ∙ c.loop-entry.invariant each

pub returns-clause-same : goal.returns-clause-same
returns-clause-same c = λ each.
    let none : c.loop-entry.rising.items ≡ [] = empty_list c.loop-entry.rising.items (omega (arith, c.in_default.ensures.cases.0, c.loop-entry.rising.ok.0)) in
    ap (λ (items : List (Entry × Word)). said_in (items ++ c.loop-entry.tree.entries) each) (sym none) ∙ c.loop-entry.invariant each
