use Rattle.std.proofs.Common.{◌≡◌, None, Some, sym, ap, ◌∙◌}
use Rattle.std.proofs.lemmas.Result.{err_from_is_err_and}
use Rattle.dnsv_statements.specs.StatementsReading.{said_in}
use Rattle.dnsv_statements.proofs.SaidLemmas.{listed_before, listed_behind, lists_again, lists_in_tree}
use Rattle.dnsv_statements.proofs.statements.said.put.Goals as goal

pub returns-in-Some-clause-listed : goal.returns-in-Some-clause-listed
returns-in-Some-clause-listed c =
    let found = ap (said_in c.args.rising.now) (sym c.entry-2.ensures) ∙ sym c.said_word.ensures ∙ c.in-Some.is in
    sym (listed_before c.args.rising.now c.args.tree.now.entries c.args.entry c.in-Some.listed found)

pub returns-in-Some-clause-lists : goal.returns-in-Some-clause-lists
returns-in-Some-clause-lists c = λ apart.
    let found = ap (said_in c.args.rising.now) (sym c.entry-2.ensures) ∙ sym c.said_word.ensures ∙ c.in-Some.is in
    lists_again c.args.rising.now c.args.tree.now.entries c.args.entry c.args.word c.in-Some.listed found (λ same. apart (ap Some same))

pub returns-in_err-insert-clause-refused : goal.returns-in_err-insert-clause-refused
returns-in_err-insert-clause-refused c =
    let p = err_from_is_err_and c.from_residual.result c.from_residual.ensures.1 in
    let none : said_in c.args.rising.now c.args.entry ≡ None = ap (said_in c.args.rising.now) (sym c.entry-2.ensures) ∙ sym c.said_word.ensures ∙ c.in_default.is in
    rw p.1 (listed_behind c.args.rising.now c.args.tree.now.entries c.args.entry none ∙ c.in_err-insert.ensures.absent)

pub returns-clause-listed : goal.returns-clause-listed
returns-clause-listed c =
    let none : said_in c.args.rising.now c.args.entry ≡ None = ap (said_in c.args.rising.now) (sym c.entry-2.ensures) ∙ sym c.said_word.ensures ∙ c.in_default.is in
    c.in_ok-insert.ensures.old ∙ sym (listed_behind c.args.rising.now c.args.tree.now.entries c.args.entry none)

pub returns-clause-lists : goal.returns-clause-lists
returns-clause-lists c = λ free.
    let none : said_in c.args.rising.now c.args.entry ≡ None = ap (said_in c.args.rising.now) (sym c.entry-2.ensures) ∙ sym c.said_word.ensures ∙ c.in_default.is in
    lists_in_tree c.args.rising.now c.args.tree.now.entries c.insert.new.self.entries c.args.entry c.args.word none (λ e. free (c.in_ok-insert.ensures.old ∙ e)) c.in_ok-insert.ensures.updates.0
