use Rattle.std.proofs.Common.{List, Option, ap, sym, ◌∙◌}
use Rattle.dnsv_statements.specs.Statements.{answer_by}
use Rattle.dnsv_statements.specs.StatementsReading.{said_in}
use Rattle.dnsv_verifier.specs.declared.entry.Entry.{Entry}
use Rattle.dnsv_statements.specs.declared.statements.statement.Word.{Word}
use Rattle.dnsv_statements.proofs.statements.StatementsVerifier.answer.Goals as goal

pub returns-in-Some : goal.returns-in-Some
returns-in-Some c =
    c.answer.ensures ∙ ap (λ (word : Option Word). answer_by word) (sym c.in-Some.is ∙ c.said_word.ensures
    ∙ ap (λ (listed : List (Entry × Word)). said_in listed c.args.entry.now) (c.deref.ensures.value ∙ c.self.view_is))

pub returns-in-None : goal.returns-in-None
returns-in-None c =
    ap (λ (word : Option Word). answer_by word) (sym c.in-None.is ∙ c.said_word.ensures
    ∙ ap (λ (listed : List (Entry × Word)). said_in listed c.args.entry.now) (c.deref.ensures.value ∙ c.self.view_is))
