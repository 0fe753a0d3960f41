use Rattle.std.proofs.lemmas.Result.{err_from_is_err_and}
use Rattle.dnsv_answers.proofs.AnswerLemmas.{has_first, no_line, say_behind}
use Rattle.dnsv_answers.proofs.answers.answers_behind.Goals as goal

pub unreachable-requires : goal.unreachable-requires
unreachable-requires c =
    let (first, others, has, (said, say)) = c.requires in
    absurd (no_line c.args.text.now _ others first c.in_default.ensures.steps.0 c.new-lines.ensures has)

pub answers_in-requires : goal.answers_in-requires
answers_in-requires c =
    let (first, others, has, (said, say)) = c.requires in
    (said, say_behind c.args.text.now first _ others _ said has (has_first c.args.text.now _ _ _ c.in-Some.ensures.steps c.new-lines.ensures) say)

pub returns-clause-said : goal.returns-clause-said
returns-clause-said c = (_, _, has_first c.args.text.now _ _ _ c.in-Some.ensures.steps c.new-lines.ensures, c.in_ok-said.ensures.said)

pub returns-in_err-said-clause-memory : goal.returns-in_err-said-clause-memory
returns-in_err-said-clause-memory c =
    let p = err_from_is_err_and c.from_residual.result c.from_residual.ensures.1 in
    rw p.1 (_, _, has_first c.args.text.now _ _ _ c.in-Some.ensures.steps c.new-lines.ensures, c.in_err-said.ensures.memory)
