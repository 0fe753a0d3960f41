use Rattle.std.proofs.Common.{◌≡◌, List, Err, ap, length, rules, subst, ◌∙◌}
use Rattle.std.proofs.lemmas.List.{length-map}
use Rattle.std.proofs.lemmas.Result.{err_from_is_err_and}
use Rattle.dnsv_verifier.specs.Table.{with_answers}
use Rattle.dnsv_verifier.specs.declared.answer.Answer.{Answer}
use Rattle.dnsv_answers.specs.AnswerFile.{AreMiscounted, answers_in}
use Rattle.dnsv_answers.specs.declared.said.SaidAnswer.{SaidAnswer}
use Rattle.dnsv_answers.proofs.AnsweredLemmas.{none_miscounted, one_miscount}
use Rattle.dnsv_answers.proofs.answered.answered.Goals as goal

pub returns-in_err-test_count-clause-every_fault : goal.returns-in_err-test_count-clause-every_fault
returns-in_err-test_count-clause-every_fault c = λ fault bad.
    let p = err_from_is_err_and c.from_residual.result c.from_residual.ensures.1 in
    let other = subst (λ count. AreMiscounted c.args.answers.now count c.in_err-test_count.field-0.0) c.len.ensures.count c.in_err-test_count.ensures.other in
    rw (p.1, p.2) (ap Err (one_miscount c.args.answers.now (length c.args.asked.answers) c.in_err-test_count.field-0.0 fault other bad))

pub returns-in_err-said-clause-every_fault : goal.returns-in_err-said-clause-every_fault
returns-in_err-said-clause-every_fault c = λ fault bad.
    absurd (none_miscounted c.args.answers.now (length c.args.asked.answers) fault (c.in_ok-test_count.ensures.are ∙ c.len.ensures.count) bad)

pub returns-clause-every_fault : goal.returns-clause-every_fault
returns-clause-every_fault c = λ fault bad.
    absurd (none_miscounted c.args.answers.now (length c.args.asked.answers) fault (c.in_ok-test_count.ensures.are ∙ c.len.ensures.count) bad)

pub with_answers-requires : goal.with_answers-requires
with_answers-requires c =
    let said : c.in_ok-said.said.items ≡ answers_in c.args.answers.now = search rules in
    ap (λ (xs : List Answer). length xs) said
    ∙ length-map c.args.answers.now.said (λ (each : SaidAnswer). each.answer)
    ∙ c.in_ok-test_count.ensures.are ∙ c.len.ensures.count

pub returns-clause-table : goal.returns-clause-table
returns-clause-table c =
    let said : c.in_ok-said.said.items ≡ answers_in c.args.answers.now = search rules in
    c.with_answers.ensures ∙ ap (λ (xs : List Answer). with_answers c.args.asked xs) said
