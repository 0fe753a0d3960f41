use Rattle.std.proofs.Common.{[], ◌∷◌, List, None, Err, ap, refl, inl, inr, subst}
use Rattle.std.proofs.lemmas.Result.{err_from_is_err_and}
use Rattle.dnsv_names.specs.Lines.{HasLines, NumberedLine}
use Rattle.dnsv_answers.specs.AnswerFile.{AnswersContents}
use Rattle.dnsv_answers.specs.declared.error.AnswersError.TheVariants.{Syntax}
use Rattle.dnsv_answers.proofs.AnswerLaws.{AreAnswersOf-no_fault, IsFaultOf-only}
use Rattle.dnsv_answers.proofs.AnswerLemmas.{has_first, read_so, wants_behind}
use Rattle.dnsv_answers.proofs.answers.Answers.parse.Goals as goal

pub returns-in_default-clause-every_fault : goal.returns-in_default-clause-every_fault
returns-in_default-clause-every_fault c = λ fault is.
    let has = subst (λ (lines : List NumberedLine). HasLines c.args.text.now lines) c.in_default.ensures.steps.0 c.new-lines.ensures in
    ap Err (IsFaultOf-only c.args.text.now (Syntax None) fault (record { lines = []; has = has; there = refl }) is)

pub returns-in_default-heading_of-clause-every_fault : goal.returns-in_default-heading_of-clause-every_fault
returns-in_default-heading_of-clause-every_fault c = λ fault is.
    let has = has_first c.args.text.now _ _ c.in-Some.first c.in-Some.ensures.steps c.new-lines.ensures in
    rw c.number.ensures
    (ap Err (IsFaultOf-only c.args.text.now _ fault (record { lines = c.in-Some.first ∷ c.next.new.self; has = has; there = inl (c.in_default-heading_of.ensures, refl) }) is))

pub returns-in_err-test_answers-clause-every_fault : goal.returns-in_err-test_answers-clause-every_fault
returns-in_err-test_answers-clause-every_fault c = λ fault is.
    let p = err_from_is_err_and c.from_residual.result c.from_residual.ensures.1 in
    let has = has_first c.args.text.now _ _ c.in-Some.first c.in-Some.ensures.steps c.new-lines.ensures in
    rw (p.1, p.2)
    (ap Err (IsFaultOf-only c.args.text.now _ fault (record {
      lines = c.in-Some.first ∷ c.next.new.self;
      has = has;
      there = inr ((c.in-Some-heading_of.heading, c.in-Some-heading_of.ensures), c.in_err-test_answers.ensures.fault);
    }) is))

pub returns-in_err-said-clause-every_fault : goal.returns-in_err-said-clause-every_fault
returns-in_err-said-clause-every_fault c = λ fault is.
    let has = has_first c.args.text.now _ _ c.in-Some.first c.in-Some.ensures.steps c.new-lines.ensures in
    let (said, say) = c.in_ok-test_answers.ensures.said in
    let contents : AnswersContents = record { heading = c.in-Some-heading_of.heading; line = c.in-Some.first.number; said = said } in
    absurd (AreAnswersOf-no_fault c.args.text.now contents fault
    (record { first = c.in-Some.first; others = c.next.new.self; has = has; is_heading = c.in-Some-heading_of.ensures; number = refl; each = say }) is)

pub returns-clause-found : goal.returns-clause-found
returns-clause-found c =
    read_so c.args.text.now c.in-Some.first c.next.new.self c.in-Some-heading_of.heading c.number-2.result c.in_ok-said.said.items
    (has_first c.args.text.now _ _ c.in-Some.first c.in-Some.ensures.steps c.new-lines.ensures) c.in-Some-heading_of.ensures c.number-2.ensures c.in_ok-said.ensures.said

pub returns-clause-every_fault : goal.returns-clause-every_fault
returns-clause-every_fault c = λ fault is.
    let has = has_first c.args.text.now _ _ c.in-Some.first c.in-Some.ensures.steps c.new-lines.ensures in
    let (said, say) = c.in_ok-test_answers.ensures.said in
    let contents : AnswersContents = record { heading = c.in-Some-heading_of.heading; line = c.in-Some.first.number; said = said } in
    absurd (AreAnswersOf-no_fault c.args.text.now contents fault
    (record { first = c.in-Some.first; others = c.next.new.self; has = has; is_heading = c.in-Some-heading_of.ensures; number = refl; each = say }) is)

pub returns-in_err-said-clause-memory : goal.returns-in_err-said-clause-memory
returns-in_err-said-clause-memory c =
    let p = err_from_is_err_and c.from_residual-in_err-said.result c.from_residual-in_err-said.ensures.1 in
    rw p.1
    (λ wanting. wants_behind c.args.text.now c.in-Some.first c.next.new.self c.in-Some-heading_of.heading
    (has_first c.args.text.now _ _ c.in-Some.first c.in-Some.ensures.steps c.new-lines.ensures) c.in-Some-heading_of.ensures c.in_err-said.ensures.memory)
