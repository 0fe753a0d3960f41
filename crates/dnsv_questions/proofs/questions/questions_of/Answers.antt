use Rattle.std.proofs.Common.{◌++◌, ◌∷◌, [], List, sym, subst}
use Rattle.std.proofs.lemmas.Result.{err_from_is_err_and}
use Rattle.dnsv_names.proofs.LineFileLemmas.{begins, each_more, has_all, has_more, has_next}
use Rattle.dnsv_names.specs.Lines.LineFile.{SayEach}
use Rattle.dnsv_questions.specs.QuestionFile.{IsAskedLine}
use Rattle.dnsv_questions.proofs.QuestionLemmas.{all_asked, asks_something}
use Rattle.dnsv_questions.specs.Question.{Asked}
use Rattle.dnsv_questions.proofs.questions.questions_of.Goals as goal

pub loop-line-preserved-in_ok-push : goal.loop-line-preserved-in_ok-push
loop-line-preserved-in_ok-push c =
    record {
      has = has_more c.args.text.now c.loop-line.yielded _ _ c.in-Some.line c.in-Some.ensures.steps c.loop-line.invariant.has;
      each = subst (λ (asked : List Asked). SayEach IsAskedLine (c.loop-line.yielded ++ c.in-Some.line ∷ []) asked) (sym c.in_ok-push.ensures.items)
          (each_more IsAskedLine c.loop-line.yielded c.loop-line.questions.items c.in-Some.line c.in_ok-of.field-0 c.loop-line.invariant.each
          (subst (λ (asked : Asked). IsAskedLine c.in-Some.line.octets asked) (sym c.in_ok-of.ensures) c.in-Some-asked_of.ensures));
    }

pub loop-line-preserved : goal.loop-line-preserved
loop-line-preserved c =
    absurd (asks_something c.args.text.now c.requires.0 c.loop-line.questions.items c.loop-line.yielded c.in-Some.line c.next.new.self c.requires.1
    (has_next c.args.text.now c.loop-line.yielded _ _ c.in-Some.line c.in-Some.ensures.steps c.loop-line.invariant.has)
    c.loop-line.invariant.each c.in_default.ensures)

pub returns-in_err-of-clause-memory : goal.returns-in_err-of-clause-memory
returns-in_err-of-clause-memory c =
    let p = err_from_is_err_and c.from_residual.result c.from_residual.ensures.1 in
    rw p.1
    (begins IsAskedLine c.args.text.now c.loop-line.yielded c.in-Some.line c.next.new.self c.loop-line.questions.items
    (has_next c.args.text.now c.loop-line.yielded _ _ c.in-Some.line c.in-Some.ensures.steps c.loop-line.invariant.has)
    c.loop-line.invariant.each (_, c.in-Some-asked_of.ensures))

pub returns-in_err-push-clause-memory : goal.returns-in_err-push-clause-memory
returns-in_err-push-clause-memory c =
    let p = err_from_is_err_and c.from_residual-in_err-push.result c.from_residual-in_err-push.ensures.1 in
    rw p.1
    (begins IsAskedLine c.args.text.now c.loop-line.yielded c.in-Some.line c.next.new.self c.loop-line.questions.items
    (has_next c.args.text.now c.loop-line.yielded _ _ c.in-Some.line c.in-Some.ensures.steps c.loop-line.invariant.has)
    c.loop-line.invariant.each (_, c.in-Some-asked_of.ensures))

pub returns-clause-found : goal.returns-clause-found
returns-clause-found c =
    all_asked c.args.text.now c.requires.0 c.loop-line.questions.items c.loop-line.yielded c.requires.1
    (has_all c.args.text.now c.loop-line.yielded _ c.in-None.ensures.steps.0 c.loop-line.invariant.has) c.loop-line.invariant.each
