use Rattle.std.proofs.Common.{ap, Err, refl, rules}
use Rattle.dnsv_files.specs.declared.status.Fault.{Fault}
use Rattle.dnsv_work.proofs.QuestionLemmas.{bad_name, bad_type, no_question_fault, unaskable, unspelled}
use Rattle.dnsv_work.proofs.question.question_name.Goals as goal

pub returns-in-Err-clause-every_fault : goal.returns-in-Err-clause-every_fault
returns-in-Err-clause-every_fault c = λ told bad.
    ap (λ (f : Fault). Err f) (bad_name c.args.text.now c.args.rtype.0 _ c.in-Err.ensures.every c.in-Err.ensures.every_fault c.in-Err.error refl told bad)

pub returns-then-not-is_question-clause-every_fault : goal.returns-then-not-is_question-clause-every_fault
returns-then-not-is_question-clause-every_fault c = λ told bad.
    ap (λ (f : Fault). Err f) (bad_type c.args.text.now c.args.rtype.0 _ c.in-Ok.ensures.every c.in-Ok.ensures.every_fault c.in-Ok.name refl told bad)

pub returns-clause-every_fault : goal.returns-clause-every_fault
returns-clause-every_fault c = λ told bad.
    absurd (no_question_fault c.args.text.now c.args.rtype.0 _ c.in-Ok.ensures.every c.in-Ok.ensures.every_fault c.in-Ok.name refl (search rules) told bad)

pub returns-in-Err-clause-every : goal.returns-in-Err-clause-every
returns-in-Err-clause-every c = unspelled c.args.text.now c.args.rtype.0 _ c.in-Err.ensures.every c.in-Err.ensures.every_fault c.in-Err.error refl

pub returns-then-not-is_question-clause-every : goal.returns-then-not-is_question-clause-every
returns-then-not-is_question-clause-every c =
    unaskable c.args.text.now c.args.rtype.0 _ c.in-Ok.ensures.every c.in-Ok.ensures.every_fault c.in-Ok.name refl (search rules)
