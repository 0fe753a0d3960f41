use Rattle.std.proofs.Common.{◌+◌, subst, arith, ap, ◌∙◌, length}
use Rattle.std.proofs.lemmas.Result.{err_from_is_err_and}
use Rattle.std.specs.List.{AllByRecursion}
use Rattle.dnsv_canonical.specs.Evidence.{IsReadable, IsReasonAgainst}
use Rattle.dnsv_canonical.specs.Kept.{IsBadAfter}
use Rattle.dnsv_canonical.proofs.ReadableLemmas.{refused_in_answer, refused_in_authority, refused_in_additional, IfErr-weaker}
use Rattle.dnsv_canonical.proofs.capture.readable.check_rdata.Goals as goal

pub returns-in_err-check_section-clause-refused : goal.returns-in_err-check_section-clause-refused
returns-in_err-check_section-clause-refused c = λ held whole.
    let p = err_from_is_err_and c.from_residual.result c.from_residual.ensures.1 in
    rw (p.1, p.2) (refused_in_answer held c.args.message.now whole _
    (subst (λ records. IsBadAfter 0 records c.in_err-check_section.field-0.0) (c.as_slice-answer.ensures.value ∙ c.requires.answer) c.in_err-check_section.ensures.refused))

pub returns-in_err-check_section-2-clause-refused : goal.returns-in_err-check_section-2-clause-refused
returns-in_err-check_section-2-clause-refused c = λ held whole.
    let p = err_from_is_err_and c.from_residual-in_err-check_section-2.result c.from_residual-in_err-check_section-2.ensures.1 in
    rw (p.1, p.2) (refused_in_authority held c.args.message.now whole _
    (subst (AllByRecursion IsReadable) (c.as_slice-answer.ensures.value ∙ c.requires.answer) c.in_ok-check_section.ensures.ok)
    (subst (λ records. IsBadAfter (length records) c.args.message.now.authority c.in_err-check_section-2.field-0.0) (c.as_slice-answer.ensures.value ∙ c.requires.answer)
    (subst (λ records. IsBadAfter (length c.as_slice-answer.result.now) records c.in_err-check_section-2.field-0.0) (c.as_slice-authority.ensures.value ∙ c.requires.authority) c.in_err-check_section-2.ensures.refused)))

pub returns-clause-refused : goal.returns-clause-refused
returns-clause-refused c = λ held whole.
    IfErr-weaker (IsBadAfter (length c.as_slice-answer.result.now + length c.as_slice-authority.result.now) c.as_slice-additional.result.now) (IsReasonAgainst held c.args.message.now) c.check_section-3.result
    (λ error bad. refused_in_additional held c.args.message.now whole error _
    (omega (arith, ap length (c.as_slice-answer.ensures.value ∙ c.requires.answer), ap length (c.as_slice-authority.ensures.value ∙ c.requires.authority)))
    (subst (AllByRecursion IsReadable) (c.as_slice-answer.ensures.value ∙ c.requires.answer) c.in_ok-check_section.ensures.ok)
    (subst (AllByRecursion IsReadable) (c.as_slice-authority.ensures.value ∙ c.requires.authority) c.in_ok-check_section-2.ensures.ok)
    (subst (λ records. IsBadAfter (length c.as_slice-answer.result.now + length c.as_slice-authority.result.now) records error) (c.as_slice-additional.ensures.value ∙ c.requires.additional) bad))
    c.check_section-3.ensures.refused
