use Rattle.std.proofs.Common.{inl, refl}
use Rattle.std.proofs.lemmas.Result.{err_from_is_err_and}
use Rattle.dnsv_files.specs.declared.opening.Opening.TheVariants.{Plain}
use Rattle.dnsv_files.specs.declared.status.InputFile.TheVariants.{Capture, Statements}
use Rattle.dnsv_files.proofs.FileLemmas.Faults.{reads_untouched, with_questions}
use Rattle.dnsv_work.specs.Faults.{IsFirstFaultOfTodo}
use Rattle.dnsv_work.specs.Reached.{IsReachedByTodo}
use Rattle.dnsv_work.proofs.TakenLemmas.{captured, has_evidence}
use Rattle.dnsv_work.proofs.ReachedLemmas.{given_file, reached_by, reached_given}
use Rattle.dnsv_work.proofs.listing.list_todo.Goals as goal

pub returns-in_err-held-clause-faults : goal.returns-in_err-held-clause-faults
returns-in_err-held-clause-faults g c =
    let p = err_from_is_err_and c.from_residual.result c.from_residual.ensures.1 in
    rw (p.1, p.2) (with_questions IsFirstFaultOfTodo IsFirstFaultOfTodo _ (λ files fault holds. holds) refl
    (captured Plain IsFirstFaultOfTodo c.in_err-held.field-0.0 (λ files are fault holds. inl holds) refl refl refl
    (reads_untouched _ _ _ refl, reads_untouched _ _ _ refl) c.in_err-held.ensures.faults))

pub returns-in_err-held-clause-reached : goal.returns-in_err-held-clause-reached
returns-in_err-held-clause-reached g c = λ files are.
    let p = err_from_is_err_and c.from_residual.result c.from_residual.ensures.1 in
    rw (p.1, p.2) (reached_by (IsReachedByTodo files) Capture c.in_err-held.field-0.0 c.in_err-held.ensures.faults.about tt)

pub returns-in_err-statements-clause-reached : goal.returns-in_err-statements-clause-reached
returns-in_err-statements-clause-reached g c = λ files are.
    let p = err_from_is_err_and c.from_residual-in_err-statements.result c.from_residual-in_err-statements.ensures.1 in
    rw (p.1, p.2) (reached_given _ (IsReachedByTodo files) Statements c.in_err-statements.field-0.0 c.in_err-statements.ensures.about c.in_err-statements.ensures.given
    (λ given. (
      has_evidence Plain _ c.in_ok-held.held c.in_ok-held.ensures.evidence files.capture are.beside.capture,
      given_file g.R.Read.remaining c.args.inputs.now.statements files.statements are.beside.statements given,
    )))
