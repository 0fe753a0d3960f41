use Rattle.std.proofs.Common.{refl}
use Rattle.std.proofs.lemmas.Result.{err_from_is_err_and}
use Rattle.dnsv_files.specs.Files.Capture.{IsFaultOfCapture, NewEvidence}
use Rattle.dnsv_files.specs.declared.opening.Opening.TheVariants.{Plain}
use Rattle.dnsv_files.specs.declared.status.InputFile.TheVariants.{Capture}
use Rattle.dnsv_files.proofs.FileLemmas.Faults.{reads_untouched, with_questions}
use Rattle.dnsv_work.specs.Reached.{IsCaptureReached}
use Rattle.dnsv_work.proofs.TakenLemmas.{captured}
use Rattle.dnsv_work.proofs.ReachedLemmas.{reached_by}
use Rattle.dnsv_work.proofs.listing.list_all.Goals as goal

pub returns-in_err-held-clause-faults : goal.returns-in_err-held-clause-faults
returns-in_err-held-clause-faults g c =
    let p = err_from_is_err_and c.from_residual.result c.from_residual.ensures.1 in
    rw (p.1, p.2) (with_questions (λ files. IsFaultOfCapture NewEvidence Plain files.capture) (λ files. IsFaultOfCapture NewEvidence Plain files.capture) _ (λ files fault holds. holds) refl
    (captured Plain (λ files. IsFaultOfCapture NewEvidence Plain files.capture) c.in_err-held.field-0.0 (λ files are fault holds. holds) refl refl refl
    (reads_untouched _ _ _ refl, reads_untouched _ _ _ refl) c.in_err-held.ensures.faults))

pub returns-in_err-held-clause-reached : goal.returns-in_err-held-clause-reached
returns-in_err-held-clause-reached g c = λ files are.
    let p = err_from_is_err_and c.from_residual.result c.from_residual.ensures.1 in
    rw (p.1, p.2) (reached_by IsCaptureReached Capture c.in_err-held.field-0.0 c.in_err-held.ensures.faults.about tt)
