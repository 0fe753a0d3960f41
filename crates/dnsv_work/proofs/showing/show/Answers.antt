use Rattle.std.proofs.lemmas.Result.{IfErr-weaker}
use Rattle.dnsv_files.specs.declared.status.InputFile.TheVariants.{Capture}
use Rattle.dnsv_work.specs.Reached.{IsCaptureReached}
use Rattle.dnsv_work.proofs.ReachedLemmas.{reached_by}
use Rattle.dnsv_work.proofs.showing.show.Goals as goal

pub returns-clause-reached : goal.returns-clause-reached
returns-clause-reached g c = λ files are. IfErr-weaker c.showing.result _ _ (λ told about. reached_by IsCaptureReached Capture told about tt) c.showing.ensures.faults.about
