use Rattle.std.proofs.Common.{subst}
use Rattle.dnsv_program.specs.Run.{IsFirstFault, IsReached}
use Rattle.dnsv_asking.specs.Checking.{IsFirstFaultOfCheck, IsReachedByCheck}
use Rattle.dnsv_files.proofs.FileLemmas.Faults.{TellsFaults-weaker}
use Rattle.dnsv_work.proofs.ReachedLemmas.{reached_in}
use Rattle.dnsv_program.proofs.work.outcome_of.Goals as goal

pub returns-clause-faults : goal.returns-clause-faults
returns-clause-faults g c =
    TellsFaults-weaker (IsFirstFaultOfCheck c.as_bytes-asked.result.now c.in-One.rtype.0 c.in-Check.moment) (IsFirstFault c.args.request.now) c.check.result
    (λ files fault holds. rw (c.in-Check.is, c.in-One.is) (subst (λ asked. IsFirstFaultOfCheck asked c.in-One.rtype.0 c.in-Check.moment files fault) c.as_bytes-asked.ensures.value holds))
    c.check.ensures.faults

pub returns-clause-reached : goal.returns-clause-reached
returns-clause-reached g c = λ files are.
    reached_in (IsReachedByCheck c.as_bytes-asked.result.now c.in-One.rtype.0 c.in-Check.moment files) (IsReached c.args.request.now files) c.check.result
    (λ file holds. rw (c.in-Check.is, c.in-One.is) (subst (λ asked. IsReachedByCheck asked c.in-One.rtype.0 c.in-Check.moment files file) c.as_bytes-asked.ensures.value holds))
    (c.check.ensures.reached files are)
