use Rattle.std.proofs.Common.{inr}
use Rattle.dnsv_answers.specs.declared.heading.Moments.TheVariants.{At}
use Rattle.dnsv_asking.specs.Checking.{IsFirstFaultOfCheck, IsFirstFaultOfName, IsReachedByCheck}
use Rattle.dnsv_work.specs.Reached.{IsReachedOfFiles}
use Rattle.dnsv_files.proofs.FileLemmas.Faults.{TellsFaults-weaker}
use Rattle.dnsv_work.proofs.ReachedLemmas.{reached_in}
use Rattle.dnsv_asking.proofs.checking.check.Goals as goal

pub returns-clause-faults : goal.returns-clause-faults
returns-clause-faults g c =
    TellsFaults-weaker (IsFirstFaultOfName c.in_ok-name.name c.args.rtype.0 c.args.moment) (IsFirstFaultOfCheck c.args.asked.now c.args.rtype.0 c.args.moment) c.check_question.result
    (λ files fault holds. inr (c.in_ok-name.name, c.in_ok-name.ensures.name, c.in_ok-name.ensures.question, holds)) c.check_question.ensures.faults

pub returns-clause-reached : goal.returns-clause-reached
returns-clause-reached g c = λ files are.
    reached_in (IsReachedOfFiles (At c.args.moment) files) (IsReachedByCheck c.args.asked.now c.args.rtype.0 c.args.moment files) c.check_question.result
    (λ file holds. ((c.in_ok-name.name, c.in_ok-name.ensures.name, c.in_ok-name.ensures.question), holds)) (c.check_question.ensures.reached files are)
