use Rattle.dnsv_program.specs.Run.{IsFirstFault}
use Rattle.dnsv_asking.specs.Asking.{IsFirstFaultOfEach}
use Rattle.dnsv_files.proofs.FileLemmas.Faults.{TellsFaults-weaker}
use Rattle.dnsv_program.proofs.WorkLemmas.Many.{asked_alike, many_whole}
use Rattle.dnsv_program.proofs.work.run.Goals as goal

pub returns-in-Some-clause-faults : goal.returns-in-Some-clause-faults
returns-in-Some-clause-faults g c =
    let alike = asked_alike c.args.request.now c.in-Some.telling.format c.in-Some.telling.why c.in-Some.moment (rw c.in-Some.is at c.many_asked.ensures) in
    TellsFaults-weaker (IsFirstFaultOfEach c.in-Some.moment) (IsFirstFault c.args.request.now) c.check_each.result (λ files fault holds. alike.faults files fault holds)
    c.check_each.ensures.faults

pub returns-in-Some-clause-whole : goal.returns-in-Some-clause-whole
returns-in-Some-clause-whole g c = λ memory.
    let alike = asked_alike c.args.request.now c.in-Some.telling.format c.in-Some.telling.why c.in-Some.moment (rw c.in-Some.is at c.many_asked.ensures) in
    many_whole c.args.request.now c.in-Some.telling.format c.in-Some.telling.why c.in-Some.moment alike _ _ (c.check_each.ensures.whole memory)
