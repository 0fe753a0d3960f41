use Rattle.std.proofs.Common.{subst, sym}
use Rattle.dnsv_files.proofs.FileLemmas.Faults.{TellsFaults-weaker}
use Rattle.dnsv_program.specs.Run.{IsFirstFault, IsFirstFaultOfTimeline}
use Rattle.dnsv_work.specs.Faults.{IsFirstFaultOfRange, IsFirstFaultOfTodo, IsTimelineRefused}
use Rattle.dnsv_program.proofs.work.text_of.Goals as goal

pub returns-in-ListRange-clause-faults : goal.returns-in-ListRange-clause-faults
returns-in-ListRange-clause-faults g c =
    TellsFaults-weaker (λ files. IsFirstFaultOfRange c.in-ListRange.from c.in-ListRange.to (IsFirstFaultOfTodo files)) (IsFirstFault c.args.request.now) c.list_range.result
    (λ files fault holds. rw c.in-ListRange.is holds) c.list_range.ensures.faults

pub returns-in-ListRange-clause-question : goal.returns-in-ListRange-clause-question
returns-in-ListRange-clause-question g c = λ fault refused. c.list_range.ensures.range fault (rw c.in-ListRange.is at refused)

pub returns-in-Timeline-clause-faults : goal.returns-in-Timeline-clause-faults
returns-in-Timeline-clause-faults g c =
    TellsFaults-weaker (IsFirstFaultOfTimeline c.as_bytes-asked.result.now c.in-Timeline.rtype.0 c.in-Timeline.from c.in-Timeline.to) (IsFirstFault c.args.request.now) c.timeline.result
    (λ files fault holds. rw c.in-Timeline.is (subst (λ asked. IsFirstFaultOfTimeline asked c.in-Timeline.rtype.0 c.in-Timeline.from c.in-Timeline.to files fault) c.as_bytes-asked.ensures.value holds))
    c.timeline.ensures.faults

pub returns-in-Timeline-clause-question : goal.returns-in-Timeline-clause-question
returns-in-Timeline-clause-question g c = λ fault refused.
    c.timeline.ensures.question fault
    (subst (λ asked. IsTimelineRefused asked c.in-Timeline.rtype.0 c.in-Timeline.from c.in-Timeline.to fault) (sym c.as_bytes-asked.ensures.value) (rw c.in-Timeline.is at refused))
