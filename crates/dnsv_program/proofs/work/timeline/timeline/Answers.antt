use Rattle.std.proofs.Common.{Err, ap, inl, inr}
use Rattle.std.proofs.lemmas.Result.{err_from_is_err_and}
use Rattle.dnsv_answers.specs.declared.heading.Moments.TheVariants.{Between}
use Rattle.dnsv_files.proofs.FileLemmas.Faults.{TellsFaults-weaker}
use Rattle.dnsv_program.specs.Run.{IsFirstFaultOfTimeline, IsFirstFaultThroughout, IsReachedByTimeline}
use Rattle.dnsv_work.specs.Reached.{IsReachedOfFiles}
use Rattle.dnsv_work.proofs.ReachedLemmas.{reached_in}
use Rattle.dnsv_work.proofs.WorkLemmas.Range.{name_refused, range_refused, range_unread}
use Rattle.dnsv_files.specs.declared.status.Fault.{Fault}
use Rattle.dnsv_program.proofs.work.timeline.timeline.Goals as goal

pub returns-in_err-name-clause-question : goal.returns-in_err-name-clause-question
returns-in_err-name-clause-question g c = λ told refused.
    let p = err_from_is_err_and c.from_residual.result c.from_residual.ensures.1 in
    rw (p.1, p.2) (ap (λ (each : Fault). Err each) (name_refused c.args.asked.now c.args.rtype.0 c.args.ends.from c.args.ends.to c.in_err-name.field-0.0 c.in_err-name.ensures.every_fault
    c.in_err-name.ensures.every told refused))

pub returns-in_err-range-clause-faults : goal.returns-in_err-range-clause-faults
returns-in_err-range-clause-faults g c =
    let p = err_from_is_err_and c.from_residual-in_err-range.result c.from_residual-in_err-range.ensures.1 in
    rw (p.1, p.2) (range_refused c.args.ends.from c.args.ends.to c.in_err-range.field-0.0 c.in_err-range.ensures.fault (IsFirstFaultOfTimeline c.args.asked.now c.args.rtype.0 c.args.ends.from c.args.ends.to)
    (λ files. inr (c.in_ok-name.name, c.in_ok-name.ensures.name, c.in_ok-name.ensures.question, inl c.in_err-range.ensures.fault)))

pub returns-in_err-range-clause-reached : goal.returns-in_err-range-clause-reached
returns-in_err-range-clause-reached g c = λ files are.
    let p = err_from_is_err_and c.from_residual-in_err-range.result c.from_residual-in_err-range.ensures.1 in
    rw (p.1, p.2) (range_unread c.args.ends.from c.args.ends.to c.in_err-range.field-0.0 c.in_err-range.ensures.fault (IsReachedByTimeline c.args.asked.now c.args.rtype.0 c.args.ends.from c.args.ends.to files))

pub returns-clause-faults : goal.returns-clause-faults
returns-clause-faults g c =
    TellsFaults-weaker (IsFirstFaultThroughout c.in_ok-name.name c.args.rtype.0 c.args.ends.from c.args.ends.to)
    (IsFirstFaultOfTimeline c.args.asked.now c.args.rtype.0 c.args.ends.from c.args.ends.to) c.timeline_in.result
    (λ files fault holds. inr (c.in_ok-name.name, c.in_ok-name.ensures.name, c.in_ok-name.ensures.question, inr (c.in_ok-range.ensures.range, holds)))
    (rw (c.in_ok-range.ensures.from, c.in_ok-range.ensures.to) at c.timeline_in.ensures.faults)

pub returns-clause-reached : goal.returns-clause-reached
returns-clause-reached g c = λ files are.
    reached_in (IsReachedOfFiles (Between c.args.ends.from c.args.ends.to) files) (IsReachedByTimeline c.args.asked.now c.args.rtype.0 c.args.ends.from c.args.ends.to files) c.timeline_in.result
    (λ file holds. ((c.in_ok-name.name, c.in_ok-name.ensures.name, c.in_ok-name.ensures.question), c.in_ok-range.ensures.range, holds))
    (rw (c.in_ok-range.ensures.from, c.in_ok-range.ensures.to) at (c.timeline_in.ensures.reached files are))
