use Rattle.std.proofs.Common.{inl, inr}
use Rattle.std.proofs.lemmas.Result.{err_from_is_err_and}
use Rattle.dnsv_timeline.specs.Range.{IsRange}
use Rattle.dnsv_files.proofs.FileLemmas.Faults.{TellsFaults-weaker}
use Rattle.dnsv_work.specs.Faults.{IsFirstFaultOfRange, IsFirstFaultOfTodo}
use Rattle.dnsv_work.specs.Reached.{IsReachedByTodo}
use Rattle.dnsv_work.proofs.ReachedLemmas.{reached_in}
use Rattle.dnsv_work.proofs.WorkLemmas.Range.{range_refused}
use Rattle.dnsv_work.proofs.listing.list_range.Goals as goal

pub returns-in_err-range-clause-faults : goal.returns-in_err-range-clause-faults
returns-in_err-range-clause-faults g c =
    let p = err_from_is_err_and c.from_residual.result c.from_residual.ensures.1 in
    rw (p.1, p.2) (range_refused c.args.from c.args.to c.in_err-range.field-0.0 c.in_err-range.ensures.fault (λ files. IsFirstFaultOfRange c.args.from c.args.to (IsFirstFaultOfTodo files))
    (λ files. inl c.in_err-range.ensures.fault))

pub returns-clause-faults : goal.returns-clause-faults
returns-clause-faults g c =
    TellsFaults-weaker IsFirstFaultOfTodo (λ files. IsFirstFaultOfRange c.args.from c.args.to (IsFirstFaultOfTodo files)) c.list_todo.result
    (λ files fault holds. inr (c.in_ok-range.ensures.range, holds)) c.list_todo.ensures.faults

pub returns-clause-reached : goal.returns-clause-reached
returns-clause-reached g c = λ files are.
    reached_in (IsReachedByTodo files) (λ file. IsRange c.args.from c.args.to × IsReachedByTodo files file) c.list_todo.result
    (λ file holds. (c.in_ok-range.ensures.range, holds)) (c.list_todo.ensures.reached files are)
