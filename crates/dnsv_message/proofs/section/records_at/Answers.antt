use Rattle.std.proofs.Common.{inr, arith}
use Rattle.std.proofs.lemmas.Result.{err_from_is_err_and}
use Rattle.dnsv_message.proofs.Sequences.{Reading-next, Reading-fault, Reading-order}
use Rattle.dnsv_message.proofs.section.records_at.Goals as goal

pub loop-read-preserved : goal.loop-read-preserved
loop-read-preserved c = record {
  reading = rw c.in_ok-push.ensures.items (Reading-next c.loop-read.invariant.reading _ _ c.loop-read-test.true c.in_ok-record.ensures.found);
  last = (c.loop-read.records.items, c.in_ok-record.record, c.in_ok-push.ensures.items, Reading-order c.loop-read.invariant.reading, c.in_ok-record.ensures.found);
  within = λ within. omega (arith, c.in_ok-record.ensures.found.whole, c.in_ok-record.ensures.found.ends);
}

pub returns-in_err-record-clause-fault : goal.returns-in_err-record-clause-fault
returns-in_err-record-clause-fault c =
    let p = err_from_is_err_and c.from_residual-in_err-record.result c.from_residual-in_err-record.ensures.1 in
    rw (p.1, p.2) (inr (Reading-fault c.loop-read.invariant.reading _ c.loop-read-test.true c.in_err-record.ensures.fault))

pub returns-clause-found : goal.returns-clause-found
returns-clause-found c = Reading-order c.loop-read.invariant.reading
