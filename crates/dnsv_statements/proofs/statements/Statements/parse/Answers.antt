use Rattle.std.proofs.Common.{◌++◌}
use Rattle.std.proofs.lemmas.Result.{err_from_is_err_and}
use Rattle.dnsv_names.proofs.LineFileLemmas.{has_all, has_more, has_next}
use Rattle.dnsv_statements.proofs.SaidLemmas.{nothing_rises, nothing_said}
use Rattle.dnsv_statements.proofs.StatementsLemmas.{all_said, fault_of, fault_told, memory_to_list, memory_wanted, none_at_fault, says_more, says_none}
use Rattle.dnsv_statements.proofs.statements.Statements.parse.Goals as goal

pub loop-line-init : goal.loop-line-init
loop-line-init c =
    record {
      has = rw c.into_iter-line-iterator.ensures.into_iter_gives c.new-line-items.ensures;
      says = says_none _ (nothing_said _ _ c.new-rising.ensures.items c.new-tree.ensures.empty);
      rising = nothing_rises _ c.new-rising.ensures.items;
    }

pub loop-line-preserved : goal.loop-line-preserved
loop-line-preserved c =
    record {
      has = has_more c.args.text.now c.loop-line.yielded _ _ c.in-Some.line c.in-Some.ensures.steps c.loop-line.invariant.has;
      says = says_more c.in-Some.line c.loop-line.invariant.says c.in_ok-add.ensures.adds;
      rising = c.in_ok-add.ensures.rising;
    }

pub returns-in_err-add-clause-fault : goal.returns-in_err-add-clause-fault
returns-in_err-add-clause-fault c =
    let p = err_from_is_err_and c.from_residual.result c.from_residual.ensures.1 in
    rw (p.1, p.2)
    (fault_of c.args.text.now c.loop-line.yielded c.in-Some.line c.next.new.self (c.loop-line.rising.items ++ c.loop-line.tree.entries) _ (has_next c.args.text.now c.loop-line.yielded _ _ c.in-Some.line c.in-Some.ensures.steps c.loop-line.invariant.has) c.loop-line.invariant.says c.in_err-add.ensures.refuses)

pub returns-in_err-add-clause-every_fault : goal.returns-in_err-add-clause-every_fault
returns-in_err-add-clause-every_fault c = λ fault is.
    let p = err_from_is_err_and c.from_residual.result c.from_residual.ensures.1 in
    rw (p.1, p.2)
    (fault_told c.args.text.now c.loop-line.yielded c.in-Some.line c.next.new.self (c.loop-line.rising.items ++ c.loop-line.tree.entries) _ (has_next c.args.text.now c.loop-line.yielded _ _ c.in-Some.line c.in-Some.ensures.steps c.loop-line.invariant.has) c.loop-line.invariant.says c.in_err-add.ensures.refuses fault is)

pub returns-in_err-add-clause-memory : goal.returns-in_err-add-clause-memory
returns-in_err-add-clause-memory c =
    let p = err_from_is_err_and c.from_residual.result c.from_residual.ensures.1 in
    rw (p.1, p.2)
    (memory_wanted c.args.text.now c.loop-line.yielded c.in-Some.line c.next.new.self (c.loop-line.rising.items ++ c.loop-line.tree.entries) _ (has_next c.args.text.now c.loop-line.yielded _ _ c.in-Some.line c.in-Some.ensures.steps c.loop-line.invariant.has) c.loop-line.invariant.says c.in_err-add.ensures.refuses)

pub returns-in_err-listed-clause-every_fault : goal.returns-in_err-listed-clause-every_fault
returns-in_err-listed-clause-every_fault c = λ fault is.
    absurd (none_at_fault c.args.text.now c.loop-line.yielded (c.loop-line.rising.items ++ c.loop-line.tree.entries) (has_all c.args.text.now c.loop-line.yielded _ c.in-None.ensures.steps.0 c.loop-line.invariant.has) c.loop-line.invariant.says fault is)

pub returns-in_err-listed-clause-memory : goal.returns-in_err-listed-clause-memory
returns-in_err-listed-clause-memory c =
    let p = err_from_is_err_and c.from_residual-in_err-listed.result c.from_residual-in_err-listed.ensures.1 in
    rw p.1
    (λ out. memory_to_list c.args.text.now c.loop-line.yielded (c.loop-line.rising.items ++ c.loop-line.tree.entries) (has_all c.args.text.now c.loop-line.yielded _ c.in-None.ensures.steps.0 c.loop-line.invariant.has) c.loop-line.invariant.says c.in_err-listed.ensures.refused)

pub returns-clause-every_fault : goal.returns-clause-every_fault
returns-clause-every_fault c = λ fault is.
    absurd (none_at_fault c.args.text.now c.loop-line.yielded (c.loop-line.rising.items ++ c.loop-line.tree.entries) (has_all c.args.text.now c.loop-line.yielded _ c.in-None.ensures.steps.0 c.loop-line.invariant.has) c.loop-line.invariant.says fault is)

pub returns-clause-found : goal.returns-clause-found
returns-clause-found c =
    all_said c.args.text.now c.loop-line.yielded (c.loop-line.rising.items ++ c.loop-line.tree.entries) c.in_ok-listed.listed.items (has_all c.args.text.now c.loop-line.yielded _ c.in-None.ensures.steps.0 c.loop-line.invariant.has) c.loop-line.invariant.says c.in_ok-listed.ensures.same
