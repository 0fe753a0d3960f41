use Rattle.std.proofs.Common.{◌++◌, ◌∷◌, [], refl}
use Rattle.std.proofs.lemmas.Result.{err_from_is_err_and}
use Rattle.dnsv_names.proofs.LineFileLemmas.{all_say, has_all, has_more, has_next}
use Rattle.dnsv_tsig.proofs.KeyLaws.{IsRingOf-no_fault}
use Rattle.dnsv_tsig.proofs.KeyLemmas.{fault_or_memory, fault_told, memory_wanted, none_say, ring_more}
use Rattle.dnsv_tsig.proofs.KeyNamesLemmas.{no_names}
use Rattle.dnsv_tsig.proofs.key_ring.test_lines.Goals as goal

pub loop-line-init : goal.loop-line-init
loop-line-init c =
    record {
      has = rw c.into_iter-line-iterator.ensures.into_iter_gives c.new-line-items.ensures;
      ring = ([], none_say [] refl, no_names c.new-names.result [] c.new-names.ensures.empty refl);
    }

pub loop-line-preserved : goal.loop-line-preserved
loop-line-preserved c =
    let so_far = c.loop-line.invariant.ring in
    let added = c.in_ok-test_line.ensures.added so_far.0 so_far.2 in
    record {
      has = has_more c.args.text.now c.loop-line.yielded _ _ c.in-Some.line c.in-Some.ensures.steps c.loop-line.invariant.has;
      ring = (so_far.0 ++ added.0 ∷ [], ring_more (so_far.0 ++ added.0 ∷ []) c.in-Some.line so_far.1 (added.0, added.1, added.2, refl), added.3);
    }

pub returns-in_err-test_line-clause-fault : goal.returns-in_err-test_line-clause-fault
returns-in_err-test_line-clause-fault c =
    let so_far = c.loop-line.invariant.ring in
    let p = err_from_is_err_and c.from_residual.result c.from_residual.ensures.1 in
    rw (p.1, p.2)
    (fault_or_memory c.args.text.now c.loop-line.yielded c.in-Some.line c.next.new.self so_far.0 _
    (has_next c.args.text.now c.loop-line.yielded _ _ c.in-Some.line c.in-Some.ensures.steps c.loop-line.invariant.has)
    so_far.1 (c.in_err-test_line.ensures.fault so_far.0 so_far.2))

pub returns-in_err-test_line-clause-every_fault : goal.returns-in_err-test_line-clause-every_fault
returns-in_err-test_line-clause-every_fault c = λ fault is.
    let so_far = c.loop-line.invariant.ring in
    let p = err_from_is_err_and c.from_residual.result c.from_residual.ensures.1 in
    rw (p.1, p.2)
    (fault_told c.args.text.now c.loop-line.yielded c.in-Some.line c.next.new.self so_far.0 _
    (has_next c.args.text.now c.loop-line.yielded _ _ c.in-Some.line c.in-Some.ensures.steps c.loop-line.invariant.has)
    so_far.1 (c.in_err-test_line.ensures.fault so_far.0 so_far.2) fault is)

pub returns-in_err-test_line-clause-memory : goal.returns-in_err-test_line-clause-memory
returns-in_err-test_line-clause-memory c =
    let so_far = c.loop-line.invariant.ring in
    let p = err_from_is_err_and c.from_residual.result c.from_residual.ensures.1 in
    rw (p.1, p.2)
    (memory_wanted c.args.text.now c.loop-line.yielded c.in-Some.line c.next.new.self so_far.0 _
    (has_next c.args.text.now c.loop-line.yielded _ _ c.in-Some.line c.in-Some.ensures.steps c.loop-line.invariant.has)
    so_far.1 (c.in_err-test_line.ensures.fault so_far.0 so_far.2))

pub returns-clause-ring : goal.returns-clause-ring
returns-clause-ring c =
    let so_far = c.loop-line.invariant.ring in
    (so_far.0, all_say c.args.text.now c.loop-line.yielded so_far.0 (has_all c.args.text.now c.loop-line.yielded _ c.in-None.ensures.steps.0 c.loop-line.invariant.has) so_far.1)

pub returns-clause-every_fault : goal.returns-clause-every_fault
returns-clause-every_fault c = λ fault is.
    let ring = returns-clause-ring c in absurd (IsRingOf-no_fault c.args.text.now ring.0 fault ring.1 is)
