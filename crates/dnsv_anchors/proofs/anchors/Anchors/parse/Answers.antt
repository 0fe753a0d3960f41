use Rattle.std.proofs.lemmas.Result.{err_from_is_err_and}
use Rattle.dnsv_names.proofs.LineFileLemmas.{all_say, has_all, has_more, has_next}
use Rattle.dnsv_anchors.proofs.AnchorLaws.AnchorFileLemmas.{anchors_more, fault_or_memory, fault_told, memory_wanted}
use Rattle.dnsv_anchors.proofs.AnchorLaws.{AreAnchorsOf-no_fault}
use Rattle.dnsv_anchors.proofs.anchors.Anchors.parse.Goals as goal

pub loop-line-preserved : goal.loop-line-preserved
loop-line-preserved c =
    record {
      has = has_more c.args.text.now c.loop-line.yielded _ _ c.in-Some.line c.in-Some.ensures.steps c.loop-line.invariant.has;
      says = anchors_more c.add.new.self c.in-Some.line c.loop-line.invariant.says c.in_ok-add.ensures.added;
    }

pub returns-in_err-add-clause-fault : goal.returns-in_err-add-clause-fault
returns-in_err-add-clause-fault c =
    let p = err_from_is_err_and c.from_residual.result c.from_residual.ensures.1 in
    rw (p.1, p.2)
    (fault_or_memory c.args.text.now c.loop-line.yielded c.in-Some.line c.next.new.self c.loop-line.anchors _
    (has_next c.args.text.now c.loop-line.yielded _ _ c.in-Some.line c.in-Some.ensures.steps c.loop-line.invariant.has)
    c.loop-line.invariant.says c.in_err-add.ensures.fault)

pub returns-in_err-add-clause-every_fault : goal.returns-in_err-add-clause-every_fault
returns-in_err-add-clause-every_fault c = λ fault is.
    let p = err_from_is_err_and c.from_residual.result c.from_residual.ensures.1 in
    rw (p.1, p.2)
    (fault_told c.args.text.now c.loop-line.yielded c.in-Some.line c.next.new.self c.loop-line.anchors _
    (has_next c.args.text.now c.loop-line.yielded _ _ c.in-Some.line c.in-Some.ensures.steps c.loop-line.invariant.has)
    c.loop-line.invariant.says c.in_err-add.ensures.fault fault is)

pub returns-in_err-add-clause-memory : goal.returns-in_err-add-clause-memory
returns-in_err-add-clause-memory c =
    let p = err_from_is_err_and c.from_residual.result c.from_residual.ensures.1 in
    rw (p.1, p.2)
    (memory_wanted c.args.text.now c.loop-line.yielded c.in-Some.line c.next.new.self c.loop-line.anchors _
    (has_next c.args.text.now c.loop-line.yielded _ _ c.in-Some.line c.in-Some.ensures.steps c.loop-line.invariant.has)
    c.loop-line.invariant.says c.in_err-add.ensures.fault)

pub returns-clause-every_fault : goal.returns-clause-every_fault
returns-clause-every_fault c = λ fault is.
    let has = has_all c.args.text.now c.loop-line.yielded _ c.in-None.ensures.steps.0 c.loop-line.invariant.has in
    absurd (AreAnchorsOf-no_fault c.args.text.now c.loop-line.anchors fault (all_say c.args.text.now c.loop-line.yielded c.loop-line.anchors has c.loop-line.invariant.says) is)

pub returns-clause-anchors : goal.returns-clause-anchors
returns-clause-anchors c =
    all_say c.args.text.now c.loop-line.yielded c.loop-line.anchors (has_all c.args.text.now c.loop-line.yielded _ c.in-None.ensures.steps.0 c.loop-line.invariant.has) c.loop-line.invariant.says
