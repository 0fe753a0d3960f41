use Rattle.std.proofs.Common.{[], ◌∷◌, subst, rules}
use Rattle.std.proofs.lemmas.Result.{err_from_is_err_and}
use Rattle.dnsv_names.specs.Lines.{HasLines}
use Rattle.dnsv_files.proofs.OpeningLemmas.Macs.{GoesOn, GoesOn-end, line_told, no_memory_wanted, none_told}
use Rattle.dnsv_files.proofs.opening.macs.macs_of.Goals as goal

pub returns-clause-macs : goal.returns-clause-macs
returns-clause-macs c = λ within.
    let all = c.into_iter-line-iterator.result in
    let macs = c.loop-line.macs.items in
    let has : HasLines c.args.text.now all = search rules in
    let end : GoesOn all macs [] = subst (λ left. GoesOn all macs left) c.in-None.ensures.steps.0 c.loop-line.invariant in
    record { within = within; lines = all; has = has; say = GoesOn-end end }

pub returns-clause-every_fault : goal.returns-clause-every_fault
returns-clause-every_fault c =
    let all = c.into_iter-line-iterator.result in
    let macs = c.loop-line.macs.items in
    let has : HasLines c.args.text.now all = search rules in
    let end : GoesOn all macs [] = subst (λ left. GoesOn all macs left) c.in-None.ensures.steps.0 c.loop-line.invariant in
    none_told c.args.text.now all has macs c.loop-line.macs (GoesOn-end end)

pub returns-in_err-mac_of-clause-every_fault : goal.returns-in_err-mac_of-clause-every_fault
returns-in_err-mac_of-clause-every_fault c =
    let p = err_from_is_err_and c.from_residual.result c.from_residual.ensures.1 in
    let all = c.into_iter-line-iterator.result in
    let macs = c.loop-line.macs.items in
    let has : HasLines c.args.text.now all = search rules in
    let here : GoesOn all macs (c.in-Some.line ∷ _) = subst (λ left. GoesOn all macs left) c.in-Some.ensures.steps c.loop-line.invariant in
    rw (p.1, p.2) (line_told c.args.text.now all has c.in-Some.line _ c.in_err-mac_of.field-0.0 here c.in_err-mac_of.ensures.fault)

pub returns-in_err-mac_of-clause-memory : goal.returns-in_err-mac_of-clause-memory
returns-in_err-mac_of-clause-memory c =
    let p = err_from_is_err_and c.from_residual.result c.from_residual.ensures.1 in
    rw (p.1, p.2) (no_memory_wanted _ c.in_err-mac_of.field-0.0 c.in_err-mac_of.ensures.fault)
