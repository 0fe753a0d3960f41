use Rattle.std.proofs.Common.{inl, refl}
use Rattle.std.proofs.lemmas.Result.{err_from_is_err_and}
use Rattle.dnsv_answers.specs.declared.heading.Moments.TheVariants.{At}
use Rattle.dnsv_chain.specs.Basis.{Basis, basis_of}
use Rattle.dnsv_work.specs.Known.{AreMiscountedIn, numbers_said}
use Rattle.dnsv_asking.proofs.JudgedLemmas.{refused_by, told_by}
use Rattle.dnsv_asking.proofs.checking.judge_given.Goals as goal

pub returns-in_err-judging-clause-only : goal.returns-in_err-judging-clause-only
returns-in_err-judging-clause-only c =
    let p = err_from_is_err_and c.from_residual-in_err-judging.result c.from_residual-in_err-judging.ensures.1 in
    rw (p.1, p.2) (inl c.in_err-judging.ensures.fault)

pub returns-clause-verdict : goal.returns-clause-verdict
returns-clause-verdict c =
    let given = c.args.given.now in
    let asked = c.args.asked.now in
    let known = c.in_ok-judging.ensures.known in
    let basis : Basis = basis_of given.held.rrsets given.anchors asked.moment known.0 in
    told_by asked.name.now asked.rtype.0 asked.moment given.held.rrsets given.anchors given.said
    (record { meaning = known.0; numbers = numbers_said given.said; knows = known.1 }) c.args.telling.format c.args.telling.why c.judge.result
    (rw c.in_ok-numbers.ensures at (c.judge.ensures.verdict basis known.2 c.rrsets.ensures.value refl))

pub returns-clause-only : goal.returns-clause-only
returns-clause-only c =
    let given = c.args.given.now in
    let asked = c.args.asked.now in
    let known = c.in_ok-judging.ensures.known in
    let basis : Basis = basis_of given.held.rrsets given.anchors asked.moment known.0 in
    refused_by asked.name.now asked.rtype.0 asked.moment given.held.rrsets given.anchors given.said
    (record { meaning = known.0; numbers = numbers_said given.said; knows = known.1 }) (AreMiscountedIn (At asked.moment) given.held.rrsets given.said) c.judge.result
    (c.judge.ensures.only basis known.2)
