use Rattle.dnsv_answers.specs.declared.heading.Moments.TheVariants.{Between}
use Rattle.dnsv_moments.specs.Question.{IsRefusedFor, IsRefusedThroughout}
use Rattle.dnsv_chain.specs.Basis.{basis_of}
use Rattle.dnsv_verdict.specs.declared.error.VerdictError.{VerdictError}
use Rattle.std.proofs.Common.{inl}
use Rattle.std.proofs.lemmas.Result.{err_from_is_err_and}
use Rattle.std.specs.Prelude.{string_bytes}
use Rattle.dnsv_work.specs.Known.{AreMiscountedIn, Ground, numbers_said}
use Rattle.dnsv_program.proofs.WorkLemmas.Timeline.{refused_said, timeline_said, unrefused}
use Rattle.dnsv_program.proofs.work.timeline.timeline_by.Goals as goal

pub returns-in_err-moments-clause-only : goal.returns-in_err-moments-clause-only
returns-in_err-moments-clause-only c =
    let p = err_from_is_err_and c.from_residual.result c.from_residual.ensures.1 in
    rw (p.1, p.2) (inl c.in_err-moments.ensures.fault)

pub returns-in-Ok-clause-text : goal.returns-in-Ok-clause-text
returns-in-Ok-clause-text c =
    let given = c.args.given.now in
    let question = c.args.question.now in
    let known = c.in_ok-moments.ensures.known in
    let moments = c.in_ok-moments.moments in (
      record { meaning = known.0; numbers = numbers_said given.said; knows = known.1 },
      timeline_said known.0 given.held.rrsets given.anchors question.range.from question.range.to moments known.2 c.args.showing.format c.args.showing.kinds question.name.now question.rtype.0
          c.in-Ok.stretches.items (string_bytes c.in_ok-text-in-Ok.text) (c.in-Ok.ensures.timeline known.0 known.2.said)
          (unrefused (IsRefusedFor known.0 moments question.name.now question.rtype.0) (c.in-Ok.ensures.refused known.0 known.2.said)) (rw c.deref.ensures.value at c.in_ok-text-in-Ok.ensures),
    )

pub returns-clause-only : goal.returns-clause-only
returns-clause-only c =
    let given = c.args.given.now in
    let question = c.args.question.now in
    let from = question.range.from in
    let to = question.range.to in
    let known = c.in_ok-moments.ensures.known in
    let knowing : Ground (Between from to) given.held.rrsets given.said = record { meaning = known.0; numbers = numbers_said given.said; knows = known.1 } in
    refused_said known.0 given.held.rrsets given.anchors from to c.in_ok-moments.moments known.2 knowing (AreMiscountedIn (Between from to) given.held.rrsets given.said)
    (λ (each : Ground (Between from to) given.held.rrsets given.said) (error : VerdictError).
    IsRefusedThroughout (basis_of given.held.rrsets given.anchors from each.meaning) from to question.name.now question.rtype.0 error)
    question.name.now question.rtype.0 c.in-Err.error c.verdict_fault.result (λ error refused. refused) (c.in-Err.ensures.told known.0 known.2.said) c.verdict_fault.ensures.told
