use Rattle.std.proofs.Common.{inl, inr, refl}
use Rattle.std.proofs.lemmas.Result.{err_from_is_err_and}
use Rattle.dnsv_files.specs.declared.status.InputFile.TheVariants.{Anchors, Capture}
use Rattle.dnsv_work.specs.Faults.{IsFirstFaultOfFiles}
use Rattle.dnsv_work.specs.Reached.{IsReachedOfFiles}
use Rattle.dnsv_work.proofs.WorkLemmas.InOrder.{all_read, framed_by}
use Rattle.dnsv_files.proofs.FileLemmas.Faults.{reads_then}
use Rattle.dnsv_work.proofs.TakenLemmas.{all_taken, anchored, captured, has_evidence, unsaid, unsealed}
use Rattle.dnsv_work.proofs.ReachedLemmas.{given_file, reached_by, reached_given, reached_known, reached_sealed}
use Rattle.dnsv_work.specs.Span.{moments_of}
use Rattle.dnsv_work.proofs.given.given_in.Goals as goal

pub returns-in_err-opening-clause-faults : goal.returns-in_err-opening-clause-faults
returns-in_err-opening-clause-faults g c =
    let p = err_from_is_err_and c.from_residual.result c.from_residual.ensures.1 in
    rw (p.1, p.2) (unsealed (moments_of c.args.span.now) c.in_err-opening.field-0.0 refl refl refl refl c.in_err-opening.ensures.faults
    c.in_err-opening.ensures.keys_reads c.in_err-opening.ensures.macs_reads c.in_err-opening.ensures.about)

pub returns-in_err-framed-clause-faults : goal.returns-in_err-framed-clause-faults
returns-in_err-framed-clause-faults g c =
    let p = err_from_is_err_and c.from_residual-in_err-framed.result c.from_residual-in_err-framed.ensures.1 in
    rw (p.1, p.2) (captured c.in_ok-opening.opening (IsFirstFaultOfFiles (moments_of c.args.span.now)) c.in_err-framed.field-0.0
    (λ files are fault holds. inr (c.in_ok-opening.opening, c.in_ok-opening.ensures.opening files.keys files.macs are.keys are.macs, inl holds)) refl refl refl
    (reads_then c.in_ok-opening.opening _ c.in_ok-opening.ensures.keys_reads, reads_then c.in_ok-opening.opening _ c.in_ok-opening.ensures.macs_reads)
    c.in_err-framed.ensures.faults)

pub returns-in_err-anchors-clause-faults : goal.returns-in_err-anchors-clause-faults
returns-in_err-anchors-clause-faults g c =
    let p = err_from_is_err_and c.from_residual-in_err-anchors.result c.from_residual-in_err-anchors.ensures.1 in
    rw (p.1, p.2) (anchored c.in_ok-opening.opening (moments_of c.args.span.now)
    (λ files are. c.in_ok-opening.ensures.opening files.keys files.macs are.keys are.macs) c.in_ok-framed.framed c.in_err-anchors.field-0.0 refl refl
    (reads_then c.in_ok-opening.opening _ c.in_ok-opening.ensures.keys_reads, reads_then c.in_ok-opening.opening _ c.in_ok-opening.ensures.macs_reads)
    c.in_ok-framed.ensures.faults
    (has_evidence c.in_ok-opening.opening _ c.in_ok-framed.framed.held c.in_ok-framed.ensures.evidence)
    c.in_err-anchors.ensures.faults c.in_err-anchors.ensures.reads c.in_err-anchors.ensures.about)

pub returns-in_err-said-clause-faults : goal.returns-in_err-said-clause-faults
returns-in_err-said-clause-faults g c =
    let p = err_from_is_err_and c.from_residual-in_err-said.result c.from_residual-in_err-said.ensures.1 in
    rw (p.1, p.2) (unsaid c.in_ok-opening.opening (moments_of c.args.span.now)
    (λ files are. c.in_ok-opening.ensures.opening files.keys files.macs are.keys are.macs) c.in_ok-framed.framed c.in_ok-anchors.anchors c.in_err-said.field-0.0
    (reads_then c.in_ok-opening.opening _ c.in_ok-opening.ensures.keys_reads, reads_then c.in_ok-opening.opening _ c.in_ok-opening.ensures.macs_reads)
    c.in_ok-framed.ensures.faults
    (has_evidence c.in_ok-opening.opening _ c.in_ok-framed.framed.held c.in_ok-framed.ensures.evidence)
    (λ octets is. (c.in_ok-anchors.anchors, c.in_ok-anchors.ensures.said octets is)) c.in_ok-anchors.ensures.reads
    (λ files are. c.in_err-said.ensures.faults files.capture files.statements files.answers
    (rw c.deref.ensures.value (framed_by c.in_ok-framed.framed.frames.items are.capture c.in_ok-framed.ensures.frames)) are.statements are.answers)
    c.in_err-said.ensures.statements_reads c.in_err-said.ensures.answers_reads c.in_err-said.ensures.about)

pub returns-clause-faults : goal.returns-clause-faults
returns-clause-faults g c =
    all_taken c.in_ok-opening.opening (moments_of c.args.span.now) c.in_ok-opening.opening c.in_ok-framed.framed c.in_ok-anchors.anchors c.in_ok-said.said _
    c.in_ok-opening.ensures.keys_reads c.in_ok-opening.ensures.macs_reads c.in_ok-framed.ensures.faults
    c.in_ok-anchors.ensures.reads c.in_ok-said.ensures.statements_reads c.in_ok-said.ensures.answers_reads tt

pub returns-clause-given : goal.returns-clause-given
returns-clause-given g c = λ files are.
    all_read (moments_of c.args.span.now) files c.in_ok-opening.opening
    (c.in_ok-opening.ensures.opening files.keys files.macs are.keys are.macs) c.in_ok-framed.framed.held c.in_ok-anchors.anchors
    c.in_ok-said.said are.capture c.in_ok-framed.ensures.evidence
    (c.in_ok-anchors.ensures.said files.anchors are.anchors)
    (c.in_ok-said.ensures.said files.capture files.statements files.answers
    (rw c.deref.ensures.value (framed_by c.in_ok-framed.framed.frames.items are.capture c.in_ok-framed.ensures.frames)) are.statements are.answers)

pub returns-in_err-opening-clause-reached : goal.returns-in_err-opening-clause-reached
returns-in_err-opening-clause-reached g c = λ files are.
    let p = err_from_is_err_and c.from_residual.result c.from_residual.ensures.1 in
    rw (p.1, p.2) (reached_sealed (moments_of c.args.span.now) files c.in_err-opening.field-0.0 (c.in_err-opening.ensures.reached files.keys files.macs are.keys are.macs))

pub returns-in_err-framed-clause-reached : goal.returns-in_err-framed-clause-reached
returns-in_err-framed-clause-reached g c = λ files are.
    let p = err_from_is_err_and c.from_residual-in_err-framed.result c.from_residual-in_err-framed.ensures.1 in
    rw (p.1, p.2) (reached_by (IsReachedOfFiles (moments_of c.args.span.now) files) Capture c.in_err-framed.field-0.0 c.in_err-framed.ensures.faults.about
    (c.in_ok-opening.opening, c.in_ok-opening.ensures.opening files.keys files.macs are.keys are.macs))

pub returns-in_err-anchors-clause-reached : goal.returns-in_err-anchors-clause-reached
returns-in_err-anchors-clause-reached g c = λ files are.
    let p = err_from_is_err_and c.from_residual-in_err-anchors.result c.from_residual-in_err-anchors.ensures.1 in
    rw (p.1, p.2) (reached_given _ (IsReachedOfFiles (moments_of c.args.span.now) files) Anchors c.in_err-anchors.field-0.0 c.in_err-anchors.ensures.about c.in_err-anchors.ensures.given (λ given. (
      c.in_ok-opening.opening,
      c.in_ok-opening.ensures.opening files.keys files.macs are.keys are.macs,
      has_evidence c.in_ok-opening.opening _ c.in_ok-framed.framed.held c.in_ok-framed.ensures.evidence files.capture are.capture,
      given_file g.R.Read.remaining c.args.inputs.now.anchors files.anchors are.anchors given,
    )))

pub returns-in_err-said-clause-reached : goal.returns-in_err-said-clause-reached
returns-in_err-said-clause-reached g c = λ files are.
    let p = err_from_is_err_and c.from_residual-in_err-said.result c.from_residual-in_err-said.ensures.1 in
    rw (p.1, p.2) (reached_known (moments_of c.args.span.now) files (
      c.in_ok-opening.opening,
      c.in_ok-opening.ensures.opening files.keys files.macs are.keys are.macs,
      has_evidence c.in_ok-opening.opening _ c.in_ok-framed.framed.held c.in_ok-framed.ensures.evidence files.capture are.capture,
      (c.in_ok-anchors.anchors, c.in_ok-anchors.ensures.said files.anchors are.anchors),
    ) c.in_err-said.field-0.0 (c.in_err-said.ensures.reached files.statements files.answers are.statements are.answers))
