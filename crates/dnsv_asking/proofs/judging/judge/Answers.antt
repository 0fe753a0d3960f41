use Rattle.std.proofs.Common.{◌≡◌, ◌⊎◌, ◌∙◌, ap, inl, inr, sym, ⊎_elim}
use Rattle.dnsv_questions.specs.Question.{IsQuestion}
use Rattle.dnsv_verdict.specs.Way.{IsRefusal, IsRefusedFor}
use Rattle.dnsv_verdict.specs.declared.error.VerdictError.TheVariants.{BadQuestion, OutOfMemory}
use Rattle.dnsv_texts.specs.Checking.{check_text}
use Rattle.dnsv_files.specs.Status.{status_code}
use Rattle.dnsv_work.specs.Judged.{verdict_fault}
use Rattle.dnsv_asking.proofs.judging.judge.Goals as goal

pub returns-in_ok-outcome_by-in-Ok-clause-verdict : goal.returns-in_ok-outcome_by-in-Ok-clause-verdict
returns-in_ok-outcome_by-in-Ok-clause-verdict c = λ basis is same at. record {
  report = c.in-Ok.report;
  is_verdict = c.in-Ok.ensures.verdict basis is;
  told = c.in-Ok.told;
  is_told = rw c.requires.why at (c.in-Ok.ensures.why basis is);
  ends = c.in_ok-outcome_by-in-Ok.ensures.status;
  lines = c.in_ok-outcome_by-in-Ok.ensures.text
      ∙ (λ i. check_text c.args.telling.format c.args.asked.now.name.now c.args.asked.now.rtype.0 (sym at i) (status_code c.in_ok-outcome_by-in-Ok.field-0.status)
      (same i) c.in-Ok.report.links c.in-Ok.report.verdict c.in-Ok.told c.args.numbers.now);
}

pub returns-in-Err-clause-only : goal.returns-in-Err-clause-only
returns-in-Err-clause-only c = λ basis is.
    let told : (c.in-Err.error ≡ OutOfMemory) ⊎ IsRefusal basis c.args.asked.now.name.now c.args.asked.now.rtype.0 c.in-Err.error = c.in-Err.ensures.refused basis is in
    ⊎_elim (λ (memory : c.in-Err.error ≡ OutOfMemory). inl (c.verdict_fault.ensures.told ∙ ap verdict_fault memory))
    (λ (refusal : IsRefusal basis c.args.asked.now.name.now c.args.asked.now.rtype.0 c.in-Err.error).
    ⊎_elim (λ (unasked : (c.in-Err.error ≡ BadQuestion) × (¬ IsQuestion c.args.asked.now.name.now c.args.asked.now.rtype.0)). absurd (unasked.1 c.requires.question))
    (λ (stopped : IsQuestion c.args.asked.now.name.now c.args.asked.now.rtype.0 × IsRefusedFor basis c.args.asked.now.name.now c.args.asked.now.rtype.0 c.in-Err.error).
    inr (c.in-Err.error, stopped.1, c.verdict_fault.ensures.told)) refusal) told
