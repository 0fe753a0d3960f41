-- How a question ends by its verdict, and how one without a verdict is refused.
use Rattle.std.specs.Prelude.{◌≡◌, ℕ, Bool, List}
use Rattle.dnsv_verdict.specs.declared.error.VerdictError.{VerdictError}
use Rattle.dnsv_verdict.specs.declared.error.VerdictError.TheVariants as error
use Rattle.dnsv_verdict.specs.declared.verdict.Verdict.{Verdict}
use Rattle.dnsv_verdict.specs.declared.verdict.Verdict.TheVariants as verdict
use Rattle.dnsv_chain.specs.Basis.{Basis}
use Rattle.dnsv_files.specs.Status.{status_code}
use Rattle.dnsv_questions.specs.declared.format.Format.{Format}
use Rattle.dnsv_files.specs.Told.{nowhere}
use Rattle.dnsv_files.specs.declared.status.Fault.{Fault}
use Rattle.dnsv_files.specs.declared.status.Fault.TheVariants as fault
use Rattle.dnsv_files.specs.declared.status.Refusal.TheVariants as refusal
use Rattle.dnsv_files.specs.declared.status.Status.{Status}
use Rattle.dnsv_files.specs.declared.status.Status.TheVariants as status
use Rattle.dnsv_questions.specs.Question.{Asked}
use Rattle.dnsv_verdict.specs.VerdictError.{verdict_error_code}
use Rattle.dnsv_verdict.specs.Way.{IsRefusal}
use Rattle.dnsv_evidence_texts.specs.Refused.{refused_text}

-- the end of a run by the verdict
abbrev pub verdict_status : Verdict → Status
verdict_status (verdict.Insecure cut) = status.Insecure
verdict_status (verdict.Pending entries) = status.Pending
verdict_status verdict.Bogus = status.Bogus
verdict_status verdict.Indeterminate = status.Indeterminate
verdict_status _ = status.Done

-- how a question is refused that has no verdict
abbrev pub verdict_fault : VerdictError → Fault
verdict_fault error.OutOfMemory = fault.OutOfMemory
verdict_fault error.BadQuestion = fault.Refused (refusal.Question error.BadQuestion) nowhere
verdict_fault error.AliasLoop = fault.Refused (refusal.Question error.AliasLoop) nowhere
verdict_fault error.TooManyLinks = fault.Refused (refusal.Question error.TooManyLinks) nowhere
verdict_fault error.AliasTargets = fault.Refused (refusal.Question error.AliasTargets) nowhere

-- the question has no verdict, and the text says by which number it is refused
pub record IsRefusedOne (format : Format) (why : Bool) (basis : Basis) (asked : Asked) (end : Status) (text : List ℕ) : Type 0 where
  pub error : VerdictError
  pub refused : IsRefusal basis asked.name asked.rtype error
  pub ends : end ≡ status.Refused
  pub line : text ≡ refused_text format (verdict_error_code error) why asked.name asked.rtype basis.moment (status_code end)
