-- The numbers of the errors of verdicts.
use Rattle.std.specs.Prelude.{ℕ}
use Rattle.dnsv_verdict.specs.declared.error.VerdictError.{VerdictError}
use Rattle.dnsv_verdict.specs.declared.error.VerdictError.TheVariants.{OutOfMemory, BadQuestion, AliasLoop, TooManyLinks, AliasTargets}

abbrev pub verdict_error_code : VerdictError → ℕ
verdict_error_code OutOfMemory = 90
verdict_error_code BadQuestion = 701
verdict_error_code AliasLoop = 702
verdict_error_code TooManyLinks = 703
verdict_error_code AliasTargets = 704
