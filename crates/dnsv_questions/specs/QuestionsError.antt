-- The numbers of what keeps a text from being a file of questions.
use Rattle.std.specs.Prelude.{ℕ}
use Rattle.dnsv_questions.specs.declared.error.QuestionsError.{QuestionsError}
use Rattle.dnsv_questions.specs.declared.error.QuestionsError.TheVariants.{OutOfMemory, Syntax, TooMany}

abbrev pub questions_error_code : QuestionsError → ℕ
questions_error_code OutOfMemory = 90
questions_error_code (Syntax line) = 803
questions_error_code (TooMany line) = 804
