-- The numbers of what keeps a text from being a file of statements.
use Rattle.std.specs.Prelude.{ℕ}
use Rattle.dnsv_statements.specs.declared.statements.StatementsError.{StatementsError}
use Rattle.dnsv_statements.specs.declared.statements.StatementsError.TheVariants.{OutOfMemory, Syntax, Contradiction}

abbrev pub statements_error_code : StatementsError → ℕ
statements_error_code OutOfMemory = 90
statements_error_code (Syntax line) = 501
statements_error_code (Contradiction line) = 502
