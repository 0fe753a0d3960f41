-- The numbers of the refusals.
use Rattle.std.specs.Prelude.{ℕ}
use Rattle.dnsv_names.specs.declared.error.NameError.{NameError}
use Rattle.dnsv_names.specs.declared.error.NameError.TheVariants.{BadEscape, EmptyLabel, LongLabel, LongName, NotAbsolute}

abbrev pub code_of : NameError → ℕ
code_of BadEscape = 101
code_of EmptyLabel = 102
code_of LongLabel = 103
code_of LongName = 104
code_of NotAbsolute = 105
