-- The words of kinds.
use Rattle.std.specs.Prelude.{ℕ, List, codes}
use Rattle.dnsv_moments.specs.declared.validity.kind.Kind.{Kind}
use Rattle.dnsv_moments.specs.declared.validity.kind.Kind.TheVariants as kind

-- that of the verdict, as `check` tells it; of a refusal only that it is one
abbrev pub kind_word : Kind → List ℕ
kind_word kind.SecureAnswer = codes "SecureAnswer"
kind_word kind.SecureAlias = codes "SecureAlias"
kind_word kind.SecureNoName = codes "SecureNoName"
kind_word kind.SecureNoData = codes "SecureNoData"
kind_word kind.Insecure = codes "Insecure"
kind_word kind.Pending = codes "Pending"
kind_word kind.Bogus = codes "Bogus"
kind_word kind.Indeterminate = codes "Indeterminate"
kind_word (kind.Refused error) = codes "refused"
