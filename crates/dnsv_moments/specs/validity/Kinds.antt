-- What a question comes to, whatever carries it.
use Rattle.dnsv_verdict.specs.declared.verdict.Verdict.{Verdict}
use Rattle.dnsv_verdict.specs.declared.verdict.Verdict.TheVariants as verdict
use Rattle.dnsv_moments.specs.declared.validity.kind.Kind.{Kind}
use Rattle.dnsv_moments.specs.declared.validity.kind.Kind.TheVariants as kind

-- the kind of the verdict
abbrev pub verdict_kind : Verdict → Kind
verdict_kind (verdict.SecureAnswer k s) = kind.SecureAnswer
verdict_kind (verdict.SecureAlias k s) = kind.SecureAlias
verdict_kind (verdict.SecureNoName proof) = kind.SecureNoName
verdict_kind (verdict.SecureNoData proof) = kind.SecureNoData
verdict_kind (verdict.Insecure cut) = kind.Insecure
verdict_kind (verdict.Pending entries) = kind.Pending
verdict_kind verdict.Bogus = kind.Bogus
verdict_kind verdict.Indeterminate = kind.Indeterminate
