-- How a way ends. No public clause cites this module.
use Rattle.std.specs.Prelude.{ℕ, List}
use Rattle.dnsv_names.specs.Name.{Labels}
use Rattle.dnsv_chain.specs.Basis.{Basis}
use Rattle.dnsv_verdict.specs.Way.{IsStoppedAt, IsVerdictOf}
use Rattle.dnsv_verdict.specs.declared.link.Link.{Link}
use Rattle.dnsv_verdict.specs.declared.verdict.Verdict.{Verdict}
use Rattle.dnsv_verdict.specs.declared.verdict.Verdict.TheVariants.{SecureAlias}
use Rattle.dnsv_verdict.specs.declared.way.End.{End}
use Rattle.dnsv_verdict.specs.declared.way.End.TheVariants.{Reached, Blocked}

-- the verdict at the last name, which is an alias where the way can't go on
abbrev pub verdict_at_end : End → Verdict
verdict_at_end (Reached verdict) = verdict
verdict_at_end (Blocked alias error) = SecureAlias alias.0 alias.1

-- the way of the question ends so, behind these links
abbrev pub IsEndOf : Basis → Labels → ℕ → List Link → Labels → End → Type 0
IsEndOf basis name t links last (Reached verdict) = IsVerdictOf basis name t links last verdict
IsEndOf basis name t links last (Blocked alias error) =
    IsStoppedAt basis name t links (record { name = last; rrset = alias.0; signature = alias.1 }) error
