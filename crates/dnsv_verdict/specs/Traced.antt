-- What a question of a case leads to, the verdict or an alias that can't be followed, and what is kept with it.
use Rattle.std.specs.Prelude.{◌≡◌, ℕ, [], List, None, map}
use Rattle.dnsv_names.specs.Name.{Labels}
use Rattle.dnsv_proof_forms.specs.QuestionHashes.{HashedQuestion}
use Rattle.dnsv_chain.specs.Basis.{CaseContents, Basis}
use Rattle.dnsv_verdict.specs.Report.{IsKept, IsReport, hashed_in, hashes_in}
use Rattle.dnsv_verdict.specs.Way.{IsStoppedAt, IsVerdictOf, names_on}
use Rattle.dnsv_verdict.specs.declared.traced.StoppedWay.{StoppedWay}
use Rattle.dnsv_verdict.specs.declared.traced.Traced.{Traced}
use Rattle.dnsv_verdict.specs.declared.traced.Traced.TheVariants.{Reached, Stopped}

-- the question leads to this: the report on it, or the alias that its way stops at
abbrev pub IsTrace : Basis → Labels → ℕ → Traced → Type 0
IsTrace basis name t (Reached judged) = IsReport basis name t judged.report
IsTrace basis name t (Stopped stopped) = IsStoppedAt basis name t stopped.links stopped.alias stopped.error

-- the way of the question leads to this: the verdict on it, or that alias
abbrev pub IsWayTo : Basis → Labels → ℕ → Traced → Type 0
IsWayTo basis name t (Reached judged) =
    IsVerdictOf basis name t judged.report.links judged.report.last judged.report.verdict
IsWayTo basis name t (Stopped stopped) = IsStoppedAt basis name t stopped.links stopped.alias stopped.error

-- the hashes that are kept with a way that stops, whoever else has a share of them
abbrev pub hashes_on_way : StoppedWay → List HashedQuestion
hashes_on_way stopped = map (λ hashes. hashes.value) stopped.hashes.items

-- what is kept with a verdict, or the hashes for the names of the links and of the alias that the way stops at
abbrev pub IsKeptWith : CaseContents → ℕ → Traced → Type 0
IsKeptWith case t (Reached judged) =
    IsKept case t judged.report.links judged.report.last judged.report.verdict (hashes_in judged) judged.hope
IsKeptWith case t (Stopped stopped) =
    hashes_on_way stopped ≡ map (hashed_in case.rrsets) (names_on stopped.links stopped.alias.name)

-- nothing is kept
abbrev pub IsBare : Traced → Type 0
IsBare (Reached judged) = (judged.hashes.items ≡ []) × (judged.hope ≡ None)
IsBare (Stopped stopped) = stopped.hashes.items ≡ []
