-- the name of the hashes is the name asked for
use Rattle.std.proofs.Common.{◌∙◌, ap, subst}
use Rattle.dnsv_proof_forms.specs.QuestionHashes.{HashedQuestion}
use Rattle.dnsv_chain.specs.Basis.{basis_of}
use Rattle.dnsv_verdict.specs.Verdict.{IsVerdictAt}
use Rattle.dnsv_verdict.proofs.TrailLemmas.{one_name}
use Rattle.dnsv_verdict.proofs.at_name.verdict_at.Goals as goal

pub verdict_by-requires-clause-rrsets : goal.verdict_by-requires-clause-rrsets
verdict_by-requires-clause-rrsets c = ap (λ (each : HashedQuestion). each.rrsets) (c.as_ref.ensures ∙ c.in_ok-hashes.ensures.value)

pub returns-clause-value : goal.returns-clause-value
returns-clause-value c = λ meaning moment table.
    let case = c.args.case.now in
    subst (λ name. IsVerdictAt (basis_of case.rrsets case.anchors moment meaning) name c.args.rtype.0 c.in_ok-verdict.verdict)
    (ap (λ (each : HashedQuestion). each.name) (c.as_ref.ensures ∙ c.in_ok-hashes.ensures.value))
    (c.in_ok-verdict.ensures.value meaning moment table)

pub returns-clause-kept : goal.returns-clause-kept
returns-clause-kept c =
    one_name c.args.case.now c.args.name.now c.args.rtype.0 c.in_ok-verdict.verdict c.as_ref.result.now c.in_ok-hashes.hashes.value _ _ _
    c.as_ref.ensures c.in_ok-hashes.ensures.value c.in_ok-verdict.ensures.kept c.in_ok-add.ensures.added
