-- the capture, the denials and the hashes are those of the facts
use Rattle.std.proofs.Common.{◌∙◌, ap, subst, sym}
use Rattle.std.specs.Prelude.{IfOk}
use Rattle.dnsv_chain.specs.Basis.{CaseContents}
use Rattle.dnsv_chain.specs.Trust.{SecuredIn}
use Rattle.dnsv_proof_forms.specs.QuestionHashes.{HashedQuestion}
use Rattle.dnsv_denial.specs.gathering.ByZone.{AreDenialRecords}
use Rattle.dnsv_reasons.specs.Failures.{AreFailures, asking_of}
use Rattle.dnsv_explain.proofs.explanation.failure.failing_by.Goals as goal

pub failures-requires-clause-capture : goal.failures-requires-clause-capture
failures-requires-clause-capture c = c.capture.ensures ∙ ap (λ (case : CaseContents). case.rrsets) (sym c.requires.facts)

pub failures-requires-clause-denials : goal.failures-requires-clause-denials
failures-requires-clause-denials c =
    subst (λ (case : CaseContents). AreDenialRecords (SecuredIn case.trust) case.rrsets c.denials.result.now) (sym c.requires.facts) c.denials.ensures

pub failures-requires-clause-hashes : goal.failures-requires-clause-hashes
failures-requires-clause-hashes c =
    let Hashed : CaseContents → HashedQuestion = λ case. record { rrsets = case.rrsets; name = c.args.name.now } in
    c.requires.hashes ∙ ap Hashed (sym c.requires.facts)

pub returns : goal.returns
returns c =
    subst (λ (case : CaseContents). IfOk c.failures.result (λ lines. AreFailures (asking_of case c.args.name.now c.args.rtype.0) lines.items))
    c.requires.facts c.failures.ensures
