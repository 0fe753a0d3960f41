use Rattle.std.proofs.Common.{◌∙◌, List, ap, subst, sym}
use Rattle.dnsv_names.specs.Name.{Labels}
use Rattle.dnsv_canonical.specs.Rrsets.{ReceivedRrset}
use Rattle.dnsv_chain.specs.Trust.{KeptTrust, SecuredIn}
use Rattle.dnsv_proof_forms.specs.QuestionHashes.{HashedQuestion}
use Rattle.dnsv_denial.specs.Viewed.{Viewed}
use Rattle.dnsv_denial.specs.gathering.ByZone.{AreDenialRecords}
use Rattle.dnsv_holding.proofs.at.At.view.Goals as goal

pub through-requires-clause-denials : goal.through-requires-clause-denials
through-requires-clause-denials c =
    let Are : KeptTrust → List ReceivedRrset → Type 0 = λ trust all. AreDenialRecords (SecuredIn trust) all c.denials.result.now in
    subst (λ trust. Are trust c.capture.result.now.rrsets) (sym c.trust.ensures.value)
    (subst (λ all. Are c.args.self.now.case.now.trust all) (sym c.capture.ensures) c.denials.ensures)

pub through-requires-clause-hashes : goal.through-requires-clause-hashes
through-requires-clause-hashes c = ap (λ (each : HashedQuestion). each.rrsets) c.requires ∙ sym c.capture.ensures

pub returns : goal.returns
returns c =
    let case = c.args.self.now.case.now in
    let Its : List ReceivedRrset → KeptTrust → Labels → Viewed = λ all trust name. record { rrsets = all; trust = trust; name = name } in
    c.in_ok-through.ensures
    ∙ ap (λ all. Its all c.trust.result.now c.args.self.now.hashes.now.name) c.capture.ensures
    ∙ ap (λ trust. Its case.rrsets trust c.args.self.now.hashes.now.name) c.trust.ensures.value
    ∙ ap (Its case.rrsets case.trust) (ap (λ (each : HashedQuestion). each.name) c.requires)
