-- the capture and the trust are those of the case
use Rattle.std.proofs.Common.{◌∙◌, List, subst, sym}
use Rattle.std.specs.Prelude.{MatchOption}
use Rattle.dnsv_canonical.specs.Rrsets.{ReceivedRrset}
use Rattle.dnsv_chain.specs.Trust.{KeptTrust, SecuredIn}
use Rattle.dnsv_denial.specs.Viewed.{Viewed}
use Rattle.dnsv_denial.specs.gathering.ByZone.{AreDenialRecords}
use Rattle.dnsv_verdict.specs.Settled.{IsSettled, IsSettledAs}
use Rattle.dnsv_verdict.proofs.at_name.settled_on.Goals as goal

pub through-requires-clause-denials : goal.through-requires-clause-denials
through-requires-clause-denials c =
    let Are : KeptTrust → List ReceivedRrset → Type 0 = λ trust all. AreDenialRecords (SecuredIn trust) all c.denials.result.now in
    subst (λ trust. Are trust c.capture-capture.result.now.rrsets) (sym c.trust-trust.ensures.value)
    (subst (λ all. Are c.args.case.now.trust all) (sym c.capture-capture.ensures) c.denials.ensures)

pub through-requires-clause-hashes : goal.through-requires-clause-hashes
through-requires-clause-hashes c = c.requires ∙ sym c.capture-capture.ensures

pub returns : goal.returns
returns c =
    let Is : Viewed → Type 0 =
    λ view. MatchOption c.settled.result (¬ IsSettled (SecuredIn view.trust) view.rrsets view.name c.args.rtype.0)
    (IsSettledAs (SecuredIn view.trust) view.rrsets view.name c.args.rtype.0) in
    let Its : List ReceivedRrset → KeptTrust → Viewed = λ all trust. record { rrsets = all; trust = trust; name = c.args.hashes.now.name } in
    subst (λ trust. Is (Its c.args.case.now.rrsets trust)) c.trust-trust.ensures.value
    (subst (λ all. Is (Its all c.trust-trust.result.now)) c.capture-capture.ensures
    (subst Is c.in_ok-view.ensures c.settled.ensures))
