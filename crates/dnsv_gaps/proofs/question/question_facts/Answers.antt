-- the trust of the facts and the denials are those that the view looks through
use Rattle.std.proofs.Common.{Bool, List, ap, subst, sym, ◌∙◌}
use Rattle.dnsv_names.specs.Name.{Labels}
use Rattle.dnsv_canonical.specs.Rrsets.{ReceivedRrset}
use Rattle.dnsv_chain.specs.Basis.{basis_by}
use Rattle.dnsv_chain.specs.Trust.{KeptTrust, SecuredIn}
use Rattle.dnsv_proof_forms.specs.QuestionHashes.{HashedQuestion}
use Rattle.dnsv_denial.specs.Viewed.{Viewed}
use Rattle.dnsv_denial.specs.gathering.ByZone.{AreDenialRecords}
use Rattle.dnsv_faults.specs.KnownZones.{AreKnownZones}
use Rattle.dnsv_gaps.proofs.question.question_facts.Goals as goal

pub through-requires-clause-denials : goal.through-requires-clause-denials
through-requires-clause-denials c =
    let Are : KeptTrust → List ReceivedRrset → Type 0 = λ trust all. AreDenialRecords (SecuredIn trust) all c.args.denials.now in
    subst (λ trust. Are trust c.args.capture.now.rrsets) (sym c.trust.ensures.value)
    (subst (λ all. Are c.args.facts.now.trust all) (sym c.requires.capture) c.requires.denials)

pub through-requires-clause-hashes : goal.through-requires-clause-hashes
through-requires-clause-hashes c = ap (λ (each : HashedQuestion). each.rrsets) c.requires.hashes ∙ sym c.requires.capture

pub facts_of-requires-clause-asked : goal.facts_of-requires-clause-asked
facts_of-requires-clause-asked c = record {
  known = subst (λ (known : List Bool). AreKnownZones (basis_by c.args.facts.now) c.args.name.now c.args.rtype.0 known)
      (sym c.deref.ensures.value) c.in_ok-known.ensures;
  hashes = c.requires.hashes;
}

pub facts_of-requires-clause-view : goal.facts_of-requires-clause-view
facts_of-requires-clause-view c =
    let case = c.args.facts.now in
    let hashes = c.args.hashes.now in
    let Its : List ReceivedRrset → KeptTrust → Labels → Viewed = λ all trust name. record { rrsets = all; trust = trust; name = name } in
    record {
      is = c.in_ok-view.ensures
          ∙ ap (λ all. Its all c.trust.result.now hashes.name) c.requires.capture
          ∙ ap (λ trust. Its case.rrsets trust hashes.name) c.trust.ensures.value
          ∙ ap (Its case.rrsets case.trust) (ap (λ (each : HashedQuestion). each.name) c.requires.hashes);
      trust = c.trust.ensures.of;
    }
