-- the facts are those of the case
use Rattle.std.proofs.Common.{◌≡◌, ◌∙◌, List, ap, subst, sym}
use Rattle.dnsv_canonical.specs.Rrsets.{ReceivedRrset}
use Rattle.dnsv_verifier.specs.Table.{TableContents, table_answer}
use Rattle.dnsv_chain.specs.Basis.{CaseContents}
use Rattle.dnsv_chain.specs.Trust.{IsTrustOf, KeptTrust}
use Rattle.dnsv_anchors.specs.declared.anchor.Anchor.{Anchor}
use Rattle.dnsv_explain.proofs.explanation.failure.failing.Goals as goal

its : (case facts : CaseContents) (rrsets : List ReceivedRrset) (anchors : List Anchor) (table : TableContents) (trust : KeptTrust)
    → facts ≡ record { rrsets = rrsets; anchors = anchors; table = table; trust = trust }
    → rrsets ≡ case.rrsets → anchors ≡ case.anchors → table ≡ case.table → trust ≡ case.trust → facts ≡ case
its case facts rrsets anchors table trust are all given answers kept =
    let Its : List ReceivedRrset → List Anchor → TableContents → KeptTrust → CaseContents =
    λ rrsets anchors table trust. record { rrsets = rrsets; anchors = anchors; table = table; trust = trust } in
    are ∙ ap (λ each. Its each anchors table trust) all ∙ ap (λ each. Its case.rrsets each table trust) given
    ∙ ap (λ each. Its case.rrsets case.anchors each trust) answers ∙ ap (Its case.rrsets case.anchors case.table) kept

pub of-requires : goal.of-requires
of-requires c =
    let case = c.args.at.now.case.now in
    let Of : TableContents → List ReceivedRrset → List Anchor → KeptTrust → Type 0 =
    λ table rrsets anchors trust. IsTrustOf (table_answer table) table.moment rrsets anchors trust in
    subst (λ table. Of table c.capture.result.now.rrsets c.anchors.result.now c.trust.result.now) (sym c.table.ensures)
    (subst (λ all. Of case.table all c.anchors.result.now c.trust.result.now) (sym c.capture.ensures)
    (subst (λ all. Of case.table case.rrsets all c.trust.result.now) (sym c.anchors.ensures)
    (subst (λ trust. Of case.table case.rrsets case.anchors trust) (sym c.trust.ensures.value) c.trust.ensures.of)))

pub failing_by-requires-clause-facts : goal.failing_by-requires-clause-facts
failing_by-requires-clause-facts c =
    its c.args.at.now.case.now _ _ _ _ _ c.in_ok-facts.ensures c.capture.ensures c.anchors.ensures c.table.ensures c.trust.ensures.value
