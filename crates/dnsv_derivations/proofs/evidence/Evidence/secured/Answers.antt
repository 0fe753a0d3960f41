use Rattle.std.proofs.Common.{List, ℕ, subst, sym}
use Rattle.dnsv_canonical.specs.Rrsets.{ReceivedRrset}
use Rattle.dnsv_verifier.specs.Table.{TableContents, table_answer}
use Rattle.dnsv_chain.specs.Trust.{AreSecured}
use Rattle.dnsv_anchors.specs.declared.anchor.Anchor.{Anchor}
use Rattle.dnsv_derivations.specs.Explained.{Explained}
use Rattle.dnsv_derivations.proofs.evidence.Evidence.secured.Goals as goal

pub returns : goal.returns
returns c =
    let Are : TableContents → List ReceivedRrset → List Anchor → List ℕ → Type 0 =
    λ table rrsets anchors numbers. AreSecured (table_answer table) table.moment rrsets anchors c.args.rrset numbers in
    let Of : Explained → Type 0 = λ all. Are all.table all.rrsets all.anchors c.signed.result.now in
    subst Of c.self.view_is (subst (Are c.self.inside.table.now c.self.inside.capture.now.rrsets c.self.inside.anchors.now) (sym c.signed.ensures) (c.self.invariant.trust.signed c.args.rrset))
