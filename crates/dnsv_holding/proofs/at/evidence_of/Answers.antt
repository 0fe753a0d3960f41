-- the parts are those of the case
use Rattle.std.proofs.Common.{◌∙◌, List, ap, subst, sym}
use Rattle.std.specs.Option.{option_map_or}
use Rattle.std.specs.Prelude.{[]}
use Rattle.dnsv_canonical.specs.Rrsets.{ReceivedRrset}
use Rattle.dnsv_verifier.specs.Table.{TableContents, table_answer}
use Rattle.dnsv_chain.specs.Trust.{IsTrustOf, KeptTrust}
use Rattle.dnsv_anchors.specs.declared.anchor.Anchor.{Anchor}
use Rattle.dnsv_derivations.specs.Explained.{Explained}
use Rattle.dnsv_holding.proofs.at.evidence_of.Goals as goal

pub new-requires : goal.new-requires
new-requires c =
    let case = c.args.case.now in
    let Of : TableContents → List ReceivedRrset → List Anchor → KeptTrust → Type 0 =
    λ table rrsets anchors trust. IsTrustOf (table_answer table) table.moment rrsets anchors trust in
    subst (λ table. Of table c.capture.result.now.rrsets c.anchors.result.now c.trust.result.now) (sym c.table.ensures)
    (subst (λ all. Of case.table all c.anchors.result.now c.trust.result.now) (sym c.capture.ensures)
    (subst (λ all. Of case.table case.rrsets all c.trust.result.now) (sym c.anchors.ensures)
    (subst (λ trust. Of case.table case.rrsets case.anchors trust) (sym c.trust.ensures.value) c.trust.ensures.of)))

pub returns : goal.returns
returns c =
    let case = c.args.case.now in
    let Its : List ReceivedRrset → List Anchor → TableContents → Explained = λ rrsets anchors table. record {
      rrsets = rrsets;
      anchors = anchors;
      table = table;
      todo = option_map_or (λ entries. entries.now) c.args.todo [];
    } in
    c.new.ensures
    ∙ ap (λ all. Its all c.anchors.result.now c.table.result.now) c.capture.ensures
    ∙ ap (λ all. Its case.rrsets all c.table.result.now) c.anchors.ensures
    ∙ ap (λ table. Its case.rrsets case.anchors table) c.table.ensures
