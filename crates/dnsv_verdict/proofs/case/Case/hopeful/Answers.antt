use Rattle.std.proofs.Common.{subst}
use Rattle.dnsv_verifier.specs.Table.{TableContents, hopeful}
use Rattle.dnsv_chain.specs.Basis.{CaseContents, IsCaseWith}
use Rattle.dnsv_verdict.proofs.case.Case.hopeful.Goals as goal

pub returns : goal.returns
returns c =
    subst (λ (case : CaseContents). IsCaseWith case.rrsets case.anchors (hopeful case.table) c.in_ok-case.case) c.self.view_is
    (subst (λ (table : TableContents). IsCaseWith table.rrsets c.self.inside.anchors.now table c.in_ok-case.case) c.in_ok-table.ensures c.in_ok-case.ensures.of)
