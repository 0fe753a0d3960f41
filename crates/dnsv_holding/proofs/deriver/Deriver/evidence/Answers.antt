use Rattle.std.proofs.Common.{[], ap, subst, sym, ◌∙◌}
use Rattle.dnsv_chain.specs.Basis.{CaseContents}
use Rattle.dnsv_derivations.specs.Explained.{Explained, setting_in}
use Rattle.dnsv_derivations.specs.derivations.WaySearch.{AreFirstWays}
use Rattle.dnsv_holding.specs.Explained.{explained_by}
use Rattle.dnsv_holding.proofs.deriver.Deriver.evidence.Goals as goal

pub with_ways-requires : goal.with_ways-requires
with_ways-requires c =
    let ways = c.self.inside.ways.items in
    let same = c.evidence_of-bare.ensures ∙ ap (λ (each : CaseContents). explained_by each []) c.case.ensures in
    let kept = subst (λ (each : Explained). AreFirstWays (setting_in each) ways) (sym same) c.self.invariant.0.ways in
    subst (AreFirstWays (setting_in c.evidence_of-bare.result)) (sym c.deref.ensures.value) kept

pub returns : goal.returns
returns c =
    c.with_ways.ensures ∙ c.evidence_of-bare.ensures ∙ ap (λ (each : CaseContents). explained_by each []) (c.case.ensures ∙ c.self.view_is)
