use Rattle.std.proofs.Common.{◌∙◌, ap, sym}
use Rattle.dnsv_holding.proofs.lemmas.marks.HopedWayLemmas.{no_hoped_ways}
use Rattle.dnsv_chain.specs.Basis.{CaseContents}
use Rattle.dnsv_holding.proofs.deriver.Deriver.with_case.Goals as goal

pub with_case-open_case-requires : goal.with_case-open_case-requires
with_case-open_case-requires c = c.requires.evidence ∙ sym (ap (λ (case : CaseContents). case.rrsets) c.self.view_is)

pub invariant_of-result : goal.invariant_of-result
invariant_of-result c = rw c.with_case-open_case.ensures (
  record { basis = c.requires.case.0; of = c.requires.case.1; ways = c.in_ok-ways.ensures.ways },
  no_hoped_ways c.args.case c.new.result.items c.new.ensures.items,
)
