use Rattle.std.proofs.Common.{subst, sym}
use Rattle.dnsv_chain.specs.Basis.{CaseContents, IsCaseOf}
use Rattle.dnsv_holding.specs.SharedWays.{AreHopedWays, AreOfCase}
use Rattle.dnsv_holding.proofs.deriver.Deriver.derive.Goals as goal

pub derive_by-requires-clause-ways : goal.derive_by-requires-clause-ways
derive_by-requires-clause-ways c = rw c.deref.ensures.value c.self.invariant.0

pub derive_by-requires-clause-hoped : goal.derive_by-requires-clause-hoped
derive_by-requires-clause-hoped c = c.self.invariant.1

pub invariant_of-self : goal.invariant_of-self
invariant_of-self c = (
  subst (λ (each : CaseContents). AreOfCase each c.self.inside.ways.items) (sym c.derive_by.ensures.same) c.self.invariant.0,
  subst (λ (each : CaseContents). AreHopedWays each c.derive_by.new.hoped.items) (sym c.derive_by.ensures.same) c.derive_by.ensures.hoped,
)

pub returns-clause-derived : goal.returns-clause-derived
returns-clause-derived c = λ basis same.
    c.derive_by.ensures.derived basis (subst (λ (case : CaseContents). IsCaseOf basis case) (sym c.self.view_is) same)
