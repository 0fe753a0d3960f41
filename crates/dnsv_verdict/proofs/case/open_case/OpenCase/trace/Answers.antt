-- the case is the one as it was
use Rattle.std.proofs.Common.{subst, sym}
use Rattle.dnsv_chain.specs.Basis.{CaseContents, IsCaseOf, basis_by}
use Rattle.dnsv_verdict.specs.Traced.{IsWayTo}
use Rattle.dnsv_verdict.proofs.case.open_case.OpenCase.trace.Goals as goal

pub returns-clause-trace : goal.returns-clause-trace
returns-clause-trace c = λ basis same.
    c.in_ok-traced.ensures.trace basis (subst (λ (case : CaseContents). IsCaseOf basis case) (sym c.self.view_is) same)

pub returns-clause-by_table : goal.returns-clause-by_table
returns-clause-by_table c = λ basis same.
    subst (λ (case : CaseContents). IsWayTo (basis_by case) c.args.name.now c.args.rtype.0 c.in_ok-traced.traced) c.self.view_is
    (c.in_ok-traced.ensures.by_table basis (subst (λ (case : CaseContents). IsCaseOf basis case) (sym c.self.view_is) same))
