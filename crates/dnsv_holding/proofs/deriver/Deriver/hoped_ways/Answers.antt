use Rattle.std.proofs.Common.{subst, sym}
use Rattle.dnsv_chain.specs.Basis.{CaseContents}
use Rattle.dnsv_derivations.specs.declared.derivations.ways.kept.KeptWay.{KeptWay}
use Rattle.std.specs.Prelude.{List}
use Rattle.dnsv_holding.specs.SharedWays.{AreHopedWays}
use Rattle.dnsv_holding.proofs.deriver.Deriver.hoped_ways.Goals as goal

pub returns : goal.returns
returns c =
    subst (λ (each : CaseContents). AreHopedWays each c.deref.result.now) c.self.view_is
    (subst (λ (ways : List KeptWay). AreHopedWays c.self.inside.open_case ways) (sym c.deref.ensures.value) c.self.invariant.1)
