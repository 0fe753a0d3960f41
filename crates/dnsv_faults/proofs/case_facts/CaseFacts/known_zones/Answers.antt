use Rattle.std.proofs.Common.{Bool, List, subst, sym, ◌+◌}
use Rattle.dnsv_chain.specs.Basis.{basis_by}
use Rattle.dnsv_faults.specs.KnownZones.KnownSearch.{AreKnownTo}
use Rattle.dnsv_faults.proofs.lemmas.KnownLemmas.{more_known}
use Rattle.dnsv_faults.proofs.case_facts.CaseFacts.known_zones.Goals as goal

pub loop-labels-preserved : goal.loop-labels-preserved
loop-labels-preserved c =
    subst (λ (known : List Bool). AreKnownTo (basis_by c.args.self.now) c.args.name.now c.args.rtype.0 (c.loop-labels.labels + 1) known)
    (sym c.in_ok-push.ensures.items)
    (more_known (basis_by c.args.self.now) c.args.name.now c.args.rtype.0 c.loop-labels.labels c.loop-labels.known.items c.is_known.result
    c.loop-labels.invariant c.is_known.ensures)
