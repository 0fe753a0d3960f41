use Rattle.dnsv_chain.specs.Basis.{basis_by}
use Rattle.dnsv_zone_faults.proofs.lemmas.zones.ZoneLemmas.{AreZonesTo}
use Rattle.dnsv_zone_faults.proofs.zone.zone_facts.Given as goal

-- those so far
abbrev pub invariant-loop-labels : goal.invariant-loop-labels
invariant-loop-labels l = AreZonesTo (basis_by l.facts) l.name l.fn.rtype.0 l.labels l.zones.items
