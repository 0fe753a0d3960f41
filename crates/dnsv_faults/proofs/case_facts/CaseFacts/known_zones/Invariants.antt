use Rattle.dnsv_chain.specs.Basis.{basis_by}
use Rattle.dnsv_faults.specs.KnownZones.KnownSearch.{AreKnownTo}
use Rattle.dnsv_faults.proofs.case_facts.CaseFacts.known_zones.Given as goal

-- those so far
abbrev pub invariant-loop-labels : goal.invariant-loop-labels
invariant-loop-labels l = AreKnownTo (basis_by l.self) l.name l.rtype.0 l.labels l.known.items
