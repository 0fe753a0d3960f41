-- the zones so far
use Rattle.dnsv_chain.specs.Trust.{SecuredIn}
use Rattle.dnsv_denial.proofs.lemmas.gathering.GatherZoneLemmas.{AreZonesTo}
use Rattle.dnsv_denial.proofs.gathering.zones.own_zones.Given as goal

abbrev pub invariant-loop-count : goal.invariant-loop-count
invariant-loop-count l = AreZonesTo (SecuredIn l.trust) l.capture.rrsets l.name l.count l.zones.items
