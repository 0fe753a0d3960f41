use Rattle.std.proofs.Common.{subst}
use Rattle.dnsv_chain.specs.Trust.{SecuredIn}
use Rattle.dnsv_denial.specs.gathering.Kept.{AreZones}
use Rattle.dnsv_denial.proofs.view.View.through.Goals as goal

pub of_zones-requires-clause-zones : goal.of_zones-requires-clause-zones
of_zones-requires-clause-zones c =
    subst (λ name. AreZones (SecuredIn c.args.trust.now) c.args.capture.now.rrsets name c.in_ok-zones.zones.items) c.name.ensures
    (c.in_ok-zones.ensures c.args.trust.now c.args.capture.now.rrsets c.requires.denials)
