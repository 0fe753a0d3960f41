use Rattle.std.proofs.Common.{◌≡◌, ◌++◌, ◌∷◌, [], if◌then◌else◌, subst}
use Rattle.dnsv_names.specs.Name.{Labels, same_name}
use Rattle.dnsv_anchors.specs.ByOwner.{values_at}
use Rattle.dnsv_anchors.proofs.by_owner.add.Goals as goal

pub returns : goal.returns
returns g c = rw (← c.of.ensures) c.add_at.ensures
