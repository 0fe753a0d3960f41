-- The owners of trust anchors.
use Rattle.dnsv_names.specs.Name.{Labels}
use Rattle.dnsv_anchors.specs.declared.anchor.Anchor.{Anchor}
use Rattle.dnsv_anchors.specs.declared.anchor.Anchor.TheVariants.{Ds, Key}

-- the owner of the anchor
abbrev pub anchor_owner : Anchor → Labels
anchor_owner (Ds owner ds) = owner
anchor_owner (Key owner rdata) = owner
