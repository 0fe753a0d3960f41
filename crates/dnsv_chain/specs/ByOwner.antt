-- RRsets that are kept by their owner. No public clause cites this module.
use Rattle.std.specs.Prelude.{List, Vec, map}
use Rattle.std.specs.BTreeMap.{BTreeMap}
use denote.Ref.{Bor}
use Rattle.dnsv_names.specs.Name.{Labels}
use Rattle.dnsv_anchors.specs.ByOwner.{values_at}
use Rattle.dnsv_anchors.specs.declared.by_owner.key.OwnerKey.{OwnerKey}
use Rattle.dnsv_canonical.specs.Rrsets.{ReceivedRrset}

-- RRsets that are kept by owner and lie elsewhere
abbrev pub rrsets_at : {Y : Type 0} → BTreeMap OwnerKey (Vec (Bor ReceivedRrset) Y) → Labels → List ReceivedRrset
rrsets_at by_owner owner = map (λ rrset. rrset.now) (values_at by_owner owner)
