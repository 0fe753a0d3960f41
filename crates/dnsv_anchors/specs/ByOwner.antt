-- Values that are kept by the owner of their records.
use Rattle.std.specs.Prelude.{List, [], Vec}
use Rattle.std.specs.BTreeMap.{BTreeMap}
use Rattle.std.specs.Map.{lookup}
use Rattle.std.specs.Option.{option_map_or}
use Rattle.dnsv_names.specs.Name.{Labels, same_name}
use Rattle.dnsv_anchors.specs.declared.by_owner.key.OwnerKey.{OwnerKey}

-- the values that are kept for the owner, in order: none where nothing is
abbrev pub values_at : {T Y : Type 0} → BTreeMap OwnerKey (Vec T Y) → Labels → List T
values_at by_owner owner =
    option_map_or (λ values. values.items) (lookup (λ key. same_name owner key.0) by_owner.entries) []
