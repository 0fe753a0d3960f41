-- RDATA kept by the RRset that it belongs to or covers, while a section is read. No public clause cites this module.
use Rattle.std.specs.Prelude.{ℕ, ◌==◌, ◌&&◌, List, [], map, Vec}
use Rattle.std.specs.Option.{option_map_or}
use Rattle.std.specs.BTreeMap.{BTreeMap}
use Rattle.std.specs.Map.{lookup}
use denote.Ref.{Bor}
use Rattle.dnsv_message.specs.declared.name_ref.by_wire.NameRefByWire.{NameRefByWire}
use Rattle.dnsv_names.specs.declared.number.RecordType.{RecordType}
use Rattle.dnsv_names.specs.Name.{Labels, same_name}

-- the RDATA that is kept for the type and owner, in order: none where nothing is
abbrev pub rdata_at : {Y : Type 0} → BTreeMap (RecordType × NameRefByWire) (Vec (Bor (List ℕ)) Y) → ℕ → Labels → List (List ℕ)
rdata_at by_rrset rtype owner =
    option_map_or (λ rdata. map (λ r. r.now) rdata.items)
    (lookup (λ key. (rtype == key.0.0) && same_name owner key.1.0.now) by_rrset.entries) []
