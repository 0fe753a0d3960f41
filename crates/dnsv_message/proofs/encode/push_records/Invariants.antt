use Rattle.std.proofs.Common.{◌≡◌, ◌++◌, flat_map, take}
use Rattle.dnsv_message.specs.Encoding.{record_octets}
use Rattle.dnsv_message.proofs.encode.push_records.Given as goal

-- some records are written
abbrev pub invariant-loop-resource : goal.invariant-loop-resource
invariant-loop-resource l = l.octets.items ≡ l.fn.octets.items ++ flat_map record_octets (take l.resource-index l.records)
