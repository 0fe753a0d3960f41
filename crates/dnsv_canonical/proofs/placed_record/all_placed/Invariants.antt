use Rattle.std.proofs.Common.{◌≡◌, take}
use Rattle.dnsv_canonical.proofs.placed_record.all_placed.Given as goal

-- some records are taken
abbrev pub invariant-loop-resource : goal.invariant-loop-resource
invariant-loop-resource l = l.all.items ≡ take l.resource-index l.records
