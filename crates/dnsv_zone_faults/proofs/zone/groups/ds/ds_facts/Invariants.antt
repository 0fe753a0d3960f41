use Rattle.std.proofs.Common.{take}
use Rattle.std.specs.List.{AllZip}
use Rattle.dnsv_chain.specs.Basis.{basis_by}
use Rattle.dnsv_zone_faults.specs.Groups.{AreDsFacts}
use Rattle.dnsv_zone_faults.proofs.zone.groups.ds.ds_facts.Given as goal

-- those of the DS RRsets so far
abbrev pub invariant-loop-number : goal.invariant-loop-number
invariant-loop-number l = AllZip (AreDsFacts (basis_by l.facts) l.zone) (take l.number-index l.number-items) l.ds.items
