use Rattle.std.proofs.Common.{take}
use Rattle.std.specs.List.{AllZip}
use Rattle.dnsv_zone_faults.specs.Dnskeys.{AreDnskeyFacts}
use Rattle.dnsv_zone_faults.specs.Dnskeys.DnskeySearch.{basis_in}
use Rattle.dnsv_zone_faults.proofs.zone.dnskeys.dnskey_facts.Given as goal

-- those of the DNSKEY RRsets so far
abbrev pub invariant-loop-number : goal.invariant-loop-number
invariant-loop-number l = AllZip (AreDnskeyFacts (basis_in l.keyed) l.keyed.zone.now) (take l.number-index l.number-items) l.dnskeys.items
