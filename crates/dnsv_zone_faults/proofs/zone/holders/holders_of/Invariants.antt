use Rattle.std.proofs.Common.{◌≡◌, map, take}
use Rattle.dnsv_zone_faults.specs.declared.zone.holders.Holding.{Holding}
use Rattle.dnsv_zone_faults.proofs.zone.holders.holders_of.Given as goal

-- those so far
abbrev pub invariant-loop-each : goal.invariant-loop-each
invariant-loop-each l = l.holders.items ≡ map (λ (each : Holding). each.holder) (take l.each-index l.own)
