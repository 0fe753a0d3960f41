use Rattle.std.proofs.Common.{◌∙◌, ap, map}
use Rattle.std.proofs.lemmas.List.{take_all}
use Rattle.std.proofs.lemmas.List.Filters.{dedup_is}
use Rattle.dnsv_zone_faults.specs.declared.zone.holders.Holding.{Holding}
use Rattle.dnsv_zone_faults.proofs.lemmas.zones.HolderLemmas.{holders_are}
use Rattle.dnsv_zone_faults.proofs.zone.holders.holders_of.Goals as goal

pub returns : goal.returns
returns c =
    holders_are c.args.own.now c.loop-each.holders.items _ _
    (c.loop-each.invariant ∙ ap (map (λ (each : Holding). each.holder)) (take_all c.loop-each.each-index c.args.own.now c.loop-each-test.false))
    c.sort_unstable.ensures.permutation c.sort_unstable.ensures.sorted (dedup_is _ _ _ c.dedup.ensures.filtered)
