use Rattle.std.proofs.Common.{◌≡◌, take}
use Rattle.dnsv_mending.specs.declared.facts.keys.HeldKey.{HeldKey}
use Rattle.dnsv_verifier.specs.Asking.{AddsJust, ComesOfSome}
use Rattle.dnsv_zone_faults.specs.Zones.HolderSearch.{holding_of}
use Rattle.dnsv_zone_faults.specs.declared.zone.holders.Holding.{Holding}
use Rattle.dnsv_zone_faults.proofs.zone.holders.add_holdings.Given as goal

-- the keys so far
abbrev pub invariant-loop-held : goal.invariant-loop-held
invariant-loop-held l =
    AddsJust (ComesOfSome (λ (held : HeldKey) (holding : Holding). holding ≡ holding_of l.holder l.dnskey.is_trusted held) (take l.held-index l.held-items))
    l.initial.holdings.items l.holdings.items
