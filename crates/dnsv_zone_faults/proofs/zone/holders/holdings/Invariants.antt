use Rattle.std.proofs.Common.{[]}
use Rattle.dnsv_verifier.specs.Asking.{AddsJust}
use Rattle.dnsv_zone_faults.proofs.lemmas.zones.HolderLemmas.{IsHoldingTo}
use Rattle.dnsv_zone_faults.proofs.zone.holders.holdings.Given as goal

-- what the RRsets so far hold
abbrev pub invariant-loop-holder : goal.invariant-loop-holder
invariant-loop-holder l = AddsJust (IsHoldingTo l.dnskeys l.holder) [] l.holdings.items
