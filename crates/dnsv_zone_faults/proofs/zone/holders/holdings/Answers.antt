use Rattle.std.proofs.Common.{rules, sym, subst, List, []}
use Rattle.std.proofs.lemmas.Cmp.{nat_cmp_total}
use Rattle.std.proofs.lemmas.Fn.{always_returns_same}
use Rattle.std.proofs.lemmas.List.Sorted.{ranks_by}
use Rattle.std.specs.Ordering.{is_lt, nat_cmp}
use Rattle.dnsv_verifier.specs.Asking.{AddsJust}
use Rattle.dnsv_zone_faults.specs.Zones.HolderSearch.{key_of}
use Rattle.dnsv_zone_faults.specs.declared.zone.holders.Holding.{Holding}
use Rattle.dnsv_zone_faults.proofs.lemmas.zones.HolderLemmas.{IsHoldingTo, holdings_are, more_held, none_held}
use Rattle.dnsv_zone_faults.proofs.zone.holders.holdings.Goals as goal

pub loop-holder-init : goal.loop-holder-init
loop-holder-init c =
    subst (λ (found : List Holding). AddsJust (IsHoldingTo c.args.dnskeys.now 0) [] found) (sym c.new-holdings.ensures.items)
    (none_held c.args.dnskeys.now [])

pub loop-holder-preserved : goal.loop-holder-preserved
loop-holder-preserved c =
    more_held c.args.dnskeys.now c.loop-holder.holder c.index-dnskeys-holder.result [] _ _ c.loop-holder-test.true c.index-dnskeys-holder.is
    c.loop-holder.invariant c.in_ok-add_holdings.ensures

pub returns : goal.returns
returns c =
    holdings_are c.args.dnskeys.now c.loop-holder.holder c.loop-holder.holdings.items _ c.loop-holder-test.false c.loop-holder.invariant
    c.sort_unstable_by.ensures.permutation
    (c.sort_unstable_by.ensures.sorted (λ x y. is_lt (nat_cmp (key_of x) (key_of y))) (ranks_by nat_cmp_total key_of)
    (always_returns_same _ _ _ (λ a r f called. search rules)))
