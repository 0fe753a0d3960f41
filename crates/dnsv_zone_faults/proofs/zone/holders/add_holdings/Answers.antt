use Rattle.std.proofs.Common.{◌≡◌, List, refl, sym, subst}
use Rattle.dnsv_mending.specs.declared.facts.keys.HeldKey.{HeldKey}
use Rattle.dnsv_verifier.specs.Asking.{AddsJust, ComesOfSome}
use Rattle.dnsv_verifier.proofs.AskLemmas.{adds_one, some_all, some_more, some_none}
use Rattle.dnsv_zone_faults.specs.Zones.HolderSearch.{holding_of}
use Rattle.dnsv_zone_faults.specs.declared.zone.holders.Holding.{Holding}
use Rattle.dnsv_zone_faults.proofs.zone.holders.add_holdings.Goals as goal

pub loop-held-init : goal.loop-held-init
loop-held-init c =
    some_none (λ (held : HeldKey) (holding : Holding). holding ≡ holding_of c.args.holder c.args.dnskey.now.is_trusted held)
    c.deref-held-items.result.now _

pub loop-held-preserved : goal.loop-held-preserved
loop-held-preserved c =
    let holding = holding_of c.args.holder c.args.dnskey.now.is_trusted c.held-item.result in
    some_more (λ (held : HeldKey) (each : Holding). each ≡ holding_of c.args.holder c.args.dnskey.now.is_trusted held)
    c.deref-held-items.result.now c.loop-held.held-index c.held-item.result _ c.loop-held.holdings.items _ c.loop-held-test.true c.held-item.is c.loop-held.invariant
    (subst (λ (new : List Holding). AddsJust (λ (each : Holding). each ≡ holding) c.loop-held.holdings.items new) (sym c.in_ok-push.ensures.items)
    (adds_one (λ (each : Holding). each ≡ holding) c.loop-held.holdings.items holding refl (λ each same. same)))

pub returns : goal.returns
returns c =
    let Adds : List HeldKey → Type 0 =
    λ keys. AddsJust (ComesOfSome (λ (held : HeldKey) (holding : Holding). holding ≡ holding_of c.args.holder c.args.dnskey.now.is_trusted held) keys)
    c.args.holdings.now.items c.loop-held.holdings.items in
    subst Adds c.deref-held-items.ensures.value
    (some_all (λ (held : HeldKey) (holding : Holding). holding ≡ holding_of c.args.holder c.args.dnskey.now.is_trusted held)
    c.deref-held-items.result.now c.loop-held.held-index _ _ c.loop-held-test.false c.loop-held.invariant)
