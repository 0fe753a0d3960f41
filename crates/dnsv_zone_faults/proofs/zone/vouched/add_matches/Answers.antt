use Rattle.std.proofs.Common.{◌++◌, ℕ, List, sym, subst}
use Rattle.std.specs.Prelude.{Contains}
use Rattle.dnsv_verifier.proofs.AskLemmas.{some_all, some_more, some_none}
use Rattle.dnsv_verifier.specs.Asking.{AddsJust}
use Rattle.dnsv_zone_faults.specs.Groups.GroupSearch.{IsMatched}
use Rattle.dnsv_zone_faults.proofs.lemmas.zones.TrustLemmas.{adds_joined}
use Rattle.dnsv_zone_faults.proofs.zone.vouched.add_matches.Goals as goal

pub loop-voucher-init : goal.loop-voucher-init
loop-voucher-init c = some_none IsMatched c.args.vouchers.now _

pub loop-voucher-preserved : goal.loop-voucher-preserved
loop-voucher-preserved c =
    let old = c.loop-voucher.places.items in
    let Adds : List ℕ → Type 0 = λ more. AddsJust (λ (place : ℕ). Contains more place) old (old ++ c.deref.result.now) in
    let added = subst Adds c.deref.ensures.value (adds_joined old c.deref.result.now) in
    some_more IsMatched c.args.vouchers.now c.loop-voucher.voucher-index c.voucher-item.result _ _ _ c.loop-voucher-test.true c.voucher-item.is
    c.loop-voucher.invariant
    (subst (λ (new : List ℕ). AddsJust (IsMatched c.voucher-item.result) old new) (sym c.in_ok-extend_from_slice.ensures.items) added)

pub returns : goal.returns
returns c = some_all IsMatched c.args.vouchers.now c.loop-voucher.voucher-index _ _ c.loop-voucher-test.false c.loop-voucher.invariant
