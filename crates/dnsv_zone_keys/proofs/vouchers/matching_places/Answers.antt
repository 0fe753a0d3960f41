use Rattle.std.proofs.lemmas.List.Filters.{dedup_is}
use Rattle.dnsv_verifier.proofs.NumberedLemmas.{each_all, each_more}
use Rattle.dnsv_zone_keys.specs.Keys.Index.{Placed}
use Rattle.dnsv_zone_keys.specs.Vouchers.{IsMatchOf}
use Rattle.dnsv_zone_keys.specs.Vouchers.VoucherSearch.{IsPlaceOf, wanted_of}
use Rattle.dnsv_zone_keys.proofs.lemmas.VoucherLemmas.{places_are}
use Rattle.dnsv_zone_keys.proofs.vouchers.matching_places.Goals as goal

pub loop-key-preserved : goal.loop-key-preserved
loop-key-preserved c =
    let wanted = wanted_of c.args.asked in
    each_more (IsPlaceOf (IsMatchOf wanted)) (λ (placed : Placed). IsMatchOf wanted placed.key) c.args.keys.now c.loop-key.key-index c.key-item.result _ _
    c.loop-key-test.true c.key-item.is c.loop-key.invariant c.in_ok-add_match.ensures

pub returns : goal.returns
returns c =
    let wanted = wanted_of c.args.asked in
    places_are c.args.keys.now (IsMatchOf wanted) c.loop-key.places.items _ _
    (each_all (IsPlaceOf (IsMatchOf wanted)) (λ (placed : Placed). IsMatchOf wanted placed.key) c.args.keys.now c.loop-key.key-index _ c.loop-key-test.false
    c.loop-key.invariant)
    c.sort_unstable.ensures.permutation c.sort_unstable.ensures.sorted (dedup_is _ _ _ c.dedup.ensures.filtered)
