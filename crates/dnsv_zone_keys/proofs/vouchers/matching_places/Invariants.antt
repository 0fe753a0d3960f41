use Rattle.std.proofs.Common.{take}
use Rattle.dnsv_verifier.specs.Asking.{GivesEach}
use Rattle.dnsv_zone_keys.specs.Keys.Index.{Placed}
use Rattle.dnsv_zone_keys.specs.Vouchers.{IsMatchOf}
use Rattle.dnsv_zone_keys.specs.Vouchers.VoucherSearch.{IsPlaceOf, wanted_of}
use Rattle.dnsv_zone_keys.proofs.vouchers.matching_places.Given as goal

-- those of the keys so far
abbrev pub invariant-loop-key : goal.invariant-loop-key
invariant-loop-key l =
    GivesEach (IsPlaceOf (IsMatchOf (wanted_of l.asked))) (λ (placed : Placed). IsMatchOf (wanted_of l.asked) placed.key) (take l.key-index l.keys)
    l.places.items
