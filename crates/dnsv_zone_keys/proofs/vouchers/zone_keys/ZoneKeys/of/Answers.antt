use Rattle.std.proofs.Common.{rules}
use Rattle.std.proofs.lemmas.Cmp.{nat_cmp_total}
use Rattle.std.proofs.lemmas.Fn.{always_returns_same}
use Rattle.std.proofs.lemmas.List.Sorted.{ranks_by}
use Rattle.std.specs.Ordering.{is_lt, nat_cmp}
use Rattle.dnsv_zone_keys.specs.Vouchers.VoucherSearch.{tag_of}
use Rattle.dnsv_zone_keys.proofs.lemmas.VoucherLemmas.{zone_keys_moved}
use Rattle.dnsv_zone_keys.proofs.vouchers.zone_keys.ZoneKeys.of.Goals as goal

pub invariant_of-result : goal.invariant_of-result
invariant_of-result c =
    c.sort_unstable_by.ensures.sorted (λ x y. is_lt (nat_cmp (tag_of x) (tag_of y))) (ranks_by nat_cmp_total tag_of) (always_returns_same _ _ _ (λ a r f called. search rules))

pub returns : goal.returns
returns c =
    zone_keys_moved c.args.capture.now.rrsets c.args.zone.now c.in_ok-placed.placed.items c.in_ok-keys.keys.items _ c.in_ok-placed.ensures
    c.in_ok-keys.ensures c.sort_unstable_by.ensures.permutation
