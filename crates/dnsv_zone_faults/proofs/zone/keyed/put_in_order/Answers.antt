use Rattle.std.proofs.Common.{rules}
use Rattle.std.proofs.lemmas.Cmp.{nat_list_cmp_total}
use Rattle.std.proofs.lemmas.Fn.{always_returns_same}
use Rattle.std.proofs.lemmas.List.Sorted.{ranks_by}
use Rattle.std.specs.Ordering.{is_lt}
use Rattle.dnsv_canonical.specs.Canonical.{rdata_cmp}
use Rattle.dnsv_zone_faults.specs.Dnskeys.DnskeySearch.{rdata_of}
use Rattle.dnsv_zone_faults.proofs.zone.keyed.put_in_order.Goals as goal

pub returns-clause-sorted : goal.returns-clause-sorted
returns-clause-sorted c =
    c.sort_unstable_by.ensures.sorted (λ x y. is_lt (rdata_cmp (rdata_of x) (rdata_of y))) (ranks_by nat_list_cmp_total rdata_of)
    (always_returns_same _ _ _ (λ a r f called. search rules))
