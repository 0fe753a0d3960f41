use Rattle.std.proofs.Common.{List, take, sym, ◌∙◌, subst, rules, true, false, ◌≡◌}
use Rattle.std.proofs.lemmas.Fn.{always_returns_same}
use Rattle.std.proofs.lemmas.List.{take_rest}
use Rattle.std.specs.List.{Contains}
use Rattle.std.specs.List.Sorted.{IsPartitionedBy, IsPartitionPoint, IsSortedByKey}
use Rattle.std.specs.Ordering.{nat_cmp}
use Rattle.std.specs.Prelude.{nat_le, nat_lt}
use Rattle.dnsv_zone_keys.specs.Keys.Index.{Placed}
use Rattle.dnsv_zone_keys.specs.Vouchers.VoucherSearch.{tag_of}
use Rattle.dnsv_zone_keys.proofs.lemmas.TagLemmas.{le_parts, lt_parts, tagged_all}
use Rattle.dnsv_zone_keys.proofs.vouchers.zone_keys.ZoneKeys.tagged.Goals as goal

pub returns-clause-all : goal.returns-clause-all
returns-clause-all c = λ placed found its.
    let tag = c.args.tag.0 in
    let keys_are : c.as_slice-keys.result.now ≡ c.args.self.now = c.as_slice-keys.ensures.value ∙ c.self.view_is in
    let rest = take_rest c.as_slice-keys.result.now c.partition_point-start.result in
    let sorted : IsSortedByKey tag_of nat_cmp c.as_slice-keys.result.now =
    subst (λ (ks : List Placed). IsSortedByKey tag_of nat_cmp ks) (sym c.as_slice-keys.ensures.value) c.self.invariant in
    let from = c.partition_point-start.ensures.partitioned (λ each. nat_lt (tag_of each) tag) (always_returns_same _ _ _ (λ a r f called. search rules)) (lt_parts tag_of c.as_slice-keys.result.now sorted tag) in
    let parts = subst (λ (ks : List Placed). IsPartitionedBy (λ each. nat_le (tag_of each) tag) ks) (sym rest) (le_parts tag_of c.as_slice-keys.result.now sorted tag c.partition_point-start.result) in
    let to = subst (λ (ks : List Placed). IsPartitionPoint (λ each. nat_le (tag_of each) tag ≡ true) (λ each. nat_le (tag_of each) tag ≡ false) ks c.partition_point-count.result) rest (c.partition_point-count.ensures.partitioned (λ each. nat_le (tag_of each) tag) (always_returns_same _ _ _ (λ a r f called. search rules)) parts) in
    subst (λ (ks : List Placed). Contains (take c.partition_point-count.result ks) placed) (sym rest)
    (tagged_all tag_of c.as_slice-keys.result.now tag c.partition_point-start.result c.partition_point-count.result from to placed (subst (λ (ks : List Placed). Contains ks placed) (sym keys_are) found) its)
