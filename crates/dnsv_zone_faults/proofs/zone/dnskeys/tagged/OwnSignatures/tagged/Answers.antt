use Rattle.std.proofs.Common.{ℕ, List, take, sym, ◌∙◌, subst, rules, true, false, ◌≡◌}
use Rattle.std.proofs.lemmas.Fn.{always_returns_same}
use Rattle.std.proofs.lemmas.List.{take_rest}
use Rattle.std.specs.List.{Contains}
use Rattle.std.specs.List.Sorted.{IsPartitionedBy, IsPartitionPoint, IsSortedByKey}
use Rattle.std.specs.Ordering.{nat_cmp}
use Rattle.std.specs.Prelude.{nat_le, nat_lt}
use Rattle.dnsv_zone_faults.specs.Dnskeys.OwnSearch.{AreTagged, tag_of_own}
use Rattle.dnsv_zone_faults.specs.declared.zone.dnskeys.tagged.OwnSignature.{OwnSignature}
use Rattle.dnsv_zone_keys.proofs.lemmas.TagLemmas.{le_parts, lt_parts, tagged_all, tagged_among, tagged_its}
use Rattle.dnsv_zone_faults.proofs.zone.dnskeys.tagged.OwnSignatures.tagged.Goals as goal

pub returns : goal.returns
returns c =
    let tag = c.args.tag.0 in
    let keys_are : c.as_slice-own.result.now ≡ c.args.self.now = c.as_slice-own.ensures.value ∙ c.self.view_is in
    let rest = take_rest c.as_slice-own.result.now c.partition_point-start.result in
    let sorted : IsSortedByKey tag_of_own nat_cmp c.as_slice-own.result.now =
    subst (λ (ks : List OwnSignature). IsSortedByKey tag_of_own nat_cmp ks) (sym c.as_slice-own.ensures.value) c.self.invariant in
    let from = c.partition_point-start.ensures.partitioned (λ each. nat_lt (tag_of_own each) tag) (always_returns_same _ _ _ (λ a r f called. search rules)) (lt_parts tag_of_own c.as_slice-own.result.now sorted tag) in
    let parts = subst (λ (ks : List OwnSignature). IsPartitionedBy (λ each. nat_le (tag_of_own each) tag) ks) (sym rest) (le_parts tag_of_own c.as_slice-own.result.now sorted tag c.partition_point-start.result) in
    let to = subst (λ (ks : List OwnSignature). IsPartitionPoint (λ each. nat_le (tag_of_own each) tag ≡ true) (λ each. nat_le (tag_of_own each) tag ≡ false) ks c.partition_point-count.result) rest (c.partition_point-count.ensures.partitioned (λ each. nat_le (tag_of_own each) tag) (always_returns_same _ _ _ (λ a r f called. search rules)) parts) in
    let own : List OwnSignature = c.as_slice-own.result.now in
    let i : ℕ = c.partition_point-start.result in
    let n : ℕ = c.partition_point-count.result in
    subst (λ (ks : List OwnSignature). AreTagged c.args.self.now tag (take n ks)) (sym rest) (record {
      among = λ each there. subst (λ (ks : List OwnSignature). Contains ks each) keys_are (tagged_among tag_of_own own tag i n from to each there);
      its = λ each there. tagged_its tag_of_own own tag i n from to each there;
      all = λ each there is. tagged_all tag_of_own own tag i n from to each (subst (λ (ks : List OwnSignature). Contains ks each) (sym keys_are) there) is;
    })
