use Rattle.std.proofs.Common.{ℕ, List, take, sym, subst, rules, true, false, ◌≡◌}
use Rattle.std.proofs.lemmas.Fn.{always_returns_same}
use Rattle.std.proofs.lemmas.List.{take_rest}
use Rattle.std.specs.List.Sorted.{IsPartitionedBy, IsPartitionPoint}
use Rattle.std.specs.Prelude.{nat_le, nat_lt}
use Rattle.dnsv_zone_faults.specs.Zones.HolderSearch.{AreOfKey, key_of}
use Rattle.dnsv_zone_faults.specs.declared.zone.holders.Holding.{Holding}
use Rattle.dnsv_zone_keys.proofs.lemmas.TagLemmas.{le_parts, lt_parts, tagged_all, tagged_among, tagged_its}
use Rattle.dnsv_zone_faults.proofs.zone.holders.of_key.Goals as goal

pub returns : goal.returns
returns c =
    let place : ℕ = c.args.place in
    let all : List Holding = c.args.holdings.now in
    let i : ℕ = c.partition_point-start.result in
    let n : ℕ = c.partition_point-count.result in
    let rest = take_rest all i in
    let from = c.partition_point-start.ensures.partitioned (λ each. nat_lt (key_of each) place) (always_returns_same _ _ _ (λ a r f called. search rules)) (lt_parts key_of all c.requires place) in
    let parts = subst (λ (ks : List Holding). IsPartitionedBy (λ each. nat_le (key_of each) place) ks) (sym rest) (le_parts key_of all c.requires place i) in
    let to = subst (λ (ks : List Holding). IsPartitionPoint (λ each. nat_le (key_of each) place ≡ true) (λ each. nat_le (key_of each) place ≡ false) ks n) rest (c.partition_point-count.ensures.partitioned (λ each. nat_le (key_of each) place) (always_returns_same _ _ _ (λ a r f called. search rules)) parts) in
    subst (λ (ks : List Holding). AreOfKey all place (take n ks)) (sym rest) (record {
      among = λ each there. tagged_among key_of all place i n from to each there;
      its = λ each there. tagged_its key_of all place i n from to each there;
      all = λ each there is. tagged_all key_of all place i n from to each there is;
    })
