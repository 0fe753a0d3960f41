use Rattle.std.proofs.Common.{List, take, sym, ◌∙◌, subst, rules, true, false, ◌≡◌}
use Rattle.std.proofs.lemmas.Fn.{always_returns_same}
use Rattle.std.proofs.lemmas.List.{take_rest}
use Rattle.std.specs.List.{Contains}
use Rattle.std.specs.List.Sorted.{IsPartitionedBy, IsPartitionPoint, IsSortedByKey}
use Rattle.std.specs.Ordering.{is_le, is_lt}
use Rattle.dnsv_verifier.specs.Asking.{key_name_cmp, named_by}
use Rattle.dnsv_verifier.proofs.NamedLemmas.{lt_parts, le_parts, named_all, named_just}
use Rattle.dnsv_zone_keys.specs.Keys.Index.{Placed, name_of}
use Rattle.dnsv_zone_keys.proofs.lemmas.IndexLemmas.{named_tied, tied_named}
use Rattle.dnsv_zone_keys.proofs.keys.index.KeyIndex.named_by.Goals as goal

pub returns-clause-named : goal.returns-clause-named
returns-clause-named c = λ placed found.
    let rest = take_rest c.as_slice-keys.result.now c.partition_point-start.result in
    let sorted : IsSortedByKey name_of key_name_cmp c.as_slice-keys.result.now =
    subst (λ (ks : List Placed). IsSortedByKey name_of key_name_cmp ks) (sym c.as_slice-keys.ensures.value) c.self.invariant in
    let from = c.partition_point-start.ensures.partitioned (λ each. is_lt (key_name_cmp (name_of each) (named_by c.args.rrsig.now))) (always_returns_same _ _ _ (λ a r f called. search rules)) (lt_parts name_of c.as_slice-keys.result.now sorted (named_by c.args.rrsig.now)) in
    let parts = subst (λ (ks : List Placed). IsPartitionedBy (λ each. is_le (key_name_cmp (name_of each) (named_by c.args.rrsig.now))) ks) (sym rest) (le_parts name_of c.as_slice-keys.result.now sorted (named_by c.args.rrsig.now) c.partition_point-start.result) in
    let to = subst (λ (ks : List Placed). IsPartitionPoint (λ each. is_le (key_name_cmp (name_of each) (named_by c.args.rrsig.now)) ≡ true) (λ each. is_le (key_name_cmp (name_of each) (named_by c.args.rrsig.now)) ≡ false) ks c.partition_point-count.result) rest (c.partition_point-count.ensures.partitioned (λ each. is_le (key_name_cmp (name_of each) (named_by c.args.rrsig.now))) (always_returns_same _ _ _ (λ a r f called. search rules)) parts) in
    tied_named c.args.rrsig.now placed.key
    (named_just name_of c.as_slice-keys.result.now (named_by c.args.rrsig.now) c.partition_point-start.result c.partition_point-count.result from to placed
    (subst (λ (ks : List Placed). Contains (take c.partition_point-count.result ks) placed) rest found))

pub returns-clause-all : goal.returns-clause-all
returns-clause-all c = λ placed found its.
    let keys_are : c.as_slice-keys.result.now ≡ c.args.self.now = c.as_slice-keys.ensures.value ∙ c.self.view_is in
    let rest = take_rest c.as_slice-keys.result.now c.partition_point-start.result in
    let sorted : IsSortedByKey name_of key_name_cmp c.as_slice-keys.result.now =
    subst (λ (ks : List Placed). IsSortedByKey name_of key_name_cmp ks) (sym c.as_slice-keys.ensures.value) c.self.invariant in
    let from = c.partition_point-start.ensures.partitioned (λ each. is_lt (key_name_cmp (name_of each) (named_by c.args.rrsig.now))) (always_returns_same _ _ _ (λ a r f called. search rules)) (lt_parts name_of c.as_slice-keys.result.now sorted (named_by c.args.rrsig.now)) in
    let parts = subst (λ (ks : List Placed). IsPartitionedBy (λ each. is_le (key_name_cmp (name_of each) (named_by c.args.rrsig.now))) ks) (sym rest) (le_parts name_of c.as_slice-keys.result.now sorted (named_by c.args.rrsig.now) c.partition_point-start.result) in
    let to = subst (λ (ks : List Placed). IsPartitionPoint (λ each. is_le (key_name_cmp (name_of each) (named_by c.args.rrsig.now)) ≡ true) (λ each. is_le (key_name_cmp (name_of each) (named_by c.args.rrsig.now)) ≡ false) ks c.partition_point-count.result) rest (c.partition_point-count.ensures.partitioned (λ each. is_le (key_name_cmp (name_of each) (named_by c.args.rrsig.now))) (always_returns_same _ _ _ (λ a r f called. search rules)) parts) in
    subst (λ (ks : List Placed). Contains (take c.partition_point-count.result ks) placed) (sym rest)
    (named_all name_of c.as_slice-keys.result.now (named_by c.args.rrsig.now) c.partition_point-start.result c.partition_point-count.result from to placed (subst (λ (ks : List Placed). Contains ks placed) (sym keys_are) found) (named_tied c.args.rrsig.now placed.key its))
