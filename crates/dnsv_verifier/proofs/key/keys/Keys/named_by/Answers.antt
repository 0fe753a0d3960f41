use Rattle.std.proofs.Common.{◌≡◌, List, take, sym, ◌∙◌, subst, rules, true, false}
use Rattle.std.proofs.lemmas.Fn.{always_returns_same}
use Rattle.std.proofs.lemmas.List.{take_rest}
use Rattle.std.specs.List.{Contains}
use Rattle.std.specs.List.Sorted.{IsPartitionedBy, IsPartitionPoint, IsSortedByKey}
use Rattle.std.specs.Ordering.{is_le, is_lt}
use Rattle.dnsv_verifier.specs.Admissible.{DnskeyRecord}
use Rattle.dnsv_verifier.specs.Asking.{key_name_cmp, name_of_key, named_by}
use Rattle.dnsv_verifier.proofs.NamedLemmas.{lt_parts, le_parts, named_among, named_all, named_key}
use Rattle.dnsv_verifier.proofs.key.keys.Keys.named_by.Goals as goal

pub returns-clause-among : goal.returns-clause-among
returns-clause-among c = λ key found.
    let keys_are : c.as_slice-keys.result.now ≡ c.args.self.now = c.as_slice-keys.ensures.value ∙ c.self.view_is in
    subst (λ (ks : List DnskeyRecord). Contains ks key) keys_are
    (named_among c.as_slice-keys.result.now c.partition_point-start.result c.partition_point-count.result key (subst (λ (ks : List DnskeyRecord). Contains (take c.partition_point-count.result ks) key) (take_rest c.as_slice-keys.result.now c.partition_point-start.result) found))

pub returns-clause-all : goal.returns-clause-all
returns-clause-all c = λ key found made.
    let keys_are : c.as_slice-keys.result.now ≡ c.args.self.now = c.as_slice-keys.ensures.value ∙ c.self.view_is in
    let rest = take_rest c.as_slice-keys.result.now c.partition_point-start.result in
    let sorted : IsSortedByKey name_of_key key_name_cmp c.as_slice-keys.result.now =
    subst (λ (ks : List DnskeyRecord). IsSortedByKey name_of_key key_name_cmp ks) (sym c.as_slice-keys.ensures.value) c.self.invariant in
    let from = c.partition_point-start.ensures.partitioned (λ key. is_lt (key_name_cmp (name_of_key key) (named_by c.args.rrsig.now))) (always_returns_same _ _ _ (λ a r f called. search rules)) (lt_parts name_of_key c.as_slice-keys.result.now sorted (named_by c.args.rrsig.now)) in
    let parts = subst (λ (ks : List DnskeyRecord). IsPartitionedBy (λ key. is_le (key_name_cmp (name_of_key key) (named_by c.args.rrsig.now))) ks) (sym rest) (le_parts name_of_key c.as_slice-keys.result.now sorted (named_by c.args.rrsig.now) c.partition_point-start.result) in
    let to = subst (λ (ks : List DnskeyRecord). IsPartitionPoint (λ key. is_le (key_name_cmp (name_of_key key) (named_by c.args.rrsig.now)) ≡ true) (λ key. is_le (key_name_cmp (name_of_key key) (named_by c.args.rrsig.now)) ≡ false) ks c.partition_point-count.result) rest (c.partition_point-count.ensures.partitioned (λ key. is_le (key_name_cmp (name_of_key key) (named_by c.args.rrsig.now))) (always_returns_same _ _ _ (λ a r f called. search rules)) parts) in
    subst (λ (ks : List DnskeyRecord). Contains (take c.partition_point-count.result ks) key) (sym rest)
    (named_all name_of_key c.as_slice-keys.result.now (named_by c.args.rrsig.now) c.partition_point-start.result c.partition_point-count.result from to key (subst (λ (ks : List DnskeyRecord). Contains ks key) (sym keys_are) found) (named_key c.args.rrsig.now key made))
