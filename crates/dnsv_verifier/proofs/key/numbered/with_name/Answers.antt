use Rattle.std.proofs.Common.{◌≡◌, ℕ, List, take, drop, sym, subst, rules, true, false}
use Rattle.std.proofs.lemmas.Fn.{always_returns_same}
use Rattle.std.proofs.lemmas.List.{take_rest}
use Rattle.std.specs.List.{Contains}
use Rattle.std.specs.List.Sorted.{IsPartitionedBy, IsPartitionPoint, IsSortedByKey}
use Rattle.std.specs.Ordering.{is_le, is_lt}
use Rattle.std.specs.declared.cmp.Ordering.TheVariants.{Equal}
use Rattle.dnsv_verifier.specs.Asking.{KeyName, NumberedName, key_name_cmp}
use Rattle.dnsv_verifier.proofs.NamedLemmas.{le_parts, lt_parts, named_all, named_among, named_just}
use Rattle.dnsv_verifier.proofs.key.numbered.with_name.Goals as goal

-- Two searches by halves, the second in the rest behind the first, find between them just those that have the name.
module _ (all : List NumberedName) (name : KeyName) (start count : ℕ) {rest : List NumberedName} (behind : rest ≡ drop start all)
    (sorted : IsSortedByKey (λ each. each.name) key_name_cmp all)
    (start_is : IsPartitionedBy (λ other. is_lt (key_name_cmp other.name name)) all
    → IsPartitionPoint (λ other. is_lt (key_name_cmp other.name name) ≡ true) (λ other. is_lt (key_name_cmp other.name name) ≡ false) all start)
    (count_is : IsPartitionedBy (λ other. is_le (key_name_cmp other.name name)) rest
    → IsPartitionPoint (λ other. is_le (key_name_cmp other.name name) ≡ true) (λ other. is_le (key_name_cmp other.name name) ≡ false) rest count)
    (each : NumberedName) where
  from : IsPartitionPoint (λ other. is_lt (key_name_cmp other.name name) ≡ true) (λ other. is_lt (key_name_cmp other.name name) ≡ false) all start
  from = start_is (lt_parts (λ other. other.name) all sorted name)

  to : IsPartitionPoint (λ other. is_le (key_name_cmp other.name name) ≡ true) (λ other. is_le (key_name_cmp other.name name) ≡ false) (drop start all) count
  to =
      let parts = subst (λ (es : List NumberedName). IsPartitionedBy (λ other. is_le (key_name_cmp other.name name)) es) (sym behind) (le_parts (λ other. other.name) all sorted name start) in
      subst (λ (es : List NumberedName). IsPartitionPoint (λ other. is_le (key_name_cmp other.name name) ≡ true) (λ other. is_le (key_name_cmp other.name name) ≡ false) es count) behind (count_is parts)

  found_has : Contains (take count rest) each → key_name_cmp each.name name ≡ Equal
  found_has found = named_just (λ other. other.name) all name start count from to each (subst (λ (es : List NumberedName). Contains (take count es) each) behind found)

  all_found : Contains all each → key_name_cmp each.name name ≡ Equal → Contains (take count rest) each
  all_found found tied = subst (λ (es : List NumberedName). Contains (take count es) each) (sym behind) (named_all (λ other. other.name) all name start count from to each found tied)

pub returns-clause-among : goal.returns-clause-among
returns-clause-among c = λ each found.
    named_among c.args.all.now c.partition_point-start.result c.partition_point-count.result each
    (subst (λ (es : List NumberedName). Contains (take c.partition_point-count.result es) each) (take_rest c.args.all.now c.partition_point-start.result) found)

pub returns-clause-named : goal.returns-clause-named
returns-clause-named c = λ each found.
    let start = c.partition_point-start.result in
    let name : KeyName = c.args.name.now.name in
    found_has c.args.all.now name start c.partition_point-count.result (take_rest c.args.all.now start) c.requires
    (c.partition_point-start.ensures.partitioned (λ other. is_lt (key_name_cmp other.name name)) (always_returns_same _ _ _ (λ a r f called. search rules)))
    (c.partition_point-count.ensures.partitioned (λ other. is_le (key_name_cmp other.name name)) (always_returns_same _ _ _ (λ a r f called. search rules)))
    each found

pub returns-clause-all : goal.returns-clause-all
returns-clause-all c = λ each found tied.
    let start = c.partition_point-start.result in
    let name : KeyName = c.args.name.now.name in
    all_found c.args.all.now name start c.partition_point-count.result (take_rest c.args.all.now start) c.requires
    (c.partition_point-start.ensures.partitioned (λ other. is_lt (key_name_cmp other.name name)) (always_returns_same _ _ _ (λ a r f called. search rules)))
    (c.partition_point-count.ensures.partitioned (λ other. is_le (key_name_cmp other.name name)) (always_returns_same _ _ _ (λ a r f called. search rules)))
    each found tied
