use Rattle.std.proofs.Common.{rules}
use Rattle.std.proofs.lemmas.Fn.{always_returns_same}
use Rattle.std.proofs.lemmas.List.Sorted.{ranks_by}
use Rattle.std.specs.Ordering.{is_lt}
use Rattle.dnsv_verifier.specs.Asking.{key_name_cmp}
use Rattle.dnsv_verifier.proofs.NamedLemmas.{key_name_cmp_total}
use Rattle.dnsv_zone_keys.specs.Keys.Index.{name_of}
use Rattle.dnsv_zone_keys.proofs.lemmas.IndexLemmas.{indexed_moved}
use Rattle.dnsv_zone_keys.proofs.keys.index.KeyIndex.of.Goals as goal

pub invariant_of-result : goal.invariant_of-result
invariant_of-result c =
    c.sort_unstable_by.ensures.sorted (λ x y. is_lt (key_name_cmp (name_of x) (name_of y))) (ranks_by key_name_cmp_total name_of) (always_returns_same _ _ _ (λ a r f called. search rules))

pub returns : goal.returns
returns c =
    indexed_moved c.args.capture.now.rrsets _ _ c.sort_unstable_by.ensures.permutation c.in_ok-keys.ensures
