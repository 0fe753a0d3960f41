use Rattle.std.proofs.Common.{subst, rules}
use Rattle.std.proofs.lemmas.Fn.{always_returns_same}
use Rattle.std.proofs.lemmas.List.Sorted.{ranks_by}
use Rattle.std.specs.Ordering.{is_lt}
use Rattle.dnsv_canonical.specs.Index.Grouping.{AreInOrder, Numbered, key_of, stands}
use Rattle.dnsv_canonical.proofs.IndexLemmas.Growth.{in_order_from}
use Rattle.dnsv_canonical.proofs.IndexLemmas.InOrder.{key_total}
use Rattle.dnsv_canonical.proofs.capture.index.numbered.in_order.Goals as goal

pub returns : goal.returns
returns c =
    subst (λ all. AreInOrder all c.sort_by.new.self.items) c.in_ok-numbered.ensures
    (in_order_from c.in_ok-numbered.numbered.items c.sort_by.new.self.items c.in_ok-sort_by.ensures.permutation
    (c.in_ok-sort_by.ensures.sorted (λ a b. is_lt (stands a (key_of b.1))) (ranks_by key_total (λ (x : Numbered). key_of x.1)) (always_returns_same _ _ _ (λ a r f called. search rules)))
    (c.in_ok-sort_by.ensures.stable (λ a b. is_lt (stands a (key_of b.1))) (ranks_by key_total (λ (x : Numbered). key_of x.1)) (always_returns_same _ _ _ (λ a r f called. search rules))))
