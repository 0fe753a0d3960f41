use Rattle.std.proofs.Common.{rules}
use Rattle.std.proofs.lemmas.Cmp.{nat_cmp_total}
use Rattle.std.proofs.lemmas.Fn.{always_returns_same, dedup_same}
use Rattle.std.proofs.lemmas.List.Sorted.{ranks_by}
use Rattle.std.specs.Ordering.{is_lt, nat_cmp}
use lib.Dec.{eqb}
use Rattle.dnsv_mending.specs.declared.facts.keys.SelfSignature.{SelfSignature}
use Rattle.dnsv_zone_faults.specs.Dnskeys.{signature_number}
use Rattle.dnsv_faults.proofs.lemmas.NamedLemmas.{put_in_order}
use Rattle.dnsv_zone_faults.proofs.zone.dnskeys.held.put_in_order.Goals as goal

pub returns : goal.returns
returns c =
    put_in_order signature_number _ _ _ c.sort_unstable_by.ensures.permutation
    (c.sort_unstable_by.ensures.sorted (λ x y. is_lt (nat_cmp (signature_number x) (signature_number y))) (ranks_by nat_cmp_total signature_number)
    (always_returns_same _ _ _ (λ a r f called. search rules)))
    (dedup_same _ (λ (a : SelfSignature) (b : SelfSignature). eqb (signature_number a) (signature_number b)) _ (λ x y b f' x' y' k. search rules) _ _ c.dedup_by_key.ensures.filtered)
