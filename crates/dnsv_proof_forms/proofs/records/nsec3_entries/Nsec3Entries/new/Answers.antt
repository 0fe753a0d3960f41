use Rattle.std.proofs.Common.{rules}
use Rattle.std.proofs.lemmas.Cmp.{nat_list_cmp_total}
use Rattle.std.proofs.lemmas.Fn.{always_returns_same}
use Rattle.std.proofs.lemmas.List.Sorted.{ranks_by}
use Rattle.std.specs.Ordering.{is_lt}
use Rattle.dnsv_names.specs.Octets.{octets_cmp}
use Rattle.dnsv_proof_forms.specs.declared.records.hash_places.HashPlace.{HashPlace}
use Rattle.dnsv_proof_forms.proofs.lemmas.records.HashPlaceLemmas.{places_moved}
use Rattle.dnsv_proof_forms.proofs.records.nsec3_entries.Nsec3Entries.new.Goals as goal

pub invariant_of-result : goal.invariant_of-result
invariant_of-result c = record {
  places = places_moved c.args.entries.items _ _ c.sort_unstable_by.ensures.permutation (rw c.deref.ensures.value at c.in_ok-by_hash.ensures);
  sorted = c.sort_unstable_by.ensures.sorted (λ x y. is_lt (octets_cmp x.hash y.hash)) (ranks_by nat_list_cmp_total (λ (each : HashPlace). each.hash))
      (always_returns_same _ _ _ (λ a r f called. search rules));
  are_reaches = rw c.deref-2.ensures.value at c.in_ok-reaches.ensures;
  are_wrapping = rw c.deref-3.ensures.value at c.in_ok-wrapping.ensures;
}
