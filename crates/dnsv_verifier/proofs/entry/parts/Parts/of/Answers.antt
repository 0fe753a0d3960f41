use Rattle.std.proofs.Common.{◌≤◌, List, length, sym, ◌∙◌, subst}
use Rattle.std.proofs.lemmas.List.Filters.{dedup_is}
use Rattle.std.specs.List.{Contains}
use Rattle.std.specs.List.Sorted.{IsStrictlySortedBy}
use Rattle.dnsv_verifier.specs.Numbers.{key_cmp, signature_cmp}
use Rattle.dnsv_verifier.specs.declared.entry.parts.KeyPart.{KeyPart}
use Rattle.dnsv_verifier.specs.declared.entry.parts.SignaturePart.{SignaturePart}
use Rattle.dnsv_verifier.proofs.NumberLemmas.{kept_keys, kept_signatures, rising_keys, rising_signatures}
use Rattle.dnsv_verifier.proofs.entry.parts.Parts.of.Goals as goal

pub invariant_of-result : goal.invariant_of-result
invariant_of-result c = (
  subst (IsStrictlySortedBy key_cmp) (sym c.into_bump_slice.ensures) (rising_keys c.sort_unstable.new.self.items c.dedup.new.self.items c.sort_unstable.ensures.sorted (dedup_is _ _ _ c.dedup.ensures.filtered)),
  subst (IsStrictlySortedBy signature_cmp) (sym c.into_bump_slice-2.ensures) (rising_signatures c.sort_unstable-2.new.self.items c.dedup-2.new.self.items c.sort_unstable-2.ensures.sorted (dedup_is _ _ _ c.dedup-2.ensures.filtered)),
  subst (λ (keys : List KeyPart). length keys ≤ 4294967296) (sym c.into_bump_slice.ensures) (subst (λ n. n ≤ 4294967296) (c.len.ensures ∙ c.dedup.new.self.ok.0) c.if-len-gt-LIMIT.false),
  subst (λ (signatures : List SignaturePart). length signatures ≤ 4294967296) (sym c.into_bump_slice-2.ensures) (subst (λ n. n ≤ 4294967296) (c.len-else-len-gt-LIMIT.ensures ∙ c.dedup-2.new.self.ok.0) c.if-len-gt-LIMIT-2.false),
)

pub returns-clause-keys : goal.returns-clause-keys
returns-clause-keys c = λ part found.
    subst (λ (keys : List KeyPart). Contains keys part) (sym c.into_bump_slice.ensures)
    (kept_keys c.args.keys.items c.sort_unstable.new.self.items c.dedup.new.self.items c.sort_unstable.ensures.permutation (dedup_is _ _ _ c.dedup.ensures.filtered) part found)

pub returns-clause-signatures : goal.returns-clause-signatures
returns-clause-signatures c = λ part found.
    subst (λ (signatures : List SignaturePart). Contains signatures part) (sym c.into_bump_slice-2.ensures)
    (kept_signatures c.args.signatures.items c.sort_unstable-2.new.self.items c.dedup-2.new.self.items c.sort_unstable-2.ensures.permutation (dedup_is _ _ _ c.dedup-2.ensures.filtered) part found)

pub returns-clause-rising : goal.returns-clause-rising
returns-clause-rising c = (
  subst (IsStrictlySortedBy key_cmp) (sym c.into_bump_slice.ensures) (rising_keys c.sort_unstable.new.self.items c.dedup.new.self.items c.sort_unstable.ensures.sorted (dedup_is _ _ _ c.dedup.ensures.filtered)),
  subst (IsStrictlySortedBy signature_cmp) (sym c.into_bump_slice-2.ensures) (rising_signatures c.sort_unstable-2.new.self.items c.dedup-2.new.self.items c.sort_unstable-2.ensures.sorted (dedup_is _ _ _ c.dedup-2.ensures.filtered)),
)
