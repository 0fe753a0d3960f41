-- The laws of circles of names, for proofs: what the tree says of the names around a gap.
use Rattle.std.proofs.Common.{◌≡◌, sym, ⊎_elim}
use Rattle.std.proofs.lemmas.Cmp.{tied_itself}
use Rattle.std.specs.declared.cmp.Ordering.TheVariants.{Less, Equal}
use Rattle.dnsv_names.specs.Name.{Labels, SameName, IsAtOrBelow}
use Rattle.dnsv_names.specs.Order.{canonical_cmp, IsBelow}
use Rattle.dnsv_names.specs.Order.OrderLaws.{canonical_cmp_total, canonical_Equal, SameName_Equal}
use Rattle.dnsv_names.specs.Circle.{Gap}
use Rattle.dnsv_names.specs.Circle.CircleLaws.{gap_respects, owner_between, next_between}
use Rattle.dnsv_names.specs.Tree.TreeLaws.{at_itself, same_at_or_below, at_or_below_trans, at_or_below_cases, before_below, interval}

module _ (owner next : Labels) where
  -- equal names lie in the same gaps
  pub same_gap : (a b : Labels) → SameName a b → Gap canonical_cmp owner next a → Gap canonical_cmp owner next b
  same_gap a b same gap =
      gap_respects canonical_cmp_total owner next b (tied_itself canonical_cmp_total owner) (tied_itself canonical_cmp_total next) (SameName_Equal a b same) gap

  -- Where a name lies in a gap and one at or below it doesn't, the next is at or below it.
  pub next_at_or_below : (x y : Labels) → ¬ Gap canonical_cmp owner next y → Gap canonical_cmp owner next x
      → IsAtOrBelow y x → IsAtOrBelow next x
  next_at_or_below x y outside inside under =
      ⊎_elim (λ (same : SameName y x). absurd (outside (same_gap x y (sym same) inside)))
      (λ (below : IsBelow y x).
      ⊎_elim (λ (tied : canonical_cmp next y ≡ Equal). at_or_below_trans next y x (same_at_or_below next y (canonical_Equal next y tied)) under)
      (λ (found : (canonical_cmp x next ≡ Less) × (canonical_cmp next y ≡ Less)). interval x x next y (at_itself x) under found.0 found.1)
      (next_between canonical_cmp_total owner next x y outside inside (before_below y x below)))
      (at_or_below_cases y x under)

  -- Where a name lies in a gap and one at or above it doesn't, the owner is at or below that one.
  pub owner_at_or_below : (x above : Labels) → ¬ Gap canonical_cmp owner next above → Gap canonical_cmp owner next x
      → IsAtOrBelow x above → IsAtOrBelow owner above
  owner_at_or_below x above outside inside under =
      ⊎_elim (λ (same : SameName x above). absurd (outside (same_gap x above same inside)))
      (λ (below : IsBelow x above).
      ⊎_elim (λ (tied : canonical_cmp owner above ≡ Equal). same_at_or_below owner above (canonical_Equal owner above tied))
      (λ (found : (canonical_cmp above owner ≡ Less) × (canonical_cmp owner x ≡ Less)). interval above above owner x (at_itself above) under found.0 found.1)
      (owner_between canonical_cmp_total owner next above x outside inside (before_below x above below)))
      (at_or_below_cases x above under)
