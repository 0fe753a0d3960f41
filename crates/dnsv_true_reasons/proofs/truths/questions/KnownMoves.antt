-- A known zone by another spelling, and which known zone has most labels.
use Rattle.std.proofs.Common.{◌≡◌, ◌<◌, ◌≤◌, ◌⊎◌, ℕ, zero, suc, inl, inr, List, ◌∷◌, refl, sym, ◌∙◌, arith}
use Rattle.std.proofs.lemmas.Cmp.{ranked}
use Rattle.std.specs.List.Sorted.{IsStrictlySortedBy}
use Rattle.std.specs.Ordering.{nat_cmp}
use Rattle.std.specs.Prelude.{Contains}
use Rattle.std.specs.declared.cmp.Ordering.TheVariants.{Less}
use Rattle.dnsv_names.specs.Name.{Labels, SameName}
use Rattle.dnsv_names.specs.Tree.TreeLaws.{at_or_below_respects, below_respects}
use Rattle.dnsv_canonical.proofs.OrderLemmas.{each_of}
use Rattle.dnsv_faults.specs.KnownZones.{HasOwnAnchor, HasRrset, IsKnownZone, IsSpeaker}
use Rattle.dnsv_chain.specs.Basis.{Basis}

pub known_moves : (basis : Basis) (name : Labels) (t : ℕ) (x y : Labels) → SameName x y → IsKnownZone basis name t x
    → IsKnownZone basis name t y
known_moves basis name t x y same is = record {
  above = at_or_below_respects name name x y refl same is.above;
  properly = λ asked. below_respects name name x y refl same (is.properly asked);
  known = by is.known;
} where
  by : HasOwnAnchor basis.anchors x ⊎ HasRrset basis.rrsets x 43 ⊎ HasRrset basis.rrsets x 48 ⊎ IsSpeaker basis.rrsets name t x
      → HasOwnAnchor basis.anchors y ⊎ HasRrset basis.rrsets y 43 ⊎ HasRrset basis.rrsets y 48 ⊎ IsSpeaker basis.rrsets name t y
  by (inl has) = inl (has.0, has.1, has.2 ∙ same)
  by (inr (inl has)) = inr (inl (record { rrset = has.rrset; among = has.among; owner = has.owner ∙ same; its_type = has.its_type }))
  by (inr (inr (inl has))) = inr (inr (inl (record {
    rrset = has.rrset;
    among = has.among;
    owner = has.owner
        ∙ same;
    its_type = has.its_type;
  })))
  by (inr (inr (inr speaks))) = inr (inr (inr (record {
    rrset = speaks.rrset;
    among = speaks.among;
    may = speaks.may;
    speaks = record {
      rrsig = speaks.speaks.rrsig;
      its = speaks.speaks.its;
      signer = speaks.speaks.signer ∙ same;
      above = at_or_below_respects name name x y refl same speaks.speaks.above;
      properly = λ from. below_respects name name x y refl same (speaks.speaks.properly from);
    };
  })))

-- the first of falling numbers is the greatest
pub first_most : (x : ℕ) (xs : List ℕ) (y : ℕ) → IsStrictlySortedBy (λ one other. nat_cmp other one) (x ∷ xs) → Contains (x ∷ xs) y → y ≤ x
unfolding IsStrictlySortedBy
first_most x xs y falling (zero, within, is) = let same : x ≡ y = is in omega (arith, same)
first_most x xs y falling (suc i, within, is) =
    let less : nat_cmp y x ≡ Less = each_of (λ z. nat_cmp z x ≡ Less) xs y falling.0 (i, omega (arith, within), is) in
    let fewer : y < x = ranked y x Less (sym less) in omega (arith, fewer)
