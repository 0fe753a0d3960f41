-- What is the same as others, by any test.
use Rattle.std.proofs.Common.{◌≡◌, ◌||◌, Bool, true, false, List, [], ◌∷◌, refl, ◌∙◌}
use Rattle.std.specs.Cmp.{IsEquivalence}
use Rattle.std.specs.List.{AllByRecursion, list_any}
use Rattle.std.proofs.lemmas.Bool.{or_parts}
use Rattle.std.proofs.lemmas.Cmp.{nat_eq_equiv, on_equiv, and_equiv}
use Rattle.dnsv_message.specs.declared.record.Record.{Record}
use Rattle.dnsv_canonical.specs.Rrsets.{same_rrset}
use Rattle.dnsv_canonical.proofs.GroupLemmas.{same_name_equiv}

module _ {X : Type 0} (same : X → X → Bool) where
  pub each_differs : (xs : List X) (x : X) → list_any (λ y. same y x) xs ≡ false → AllByRecursion (λ y. same y x ≡ false) xs
  each_differs [] x none = tt
  each_differs (y ∷ ys) x none = let parts = or_parts (same y x) (list_any (λ z. same z x) ys) none in (parts.0, each_differs ys x parts.1)

  module _ (equivalence : IsEquivalence same) (q : X) where
    abbrev is_q : X → Bool
    is_q y = same y q

    -- whether one is the same as q may be asked of any that is the same as it
    same_of : (x y : X) → same x q ≡ true → same y x ≡ same y q
    same_of x y is = equivalence.symm y x ∙ equivalence.congr x q y is ∙ equivalence.symm q y

    pub any_same : (x : X) (xs : List X) → same x q ≡ true → list_any (λ y. same y x) xs ≡ list_any is_q xs
    any_same x [] is = refl
    any_same x (y ∷ ys) is = λ i. same_of x y is i || any_same x ys is i

pub same_rrset_equiv : IsEquivalence same_rrset
same_rrset_equiv = and_equiv (on_equiv (λ (r : Record). r.rtype.0) nat_eq_equiv) (on_equiv (λ (r : Record). r.name) same_name_equiv)
