-- Which signatures lines show, in order.
use Rattle.std.proofs.Common.{◌≡◌, ◌&&◌, List, [], ◌∷◌, Some, nat_eq, map, sym, ap, ◌∙◌, subst, arith, ⊎_elim}
use Rattle.std.proofs.lemmas.Cmp.{eq_by_cmp_equiv, nat_cmp_total, on_total, then_total}
use Rattle.std.proofs.lemmas.List.Kept.{Contains-dedup, Contains-from_dedup, IsStrictlySortedBy-dedup}
use Rattle.std.proofs.lemmas.List.Sorted.{Contains-permutation, IsPermutation-sym}
use Rattle.std.specs.Cmp.{IsTotalOrder, both_tied, unsigned_ties}
use Rattle.std.specs.List.{AllByRecursion, Contains, dedup}
use Rattle.std.specs.List.Sorted.{IsPermutation, IsSorted, IsStrictlySortedBy}
use Rattle.std.specs.Ordering.{eq_by_cmp, nat_cmp}
use Rattle.std.specs.declared.cmp.Ordering.TheVariants.{Less, Equal}
use Rattle.dnsv_canonical.specs.declared.number.SignatureNumber.{SignatureNumber}
use Rattle.dnsv_derivations.specs.intervals.Holding.{signature_shown}
use Rattle.dnsv_lines.specs.declared.line.Line.{Line}
use Rattle.dnsv_verifier.specs.Asking.{AddsJust, ComesOfSome}
use Rattle.dnsv_verifier.specs.EntryLaws.{octet_Equal, then_Equal}
use Rattle.dnsv_verifier.proofs.NumberLemmas.{contains_from_map, contains_map}
use Rattle.dnsv_verifier.proofs.TableLemmas.{is_eq-Equal}
use Rattle.dnsv_moments.specs.validity.Said.{AreShownIn, signature_cmp}
use Rattle.dnsv_moments.specs.Shown.{Shows, number_of, shown_cmp}
use Rattle.dnsv_moments.specs.declared.shown.Shown.{Shown}

shown_cmp_total : IsTotalOrder shown_cmp
shown_cmp_total = then_total (on_total (λ (each : Shown). each.rrset) nat_cmp_total) (on_total (λ (each : Shown). each.signature) nat_cmp_total)

shown_Equal : (a b : Shown) → shown_cmp a b ≡ Equal → a ≡ b
shown_Equal a b e =
    let both = then_Equal (nat_cmp a.rrset b.rrset) (nat_cmp a.signature b.signature) e in
    λ i. record { rrset = octet_Equal a.rrset b.rrset both.0 i; signature = octet_Equal a.signature b.signature both.1 i }

shown_ties : (x y : Shown) → (nat_eq x.rrset y.rrset && nat_eq x.signature y.signature) ≡ eq_by_cmp shown_cmp x y
shown_ties x y = both_tied _ _ _ _ (unsigned_ties x.rrset y.rrset) (unsigned_ties x.signature y.signature)

-- a list of numbers rises as what they are made of
below_map : (x : Shown) (xs : List Shown) → AllByRecursion (λ y. shown_cmp x y ≡ Less) xs
    → AllByRecursion (λ n. signature_cmp (number_of x) n ≡ Less) (map number_of xs)
below_map x [] all = tt
below_map x (y ∷ xs) all = (all.0, below_map x xs all.1)

rises_map : (xs : List Shown) → IsStrictlySortedBy shown_cmp xs → IsStrictlySortedBy signature_cmp (map number_of xs)
unfolding IsStrictlySortedBy
rises_map [] rising = tt
rises_map (x ∷ xs) rising = (below_map x xs rising.0, rises_map xs rising.1)

module _ (lines : List Line) (all sorted kept : List Shown) (adds : AddsJust (ComesOfSome Shows lines) [] all)
    (moves : IsPermutation all sorted) (ordered : IsSorted shown_cmp sorted)
    (is : kept ≡ dedup (λ x y. nat_eq x.rrset y.rrset && nat_eq x.signature y.signature) sorted) where
  by_cmp : kept ≡ dedup (eq_by_cmp shown_cmp) sorted
  by_cmp = is ∙ (λ i. dedup (λ x y. shown_ties x y i) sorted)

  rising : IsStrictlySortedBy shown_cmp kept
  rising = subst (IsStrictlySortedBy shown_cmp) (sym is) (IsStrictlySortedBy-dedup shown_cmp_total shown_ties sorted ordered)

  from_kept : (x : Shown) → Contains kept x → Contains all x
  from_kept x found =
      Contains-permutation sorted all x (IsPermutation-sym all sorted moves)
      (Contains-from_dedup (eq_by_cmp shown_cmp) sorted x (subst (λ (each : List Shown). Contains each x) by_cmp found))

  to_kept : (x : Shown) → Contains all x → Contains kept x
  to_kept x found =
      subst (λ (each : List Shown). Contains each x) (sym by_cmp)
      (Contains-dedup (eq_by_cmp_equiv shown_cmp_total) (λ x y tied. shown_Equal x y (is_eq-Equal (shown_cmp x y) tied)) sorted x
      (Contains-permutation all sorted x moves found))

  comes : (x : Shown) → Contains all x → ComesOfSome Shows lines x
  comes x found = ⊎_elim (λ (none : Contains [] x). absurd (omega (arith, none.1))) (λ (of : ComesOfSome Shows lines x). of) (adds.only x found)

  pub shown_rising : (numbers : List SignatureNumber) → numbers ≡ map number_of kept → AreShownIn lines numbers
  shown_rising numbers are = record {
    rising = subst (IsStrictlySortedBy signature_cmp) (sym are) (rises_map kept rising);
    members = λ number. (
      λ found.
          let (x, there, same) = contains_from_map number_of kept number (subst (λ (ns : List SignatureNumber). Contains ns number) are found) in
          let of = comes x (from_kept x there) in
          (of.source, of.among, of.is ∙ ap (λ (n : SignatureNumber). Some n) same),
      λ shown.
          let x : Shown = record { rrset = number.rrset; signature = number.signature } in
          let of : ComesOfSome Shows lines x = record { source = shown.0; among = shown.1; is = shown.2 } in
          subst (λ (ns : List SignatureNumber). Contains ns number) (sym are) (contains_map number_of kept x (to_kept x (adds.added x of))),
    );
  }

-- a line shows one
pub one_shown : (line : Line) (number : SignatureNumber) (x : Shown) → Some number ≡ signature_shown line → Shows line x
    → x ≡ record { rrset = number.rrset; signature = number.signature }
one_shown line number x some shows =
    let is : Some number ≡ Some (number_of x) = some ∙ shows in
    let same : number ≡ number_of x = cc in
    λ i. record { rrset = (sym same i).rrset; signature = (sym same i).signature }
