-- Rising lists of numbers.
use Rattle.std.proofs.Common.{◌≡◌, ℕ, List}
use Rattle.std.proofs.lemmas.Cmp.{nat_cmp_total}
use Rattle.std.proofs.lemmas.Map.Keys.{sorted_from_strictly_increasing}
use Rattle.std.proofs.lemmas.Map.Lookups.{exact_unsigned}
use Rattle.std.specs.Prelude.{Contains}
use Rattle.std.specs.List.Sorted.{IsStrictlyIncreasing}
use Rattle.std.specs.Ordering.{nat_cmp}
use Rattle.dnsv_canonical.proofs.CanonicalLemmas.{rising_unique, Contains-from_member, IsMember-from_contains}

-- two rising lists with the same members
pub one_rising : (xs ys : List ℕ) → IsStrictlyIncreasing xs → IsStrictlyIncreasing ys → ((n : ℕ) → Contains xs n → Contains ys n)
    → ((n : ℕ) → Contains ys n → Contains xs n) → xs ≡ ys
one_rising xs ys first second to from =
    rising_unique nat_cmp nat_cmp_total exact_unsigned xs ys (sorted_from_strictly_increasing xs first)
    (sorted_from_strictly_increasing ys second)
    (λ n m. IsMember-from_contains ys n (to n (Contains-from_member xs n m)))
    (λ n m. IsMember-from_contains xs n (from n (Contains-from_member ys n m)))
