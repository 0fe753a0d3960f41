-- Octets, their order, and the numbers that they write.
pub mod OctetLaws
use Rattle.std.specs.Prelude.{ℕ, ◌<◌, List, take, drop}
use Rattle.std.specs.declared.cmp.Ordering.{Ordering}
use Rattle.std.specs.Ordering.{nat_cmp}
use Rattle.std.specs.Cmp.Lexicographic.{slice_cmp}
use Rattle.std.specs.List.{AllByRecursion}
use Rattle.std.specs.Int.Digits.{number_from_digits}

-- each number is an octet
abbrev pub AreOctets : List ℕ → Type 0
AreOctets octets = AllByRecursion (λ octet. octet < 256) octets

-- the number of so many octets at the place, the highest first (RFC 1035 2.3.2)
abbrev pub number_at : List ℕ → ℕ → ℕ → ℕ
number_at octets place width = number_from_digits 256 (take width (drop place octets))

-- Octets as unsigned numbers: where the first of two differ they decide, else the rests decide, and nothing is before
-- any octet (RFC 4034 6.1, 6.3). `slice_cmp` has these cases.
abbrev pub octets_cmp : List ℕ → List ℕ → Ordering
octets_cmp a b = slice_cmp nat_cmp a b
