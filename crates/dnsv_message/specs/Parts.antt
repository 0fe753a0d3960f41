-- RDATA in parts, its names written out: some octets, then names, then some octets more.
use Rattle.std.specs.Prelude.{◌≡◌, ℕ, List, ◌++◌, length, flat_map, Option}
use Rattle.std.specs.List.{AllByRecursion}
use Rattle.dnsv_names.specs.Name.{Labels, IsName, wire}
use Rattle.dnsv_message.specs.Layout.{layout_of}
use Rattle.dnsv_message.specs.Grammar.{IsTail}

-- how many octets stand before the names of RDATA of the type and class
abbrev pub head_size : ℕ → ℕ → ℕ
head_size rtype class = (layout_of rtype class).head

-- how many names it has
abbrev pub name_count : ℕ → ℕ → ℕ
name_count rtype class = (layout_of rtype class).names

-- how many octets stand behind them, or none where any number may
abbrev pub tail_size : ℕ → ℕ → Option ℕ
tail_size rtype class = (layout_of rtype class).tail

-- octets, names and octets as RDATA of the type and class has them
pub record AreParts (rtype class : ℕ) (before : List ℕ) (names : List Labels) (behind : List ℕ) : Type 0 where
  pub head : length before ≡ head_size rtype class
  pub count : length names ≡ name_count rtype class
  pub each : AllByRecursion IsName names
  pub tail : IsTail (tail_size rtype class) (length behind)

-- the RDATA of these parts, no name compressed
abbrev pub rdata_of : List ℕ → List Labels → List ℕ → List ℕ
rdata_of before names behind = before ++ flat_map wire names ++ behind

-- the RDATA has the parts that its type and class ask for
abbrev pub HasParts : ℕ → ℕ → List ℕ → Type 0
HasParts rtype class rdata =
    (before : List ℕ) × (names : List Labels) × (behind : List ℕ) × AreParts rtype class before names behind
    × (rdata ≡ rdata_of before names behind)
