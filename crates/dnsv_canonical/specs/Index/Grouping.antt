-- RRsets in groups of one owner and type, and how an index keeps them.
use Rattle.std.specs.Prelude.{◌≡◌, ◌≢◌, ◌⊎◌, ℕ, ◌+◌, ◌-◌, ◌≤◌, ⊤, List, [], ◌∷◌, length, take, drop, map, filter, flat_map, Result, Ok, Err, Some, slice_get}
use Rattle.std.specs.List.{AllByRecursion, enumerate_from}
use Rattle.std.specs.List.Sorted.{IsPermutation, IsSortedBy}
use Rattle.std.specs.Ordering.{is_eq, is_lt, nat_cmp, ordering_then}
use Rattle.std.specs.declared.cmp.Ordering.{Ordering}
use Rattle.std.specs.declared.cmp.Ordering.TheVariants.{Less, Equal, Greater}
use Rattle.dnsv_names.specs.Name.{Labels}
use Rattle.dnsv_names.specs.Order.{canonical_cmp}
use Rattle.dnsv_canonical.specs.Rrsets.{ReceivedRrset}

-- an RRset behind its number
abbrev pub Numbered : Type 0
Numbered = ℕ × ReceivedRrset

-- an owner and a type
abbrev pub Key : Type 0
Key = Labels × ℕ

abbrev pub key_of : ReceivedRrset → Key
key_of rrset = (rrset.owner, rrset.rtype)

-- by the owner in canonical order, and then by the type
abbrev pub key_cmp : Key → Key → Ordering
key_cmp a b = ordering_then (canonical_cmp a.0 b.0) (nat_cmp a.1 b.1)

-- how an RRset stands to an owner and type
abbrev pub stands : Numbered → Key → Ordering
stands numbered key = key_cmp (key_of numbered.1) key

-- the RRsets of the owner and type
abbrev pub group_at : List Numbered → Key → List Numbered
group_at all key = filter (λ numbered. is_eq (stands numbered key)) all

abbrev pub group_of : List Numbered → Numbered → List Numbered
group_of all first = group_at all (key_of first.1)

-- each comes before all behind it
abbrev pub AreRising : List Numbered → Type 0
AreRising [] = ⊤
AreRising (x ∷ xs) = AllByRecursion (λ y. stands x (key_of y.1) ≡ Less) xs × AreRising xs

-- one of these is of the RRset's owner and type
abbrev pub HasTie : List Numbered → Numbered → Type 0
HasTie [] x = ⊥
HasTie (first ∷ firsts) x = (stands first (key_of x.1) ≡ Equal) ⊎ HasTie firsts x

-- of each owner and type that RRsets have the first of these, in order
pub record AreFirsts (all firsts : List Numbered) : Type 0 where
  pub rising : AreRising firsts
  pub each : AllByRecursion (λ first. (others : List Numbered) × (group_of all first ≡ first ∷ others)) firsts
  pub every : AllByRecursion (HasTie firsts) all
  pub few : length firsts ≤ length all

-- the numbers of all groups
abbrev pub numbers_of : List (List Numbered) → List ℕ
numbers_of groups = flat_map (λ group. map (λ numbered. numbered.0) group) groups

-- where each group begins, the first at the place
abbrev pub starts_from : ℕ → List (List Numbered) → List ℕ
starts_from place [] = []
starts_from place (group ∷ groups) = place ∷ starts_from (place + length group) groups

-- the groups one behind the other, and where each begins
pub record AreLaid (groups : List (List Numbered)) (numbers starts : List ℕ) : Type 0 where
  pub numbers_are : numbers ≡ numbers_of groups
  pub starts_are : starts ≡ starts_from 0 groups

-- what an index of the RRsets keeps
pub record IsIndexOf (rrsets : List ReceivedRrset) (numbers starts : List ℕ) : Type 0 where
  pub firsts : List Numbered
  pub are : AreFirsts (enumerate_from 1 rrsets) firsts
  pub laid : AreLaid (map (group_of (enumerate_from 1 rrsets)) firsts) numbers starts

-- the first with the place is the RRset
abbrev pub IsFirstAt : List Numbered → ℕ → ReceivedRrset → Type 0
IsFirstAt firsts place rrset = (number : ℕ) × (slice_get firsts place ≡ Some (number, rrset))

-- the owner and type has this place among the firsts, or would have it
abbrev pub IsFound : List Numbered → Key → Result ℕ ℕ → Type 0
IsFound firsts key (Ok place) =
    (first : Numbered) × (slice_get firsts place ≡ Some first) × (stands first key ≡ Equal)
IsFound firsts key (Err place) =
    (place ≤ length firsts) × AllByRecursion (λ first. stands first key ≡ Less) (take place firsts)
    × AllByRecursion (λ first. stands first key ≡ Greater) (drop place firsts)

-- the RRsets by owner and type, and those of one owner and type in their order
pub record AreInOrder (all sorted : List Numbered) : Type 0 where
  pub same : IsPermutation all sorted
  pub rising : IsSortedBy (λ a b. is_lt (stands a (key_of b.1))) sorted
  pub groups : (x : Numbered) → group_of sorted x ≡ group_of all x

-- the groups' numbers and their beginnings are these
abbrev pub AreStarts : List ℕ → List ℕ → Type 0
AreStarts numbers starts = (groups : List (List Numbered)) × AreLaid groups numbers starts

-- so many of the firsts don't come behind the owner and type
abbrev pub IsPlaceBehind : List Numbered → Key → ℕ → Type 0
IsPlaceBehind firsts key place =
    AllByRecursion (λ first. stands first key ≢ Greater) (take place firsts)
    × AllByRecursion (λ first. stands first key ≡ Greater) (drop place firsts)

-- behind the groups before `from` so many more don't come behind the owner and type, up to the place
abbrev pub IsPlaceFrom : List Numbered → Key → ℕ → ℕ → Type 0
IsPlaceFrom firsts key from place =
    AllByRecursion (λ first. stands first key ≢ Greater) (take (place - from) (drop from firsts))
    × AllByRecursion (λ first. stands first key ≡ Greater) (drop place firsts)
