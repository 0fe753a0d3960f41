-- Circles: finite lists of values in a total order, the greatest of which the least follows (RFC 4034 4.1.1,
-- RFC 5155 3.1.7). `cmp` is the order, and values that it ties are equal here.
pub mod CircleLaws
pub mod NameCircleLaws
use Rattle.std.specs.Prelude.{◌≡◌, ◌≢◌, Bool, not, ◌&&◌, ◌||◌, List, [], ◌∷◌, ◌⊎◌}
use Rattle.std.specs.Ordering.{is_lt, is_eq}
use Rattle.std.specs.declared.cmp.Ordering.{Ordering}
use Rattle.std.specs.declared.cmp.Ordering.TheVariants.{Less, Equal, Greater}

-- By how the owner stands to the next: between the two; behind the last or before the first, where the owner is
-- the last; anywhere but at the owner, where it is alone.
abbrev pub between : Ordering → Ordering → Ordering → Type 0
between Less owner_to_x x_to_next = (owner_to_x ≡ Less) × (x_to_next ≡ Less)
between Greater owner_to_x x_to_next = (owner_to_x ≡ Less) ⊎ (x_to_next ≡ Less)
between Equal owner_to_x x_to_next = owner_to_x ≢ Equal

-- x lies in the gap that begins behind the owner and ends before the next
pub record Gap {K : Type 0} (cmp : K → K → Ordering) (owner next x : K) : Type 0 where
  pub lies : between (cmp owner next) (cmp owner x) (cmp x next)

-- the tests of both
abbrev pub is_between : Ordering → Ordering → Ordering → Bool
is_between Less owner_to_x x_to_next = is_lt owner_to_x && is_lt x_to_next
is_between Greater owner_to_x x_to_next = is_lt owner_to_x || is_lt x_to_next
is_between Equal owner_to_x x_to_next = not (is_eq owner_to_x)

abbrev pub is_in_gap : {K : Type 0} → (K → K → Ordering) → K → K → K → Bool
is_in_gap cmp owner next x = is_between (cmp owner next) (cmp owner x) (cmp x next)

-- x is the head of the list, or in its tail
abbrev pub has : {K : Type 0} → (K → K → Ordering) → List K → K → Type 0
has cmp [] x = ⊥
has cmp (member ∷ members) x = (cmp x member ≡ Equal) ⊎ has cmp members x

-- x equals a member
pub record IsMember {K : Type 0} (cmp : K → K → Ordering) (members : List K) (x : K) : Type 0 where
  pub there : has cmp members x

-- the next is a member, and no member lies between the owner and it
pub record IsSuccessor {K : Type 0} (cmp : K → K → Ordering) (members : List K) (owner next : K) : Type 0 where
  pub member : IsMember cmp members next
  pub none_between : (x : K) → IsMember cmp members x → ¬ Gap cmp owner next x
