-- What has to be mended on a way, and which of some ways is the cheapest.
use Rattle.std.specs.Prelude.{◌≡◌, List, [], ◌∷◌, ◌++◌, Option, Some, None, Bool, true, false, if◌then◌else◌}
use Rattle.std.specs.List.{AllByRecursion}
use Rattle.std.specs.Option.{option_map}
use Rattle.dnsv_mending.specs.Price as price
use Rattle.dnsv_mending.specs.Price.{is_cheaper}
use Rattle.dnsv_mending.specs.Told.{cost}
use Rattle.dnsv_mending.specs.declared.mend.Mend.{Mend}
use Rattle.dnsv_mending.specs.declared.price.Class.{Class}
use Rattle.dnsv_mending.specs.declared.price.Price.{Price}
use Rattle.dnsv_mending.specs.declared.told.Told.{Told}

-- a price, what is told of the chain that a thing stands on, and what is told of the thing itself
pub record Mended : Type 0 where
  pub price : Price
  pub chain : List Told
  pub own : List Told

-- one that is kept
abbrev pub seen : Mend → Mended
seen m = record { price = m.price; chain = m.chain.items; own = m.own.items }

-- Nothing has to be mended. That is a way; where there is none, nothing leads to the thing at all.
abbrev pub nothing : Mended
nothing = record { price = price.none; chain = []; own = [] }

-- a fault that is told
abbrev pub fault : Told → Mended
fault told = record { price = cost told; chain = []; own = told ∷ [] }

-- a fault of which nothing is told
abbrev pub untold : Class → Mended
untold class = record { price = price.one class; chain = []; own = [] }

-- what lines cost together, beside what was there
abbrev pub cost_from : Price → List Told → Price
cost_from p [] = p
cost_from p (line ∷ lines) = cost_from (price.add p (cost line)) lines

-- faults that are told
abbrev pub telling : List Told → Mended
telling lines = record { price = cost_from price.none lines; chain = []; own = lines }

-- M and N
abbrev pub both : Mended → Mended → Mended
both m n = record { price = price.add m.price n.price; chain = m.chain ++ n.chain; own = m.own ++ n.own }

-- M, then N: M is the chain of N
abbrev pub following : Mended → Mended → Mended
following m n = record { price = price.add m.price n.price; chain = (m.chain ++ m.own) ++ n.chain; own = n.own }

-- the same of a way that may not be there: where nothing leads to M, nothing leads to N
abbrev pub after : Option Mended → Mended → List Mended
after None n = []
after (Some m) n = following m n ∷ []

-- there are none
abbrev pub is_none : {X : Type 0} → List X → Bool
is_none [] = true
is_none (x ∷ xs) = false

-- a way that may not be there
abbrev pub ways_of : Option Mended → List Mended
ways_of None = []
ways_of (Some m) = m ∷ []

-- a fault that may not be there, and N
abbrev pub with_fault : Option Told → Mended → Mended
with_fault None n = n
with_fault (Some told) n = both (fault told) n

-- M, then a fault that may not be there and N, where there is a way to M and one to N
abbrev pub joined : Option Mended → Option Told → Option Mended → List Mended
joined None told n = []
joined (Some m) told None = []
joined (Some m) told (Some n) = following m (with_fault told n) ∷ []

-- a way of the price is the first, or cheaper than the best one so far
abbrev pub is_better : Price → Option Mended → Bool
is_better price None = true
is_better price (Some best) = is_cheaper price best.price

-- the cheaper one, and the first of two that cost the same
abbrev pub better : Option Mended → Mended → Mended
better None m = m
better (Some best) m = if is_cheaper m.price best.price then m else best

abbrev pub cheapest_from : Option Mended → List Mended → Option Mended
cheapest_from best [] = best
cheapest_from best (m ∷ ms) = cheapest_from (Some (better best m)) ms

-- the first of the least price, by `IsFirstOfLeast`; of none there is none
abbrev pub cheapest : List Mended → Option Mended
cheapest ms = cheapest_from None ms

-- those in front of it are dearer, and none behind it is cheaper
pub record IsFirstOfLeast (m : Mended) (ms : List Mended) : Type 0 where
  pub front : List Mended
  pub behind : List Mended
  pub stands : ms ≡ front ++ m ∷ behind
  pub dearer : AllByRecursion (λ other. is_cheaper m.price other.price ≡ true) front
  pub least : AllByRecursion (λ other. is_cheaper other.price m.price ≡ false) behind

-- the best way so far, new, is the cheapest of the one before it, old, and of these ways
abbrev pub Offers : List Mended → Option Mend → Option Mend → Type 0
Offers ways old new = option_map seen new ≡ cheapest_from (option_map seen old) ways
