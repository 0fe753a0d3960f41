-- What has to be mended so that a question is answered, denied or shown to be unsigned, and which of some ways is the cheapest.
-- Prices, and what has to be mended of zones and RRsets, are those of `dnsv_mending`.
use Rattle.std.specs.Prelude.{◌≡◌, List, [], ◌∷◌, ◌++◌, ◌||◌, Option, Some, None, Bool, true, false, if◌then◌else◌, map}
use Rattle.std.specs.List.{AllByRecursion, list_any}
use Rattle.std.specs.Option.{option_map}
use Rattle.dnsv_mending.specs.Mend.{Mended}
use Rattle.dnsv_mending.specs.Price as price
use Rattle.dnsv_mending.specs.Price.{is_cheaper}
use Rattle.dnsv_mending.specs.declared.price.Class.{Class}
use Rattle.dnsv_mending.specs.declared.price.Class.TheVariants as class
use Rattle.dnsv_mending.specs.declared.price.Price.{Price}
use Rattle.dnsv_remedies.specs.Said.{is_reason}
use Rattle.dnsv_remedies.specs.declared.facts.name.UnusableFacts.{UnusableFacts}
use Rattle.dnsv_remedies.specs.declared.remedy.Remedy.{Remedy}
use Rattle.dnsv_remedies.specs.declared.said.Said.{Said}
use Rattle.dnsv_remedies.specs.declared.said.Said.TheVariants as said

-- a price, what is told of the chain that a thing stands on, what is told of the thing itself, and whether a part of a proof is
-- missing in it
pub record Remedied : Type 0 where
  pub price : Price
  pub chain : List Said
  pub own : List Said
  pub lacks : Bool

-- one that is kept
abbrev pub seen : Remedy → Remedied
seen m = record { price = m.price; chain = m.chain.items; own = m.own.items; lacks = m.lacks }

-- nothing has to be mended
abbrev pub nothing : Remedied
nothing = record { price = price.none; chain = []; own = []; lacks = false }

-- what has to be mended so that a zone is trusted or an RRset signed: no part of a proof is missing in that
abbrev pub whole : Mended → Remedied
whole m = record { price = m.price; chain = map said.Trust m.chain; own = map said.Trust m.own; lacks = false }

-- a fault that is told, and one of which nothing is told
abbrev pub fault : Class → Said → Remedied
fault c line = record { price = price.one c; chain = []; own = line ∷ []; lacks = false }

abbrev pub untold : Class → Remedied
untold c = record { price = price.one c; chain = []; own = []; lacks = false }

-- a part that is missing: one fault, whatever number of lines tells of it
abbrev pub missing : Class → List Said → Remedied
missing c lines = record { price = price.one c; chain = []; own = lines; lacks = true }

-- all is missing, and nothing tells of it
abbrev pub gap : Remedied
gap = missing class.Lacking []

-- M and N
abbrev pub both : Remedied → Remedied → Remedied
both m n = record { price = price.add m.price n.price; chain = m.chain ++ n.chain; own = m.own ++ n.own; lacks = m.lacks || n.lacks }

-- M, then N: M is the chain of N
abbrev pub following : Remedied → Remedied → Remedied
following m n = record { price = price.add m.price n.price; chain = (m.chain ++ m.own) ++ n.chain; own = n.own; lacks = m.lacks || n.lacks }

-- M, then N, where there is a way to M
abbrev pub after : Option Mended → Remedied → List Remedied
after None n = []
after (Some m) n = following (whole m) n ∷ []

-- M and N, where there is a way to M
abbrev pub beside : Option Mended → Remedied → List Remedied
beside None n = []
beside (Some m) n = both (whole m) n ∷ []

-- a way that may not be there
abbrev pub ways_of : Option Remedied → List Remedied
ways_of None = []
ways_of (Some m) = m ∷ []

-- It fails by itself, and not its chain alone: something is missing, or one of its own lines is a reason.
abbrev pub fails_alone : Remedied → Bool
fails_alone m = m.lacks || list_any is_reason m.own

-- with the line at its end, which costs nothing, where it fails by itself
abbrev pub ended : Said → Remedied → Remedied
ended line m = if fails_alone m then record m { own = m.own ++ line ∷ [] } else m

-- the NSEC3 records of a zone that can't be used
unfoldable pub unusable_line : UnusableFacts → Said
unusable_line u = said.Nsec3 u.why u.number

abbrev pub unusable_lines : List UnusableFacts → List Said
unusable_lines unusable = map unusable_line unusable

-- with them in front, where something is missing
abbrev pub with_unusable : List UnusableFacts → Remedied → Remedied
with_unusable unusable m = if m.lacks then record m { own = unusable_lines unusable ++ m.own } else m

-- a way of the price is the first, or cheaper than the best one so far
abbrev pub is_better : Price → Option Remedied → Bool
is_better p None = true
is_better p (Some best) = is_cheaper p best.price

-- the cheaper one, and the first of two that cost the same
abbrev pub better : Option Remedied → Remedied → Remedied
better None m = m
better (Some best) m = if is_cheaper m.price best.price then m else best

abbrev pub least_from : Option Remedied → List Remedied → Option Remedied
least_from best [] = best
least_from best (m ∷ ms) = least_from (Some (better best m)) ms

-- the first of the least price, by `IsFirstOfLeast`; of none there is none
abbrev pub least : List Remedied → Option Remedied
least ms = least_from None ms

-- those in front of it are dearer, and none behind it is cheaper
pub record IsFirstOfLeast (m : Remedied) (ms : List Remedied) : Type 0 where
  pub front : List Remedied
  pub behind : List Remedied
  pub stands : ms ≡ front ++ m ∷ behind
  pub dearer : AllByRecursion (λ other. is_cheaper m.price other.price ≡ true) front
  pub least : AllByRecursion (λ other. is_cheaper other.price m.price ≡ false) behind

-- of none, all is missing
abbrev pub or_gap : Option Remedied → Remedied
or_gap None = gap
or_gap (Some m) = m

-- the best way so far, new, is the cheapest of the one before it, old, and of these ways
abbrev pub Offers : List Remedied → Option Remedy → Option Remedy → Type 0
Offers ways old new = option_map seen new ≡ least_from (option_map seen old) ways
