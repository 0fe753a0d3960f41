-- An index in the making. No public clause cites this module.
use Rattle.std.specs.Prelude.{◌≡◌, ℕ, List, [], ◌∷◌, ◌++◌, drop, map, Option, Some, None}
use denote.Ref.{Bor}
use Rattle.std.specs.List.{AllByRecursion}
use Rattle.std.specs.declared.cmp.Ordering.TheVariants.{Equal}
use Rattle.dnsv_canonical.specs.Rrsets.{ReceivedRrset}
use Rattle.dnsv_canonical.specs.Index.Grouping.{AreFirsts, AreLaid, Key, Numbered, group_of, key_cmp, key_of}
use Rattle.dnsv_canonical.specs.declared.capture.index.merged.Merged.{Merged}

-- the RRset is that of the last of the firsts, if there is one
abbrev pub IsLast : List Numbered → Option (Bor ReceivedRrset) → Type 0
IsLast firsts None = firsts ≡ []
IsLast firsts (Some rrset) = (front : List Numbered) × (number : ℕ) × (firsts ≡ front ++ (number, rrset.now) ∷ [])

-- the last RRset is of the owner and type
abbrev pub EndsWith : Option (Bor ReceivedRrset) → Key → Type 0
EndsWith None key = ⊥
EndsWith (Some rrset) key = key_cmp (key_of rrset.now) key ≡ Equal

-- It has the groups of these firsts among all RRsets, and comes from an index of the held ones with the firsts `kept`.
-- Of those that aren't copied yet, the groups among all RRsets are those among the held ones.
pub record IsMerged (held kept all firsts : List Numbered) (merged : Merged) : Type 0 where
  pub are : AreFirsts all (firsts ++ drop merged.copied kept)
  pub laid : AreLaid (map (group_of all) firsts) merged.index.numbers.items merged.index.starts.items
  pub left : AllByRecursion (λ first. group_of all first ≡ group_of held first) (drop merged.copied kept)
  pub last : IsLast firsts merged.last
