-- How the names of keys are kept, to find one again. No public clause cites this module.
use Rattle.std.specs.Prelude.{◌≡◌, ℕ, List, Bool, Vec, is_some}
use Rattle.std.specs.BTreeSet.{BTreeSet, contains_by}
use Rattle.std.specs.Cmp.Lexicographic.{slice_cmp}
use Rattle.std.specs.Ordering.{nat_cmp}
use Rattle.dnsv_names.specs.Name.{Labels, lower_case, wire}
use Rattle.dnsv_tsig.specs.Key.{SharedKey, key_named}

-- whether an equal name is there, as its wire form in lower case
abbrev pub has_name : {Y : Type 0} → BTreeSet (Vec ℕ Y) → Labels → Bool
has_name names name = contains_by (λ each. slice_cmp nat_cmp (wire (lower_case name)) each.items) names

-- the names are those of the keys
pub record AreNamesOf {Y : Type 0} (names : BTreeSet (Vec ℕ Y)) (keys : List SharedKey) : Type 0 where
  pub same : (name : Labels) → has_name names name ≡ is_some (key_named name keys)
