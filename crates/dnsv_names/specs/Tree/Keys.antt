-- Names by their keys, which `from_the_right` gives: the labels in lower case, the rightmost first. On keys
-- equality is `≡`, to be at or below is to begin alike, and canonical order is the order of lists.
use Rattle.std.specs.Prelude.{◌≡◌, Bool, true, false, ◌&&◌, [], ◌∷◌, nat_eq, ⊤}
use Rattle.std.specs.declared.cmp.Ordering.{Ordering}
use Rattle.std.specs.declared.cmp.Ordering.TheVariants.{Less}
use Rattle.std.specs.Cmp.Lexicographic.{slice_cmp, pointwise}
use Rattle.dnsv_names.specs.Name.{Labels}
use Rattle.dnsv_names.specs.Order.{label_cmp, from_the_right}

-- the key begins with the labels of `above`
abbrev pub begins : Labels → Labels → Type 0
begins key [] = ⊤
begins [] (label ∷ above) = ⊥
begins (own ∷ key) (label ∷ above) = (own ≡ label) × begins key above

-- the test of it
abbrev pub begins_test : Labels → Labels → Bool
begins_test key [] = true
begins_test [] (label ∷ above) = false
begins_test (own ∷ key) (label ∷ above) = pointwise nat_eq own label && begins_test key above

-- it begins with the labels of `above`, and more follow
abbrev pub begins_and_goes_on : Labels → Labels → Type 0
begins_and_goes_on [] above = ⊥
begins_and_goes_on (own ∷ key) [] = ⊤
begins_and_goes_on (own ∷ key) (label ∷ above) = (own ≡ label) × begins_and_goes_on key above

-- the name with this key is the one with the key `above`, or below it
pub record KeyAtOrBelow (key above : Labels) : Type 0 where
  pub alike : begins key above

-- it is below it
pub record KeyBelow (key above : Labels) : Type 0 where
  pub alike : begins_and_goes_on key above

-- canonical order on keys
abbrev pub key_cmp : Labels → Labels → Ordering
key_cmp a b = slice_cmp label_cmp a b

-- a comes before b
pub record KeyBefore (a b : Labels) : Type 0 where
  pub less : key_cmp a b ≡ Less

-- the test of `IsAtOrBelow`
abbrev pub is_at_or_below : Labels → Labels → Bool
is_at_or_below name above = begins_test (from_the_right name) (from_the_right above)
