-- The laws of keys, for proofs: above and below, the line of a name's ancestors, and the order.
use Rattle.std.proofs.Common.{◌≡◌, ℕ, zero, suc, ◌≤◌, ◌<◌, ◌⊎◌, List, [], ◌∷◌, ◌++◌, length, take, drop, refl, sym, ap, ◌∙◌, arith, inl, inr, ⊎_elim, nat_eq}
use Rattle.std.proofs.lemmas.Cmp.{tied_itself, nat_list_cmp_total, lists_total}
use Rattle.std.proofs.lemmas.Bool.Decides.{Decides-and, Decides-eqb}
use Rattle.std.specs.Bool.{Decides}
use lib.Pointwise.{pointwise, pointwise_decides}
use Rattle.std.specs.declared.cmp.Ordering.{Ordering}
use Rattle.std.specs.declared.cmp.Ordering.TheVariants.{Less, Equal, Greater}
use Rattle.std.specs.Ordering.{ordering_then}
use Rattle.std.specs.Cmp.{IsTotalOrder, Equal-is}
use Rattle.std.specs.Cmp.Lexicographic.{texts_ties, bytes_decides}
use Rattle.dnsv_names.specs.Name.{Labels}
use Rattle.dnsv_names.specs.Order.{label_cmp}
use Rattle.dnsv_names.specs.Tree.Keys.{begins, begins_test, begins_and_goes_on, KeyAtOrBelow, KeyBelow, key_cmp, KeyBefore}

begins_itself : (key : Labels) → begins key key
begins_itself [] = tt
begins_itself (label ∷ key) = (refl, begins_itself key)

begins_trans : (x y z : Labels) → begins x y → begins y z → begins x z
begins_trans x y [] p q = tt
begins_trans x [] (c ∷ z) p q = absurd q
begins_trans [] (b ∷ y) (c ∷ z) p q = absurd p
begins_trans (a ∷ x) (b ∷ y) (c ∷ z) p q = (p.0 ∙ q.0, begins_trans x y z p.1 q.1)

begins_antisymm : (a b : Labels) → begins a b → begins b a → a ≡ b
begins_antisymm [] [] p q = refl
begins_antisymm [] (y ∷ b) p q = absurd p
begins_antisymm (x ∷ a) [] p q = absurd q
begins_antisymm (x ∷ a) (y ∷ b) p q = ap (λ label. label ∷ a) p.0 ∙ ap (λ key. y ∷ key) (begins_antisymm a b p.1 q.1)

begins_in_line : (x a b : Labels) → begins x a → begins x b → length a ≤ length b → begins b a
begins_in_line x [] b p q shorter = tt
begins_in_line x (c ∷ a) [] p q shorter = absurd (omega arith)
begins_in_line [] (c ∷ a) (d ∷ b) p q shorter = absurd p
begins_in_line (e ∷ x) (c ∷ a) (d ∷ b) p q shorter = (sym q.0 ∙ p.0, begins_in_line x a b p.1 q.1 (omega arith))

begins_length : (x a : Labels) → begins x a → length a ≤ length x
begins_length x [] p = omega arith
begins_length [] (c ∷ a) p = absurd p
begins_length (e ∷ x) (c ∷ a) p = omega (arith, begins_length x a p.1)

begins_take : (x a : Labels) → begins x a → take (length a) x ≡ a
begins_take x [] p = refl
begins_take [] (c ∷ a) p = absurd p
begins_take (e ∷ x) (c ∷ a) p = ap (λ label. label ∷ take (length a) x) p.0 ∙ ap (λ key. c ∷ key) (begins_take x a p.1)

take_begins : (n : ℕ) (x : Labels) → begins x (take n x)
take_begins zero x = tt
take_begins (suc n) [] = tt
take_begins (suc n) (e ∷ x) = (refl, take_begins n x)

append_begins : (a rest : Labels) → begins (a ++ rest) a
append_begins [] rest = tt
append_begins (c ∷ a) rest = (refl, append_begins a rest)

begins_rest : (x a : Labels) → begins x a → a ++ drop (length a) x ≡ x
begins_rest x [] p = refl
begins_rest [] (c ∷ a) p = absurd p
begins_rest (e ∷ x) (c ∷ a) p =
    ap (λ label. label ∷ (a ++ drop (length a) x)) (sym p.0) ∙ ap (λ key. e ∷ key) (begins_rest x a p.1)

-- each key is at or below itself
pub key_at_itself : (key : Labels) → KeyAtOrBelow key key
key_at_itself key = record { alike = begins_itself key }

pub key_at_or_below_trans : {x y z : Labels} → KeyAtOrBelow x y → KeyAtOrBelow y z → KeyAtOrBelow x z
key_at_or_below_trans {x} {y} {z} p q = record { alike = begins_trans x y z p.alike q.alike }

pub key_at_or_below_antisymm : {a b : Labels} → KeyAtOrBelow a b → KeyAtOrBelow b a → a ≡ b
key_at_or_below_antisymm {a} {b} p q = begins_antisymm a b p.alike q.alike

-- the root is above all
pub key_below_root : (key : Labels) → KeyAtOrBelow key []
key_below_root key = record { alike = tt }

-- what is above one name stands in one line
pub key_in_line : {x a b : Labels} → KeyAtOrBelow x a → KeyAtOrBelow x b → length a ≤ length b → KeyAtOrBelow b a
key_in_line {x} {a} {b} p q shorter = record { alike = begins_in_line x a b p.alike q.alike shorter }

pub key_length : {x a : Labels} → KeyAtOrBelow x a → length a ≤ length x
key_length {x} {a} p = begins_length x a p.alike

-- what is above is the first labels
pub key_take : {x a : Labels} → KeyAtOrBelow x a → take (length a) x ≡ a
key_take {x} {a} p = begins_take x a p.alike

pub take_key : (n : ℕ) (x : Labels) → KeyAtOrBelow x (take n x)
take_key n x = record { alike = take_begins n x }

-- a key with more labels is below it, or the same
pub append_key : (a rest : Labels) → KeyAtOrBelow (a ++ rest) a
append_key a rest = record { alike = append_begins a rest }

-- a key is what is above it, and more labels
pub key_rest : {x a : Labels} → KeyAtOrBelow x a → a ++ drop (length a) x ≡ x
key_rest {x} {a} p = begins_rest x a p.alike

goes_on_begins : (x a : Labels) → begins_and_goes_on x a → begins x a
goes_on_begins [] a p = absurd p
goes_on_begins (e ∷ x) [] p = tt
goes_on_begins (e ∷ x) (c ∷ a) p = (p.0, goes_on_begins x a p.1)

goes_on_length : (x a : Labels) → begins_and_goes_on x a → length a < length x
goes_on_length [] a p = absurd p
goes_on_length (e ∷ x) [] p = omega arith
goes_on_length (e ∷ x) (c ∷ a) p = omega (arith, goes_on_length x a p.1)

longer_goes_on : (x a : Labels) → begins x a → length a < length x → begins_and_goes_on x a
longer_goes_on [] a p longer = absurd (omega arith)
longer_goes_on (e ∷ x) [] p longer = tt
longer_goes_on (e ∷ x) (c ∷ a) p longer = (p.0, longer_goes_on x a p.1 (omega arith))

begins_cases : (x a : Labels) → begins x a → (x ≡ a) ⊎ begins_and_goes_on x a
begins_cases [] [] p = inl refl
begins_cases (e ∷ x) [] p = inr tt
begins_cases [] (c ∷ a) p = absurd p
begins_cases (e ∷ x) (c ∷ a) p =
    ⊎_elim (λ (same : x ≡ a). inl (ap (λ label. label ∷ x) p.0 ∙ ap (λ key. c ∷ key) same)) (λ (more : begins_and_goes_on x a). inr (p.0, more)) (begins_cases x a p.1)

pub key_below_at : {x a : Labels} → KeyBelow x a → KeyAtOrBelow x a
key_below_at {x} {a} p = record { alike = goes_on_begins x a p.alike }

pub key_below_length : {x a : Labels} → KeyBelow x a → length a < length x
key_below_length {x} {a} p = goes_on_length x a p.alike

pub key_longer_below : {x a : Labels} → KeyAtOrBelow x a → length a < length x → KeyBelow x a
key_longer_below {x} {a} p longer = record { alike = longer_goes_on x a p.alike longer }

-- at or below is at, or below
pub key_at_or_below_cases : {x a : Labels} → KeyAtOrBelow x a → (x ≡ a) ⊎ KeyBelow x a
key_at_or_below_cases {x} {a} p =
    ⊎_elim (λ (same : x ≡ a). inl same) (λ (more : begins_and_goes_on x a). inr (record { alike = more })) (begins_cases x a p.alike)

pub key_below_irrefl : {x : Labels} → KeyBelow x x → ⊥
key_below_irrefl {x} p = omega (arith, key_below_length p)

pub key_below_trans_at : {x y z : Labels} → KeyBelow x y → KeyAtOrBelow y z → KeyBelow x z
key_below_trans_at p q =
    key_longer_below (key_at_or_below_trans (key_below_at p) q) (omega (arith, key_below_length p, key_length q))

pub key_at_trans_below : {x y z : Labels} → KeyAtOrBelow x y → KeyBelow y z → KeyBelow x z
key_at_trans_below p q =
    key_longer_below (key_at_or_below_trans p (key_below_at q)) (omega (arith, key_length p, key_below_length q))

-- the order of keys is total, and ties no two
pub key_cmp_total : IsTotalOrder key_cmp
key_cmp_total = lists_total nat_list_cmp_total

pub label_cmp_exact : (a b : List ℕ) → label_cmp a b ≡ Equal → a ≡ b
label_cmp_exact a b tied = (bytes_decides a b).0 (texts_ties a b ∙ (Equal-is (label_cmp a b)).1 tied)

then_tied : (o p : Ordering) → ordering_then o p ≡ Equal → (o ≡ Equal) × (p ≡ Equal)
then_tied Less p tied = absurd (cc)
then_tied Equal p tied = (refl, tied)
then_tied Greater p tied = absurd (cc)

pub key_cmp_exact : (a b : Labels) → key_cmp a b ≡ Equal → a ≡ b
key_cmp_exact [] [] tied = refl
key_cmp_exact [] (d ∷ b) tied = absurd (cc)
key_cmp_exact (c ∷ a) [] tied = absurd (cc)
key_cmp_exact (c ∷ a) (d ∷ b) tied =
    let both = then_tied (label_cmp c d) (key_cmp a b) tied in
    ap (λ label. label ∷ a) (label_cmp_exact c d both.0) ∙ ap (λ key. d ∷ key) (key_cmp_exact a b both.1)

below_less : (x a : Labels) → begins_and_goes_on x a → key_cmp a x ≡ Less
below_less [] a p = absurd p
below_less (e ∷ x) [] p = refl
below_less (e ∷ x) (c ∷ a) p =
    ap (λ label. ordering_then (label_cmp c label) (key_cmp a x)) p.0 ∙ ap (λ o. ordering_then o (key_cmp a x)) (tied_itself nat_list_cmp_total c) ∙ below_less x a p.1

-- a key comes before each below it
pub key_before_below : {x a : Labels} → KeyBelow x a → KeyBefore a x
key_before_below {x} {a} p = record { less = below_less x a p.alike }

pub key_at_or_before : {x a : Labels} → KeyAtOrBelow x a → (x ≡ a) ⊎ KeyBefore a x
key_at_or_before {x} {a} p =
    ⊎_elim (λ (same : x ≡ a). inl same) (λ (below : KeyBelow x a). inr (key_before_below below)) (key_at_or_below_cases p)

-- where heads are tied the rests decide
heads : (o : Ordering) (p q : Ordering) → ordering_then o p ≡ Less → (o ≡ Equal → p ≡ Less → q ≡ Less)
    → ordering_then o q ≡ Less
heads Less p q first rest = refl
heads Equal p q first rest = rest refl first
heads Greater p q first rest = absurd (cc)

behind_all : (a x y : Labels) → key_cmp a y ≡ Less → (begins y a → ⊥) → begins x a → key_cmp x y ≡ Less
behind_all [] x y first apart p = absurd (apart tt)
behind_all (c ∷ a) x [] first apart p = absurd (cc)
behind_all (c ∷ a) [] (d ∷ y) first apart p = absurd p
behind_all (c ∷ a) (e ∷ x) (d ∷ y) first apart p =
    ap (λ label. ordering_then (label_cmp label d) (key_cmp x y)) p.0
    ∙ heads (label_cmp c d) (key_cmp a y) (key_cmp x y) first
    (λ tied rest. behind_all a x y rest (λ more. apart (sym (label_cmp_exact c d tied), more)) p.1)

-- what comes behind a key, and isn't at or below it, comes behind all that is
pub key_behind_all : {a x y : Labels} → KeyBefore a y → (KeyAtOrBelow y a → ⊥) → KeyAtOrBelow x a → KeyBefore x y
key_behind_all {a} {x} {y} first apart p =
    record { less = behind_all a x y first.less (λ more. apart (record { alike = more })) p.alike }

-- the test of `begins`
label_test_Decides : (a b : List ℕ) → Decides (pointwise nat_eq a b) (a ≡ b)
label_test_Decides = pointwise_decides Decides-eqb

begins_test_Decides : (key above : Labels) → Decides (begins_test key above) (begins key above)
begins_test_Decides key [] = (λ yes. tt, λ holds. refl)
begins_test_Decides [] (label ∷ above) = (λ yes. cc, λ holds. absurd holds)
begins_test_Decides (own ∷ key) (label ∷ above) =
    Decides-and _ _ (label_test_Decides own label) (begins_test_Decides key above)

pub key_test_Decides : (key above : Labels) → Decides (begins_test key above) (KeyAtOrBelow key above)
key_test_Decides key above =
    let test = begins_test_Decides key above in
    (λ yes. record { alike = test.0 yes }, λ holds. test.1 holds.alike)
