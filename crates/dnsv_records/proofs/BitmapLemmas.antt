-- Sets of types and their blocks.
use Rattle.std.proofs.Common.{◌≡◌, ◌≢◌, ℕ, zero, suc, ◌+◌, ◌-◌, ◌*◌, ◌/◌, ◌%◌, ◌^◌, ◌<◌, ◌≤◌, Bool, true, false, cond, eqb, ◌||◌, List, [], ◌∷◌, length, get_or, refl, sym, ap, ◌∙◌, subst, arith, inl, inr, ⊎_elim}
use Rattle.std.proofs.lemmas.Bool.{cases_lt, cond-true, cond-false, eqb-true, eqb-false, eq-eqb, false_from_ne_true}
use mathlib.Core.Bool.{true≢false}
use Rattle.std.proofs.lemmas.Bool.Decides.{eqb_tells}
use Rattle.std.proofs.lemmas.List.{get_or_past, get_or_default, same_lists}
use Rattle.std.proofs.lemmas.Nat.Bits.{bit_at-zero, bit_at-trailing_zeros, bit_at-lt, same_from_bits_below}
use Rattle.std.proofs.lemmas.List.Elements.{All-get_or, All-from_recursion}
use Rattle.std.specs.Int.{bit_at, trailing_zeros, w8}
use Rattle.std.specs.List.{AllByRecursion, flat_map}
use Rattle.std.specs.Ordering.{nat_cmp}
use Rattle.std.specs.Cmp.{nat_cmp_total, unsigned_tied}
use Rattle.std.specs.FinSet as set
use Rattle.dnsv_records.specs.Bitmap.{Types, Block, block_octets, has_bit, IsBlockOf, WindowsRise, HasWindow, Bitmap}
use Rattle.dnsv_records.specs.Bitmap.Blocks.{blocks_of, bits_of, has_type, types_below, types_of, IsGoodBlock, AreBlocks}
use Rattle.dnsv_records.proofs.BlockLemmas.{blocks_of-flat_map, AreBlocks-from}

-- facts on each element, carried over
pub recursion-map : {X : Type 0} (P Q : X → Type 0) → ((x : X) → P x → Q x) → (xs : List X) → AllByRecursion P xs → AllByRecursion Q xs
recursion-map P Q f [] p = tt
recursion-map P Q f (x ∷ xs) p = (f x p.0, recursion-map P Q f xs p.1)

pub recursion-both : {X : Type 0} (P Q : X → Type 0) → (xs : List X) → AllByRecursion P xs → AllByRecursion Q xs → AllByRecursion (λ x. P x × Q x) xs
recursion-both P Q [] p q = tt
recursion-both P Q (x ∷ xs) p q = ((p.0, q.0), recursion-both P Q xs p.1 q.1)

-- what the types below a number are
contains-insert_nat : (types : Types) (n t : ℕ) → set.contains (set.insert types n) t ≡ (eqb t n || set.contains types t)
contains-insert_nat types n t = set.contains-insert nat_cmp_total types n t ∙ ap (λ b. b || set.contains types t) (unsigned_tied t n)

below_out : (n : ℕ) (test : ℕ → Bool) (t : ℕ) → n ≤ t → set.contains (types_below n test) t ≡ false
unfolding types_below
below_out zero test t out = set.contains-empty nat_cmp t
below_out (suc n) test t out =
    let apart : eqb t n ≡ false = false_from_ne_true (eqb t n) (λ e. let same = eqb-true t n e in omega arith) in
    elim (test n) as (λ b. set.contains (cond b (set.insert (types_below n test) n) (types_below n test)) t ≡ false) [
      | true ↦ contains-insert_nat (types_below n test) n t ∙ ap (λ b. b || set.contains (types_below n test) t) apart ∙ below_out n test t (omega arith)
      | false ↦ below_out n test t (omega arith)
    ]

below_in : (n : ℕ) (test : ℕ → Bool) (t : ℕ) → t < n → set.contains (types_below n test) t ≡ test t
unfolding types_below
below_in zero test t within = absurd (omega arith)
below_in (suc n) test t within =
    ⊎_elim
    (λ (yes : (eqb t n ≡ true) × (t ≡ n)).
    elim (test n) as (λ b. test n ≡ b → set.contains (cond b (set.insert (types_below n test) n) (types_below n test)) t ≡ test t) [
      | true ↦ λ is. contains-insert_nat (types_below n test) n t ∙ ap (λ b. b || set.contains (types_below n test) t) yes.0 ∙ sym is ∙ ap test (sym yes.1)
      | false ↦ λ is. below_out n test t (omega arith) ∙ sym is ∙ ap test (sym yes.1)
    ] refl)
    (λ (no : (eqb t n ≡ false) × (t ≢ n)).
    let smaller : t < n = omega arith in
    elim (test n) as (λ b. set.contains (cond b (set.insert (types_below n test) n) (types_below n test)) t ≡ test t) [
      | true ↦ contains-insert_nat (types_below n test) n t ∙ ap (λ b. b || set.contains (types_below n test) t) no.0 ∙ below_in n test t smaller
      | false ↦ below_in n test t smaller
    ])
    (eqb_tells t n)

pub types_of-in : (octets : List ℕ) (t : ℕ) → t < 65536 → set.contains (types_of octets) t ≡ has_type (blocks_of octets) t
unfolding types_of
types_of-in octets t small = below_in 65536 (has_type (blocks_of octets)) t small

pub types_of-out : (octets : List ℕ) (t : ℕ) → 65536 ≤ t → set.contains (types_of octets) t ≡ false
unfolding types_of
types_of-out octets t large = below_out 65536 (has_type (blocks_of octets)) t large

has_bit-nil : (b : ℕ) → has_bit [] b ≡ false
has_bit-nil b = ap (λ n. eqb n 1) (bit_at-zero (7 - b % 8))

type_is : (t : ℕ) → 256 * (t / 256) + t % 256 ≡ t
type_is t = omega arith

-- a window's bits are its members, and where it has no block it has no bits
pub data Found (types : Types) (blocks : List Block) (window : ℕ) : Type 0 where
  held : ((b : ℕ) → b < 256 → set.contains types (256 * window + b) ≡ has_bit (bits_of blocks window) b) → Found types blocks window
  missing : (HasWindow blocks window → ⊥) → bits_of blocks window ≡ [] → Found types blocks window

window_found : (types : Types) (blocks : List Block) (window : ℕ) → AllByRecursion (IsBlockOf types) blocks → Found types blocks window
window_found types [] window each = missing (λ none. none) refl
window_found types (block ∷ blocks) window each =
    ⊎_elim
    (λ (yes : (eqb block.window window ≡ true) × (block.window ≡ window)). held (λ b small.
    ap (λ w. set.contains types (256 * w + b)) (sym yes.1) ∙ each.0.members b small
    ∙ ap (λ bits. has_bit bits b) (sym (cond-true (eqb block.window window) block.bits (bits_of blocks window) yes.0))))
    (λ (no : (eqb block.window window ≡ false) × (block.window ≢ window)).
    let at : bits_of (block ∷ blocks) window ≡ bits_of blocks window = cond-false (eqb block.window window) block.bits (bits_of blocks window) no.0 in
    elim (window_found types blocks window each.1) [
      | held members ↦ held (λ b small. members b small ∙ ap (λ bits. has_bit bits b) (sym at))
      | missing none empty ↦ missing (λ has. ⊎_elim no.1 none has) (at ∙ empty)
    ])
    (eqb_tells block.window window)

-- the set that octets spell has just the types whose bits are set
pub contains-Bitmap : (octets : List ℕ) (types : Types) (spelled : Bitmap octets types) (t : ℕ) → set.contains types t ≡ has_type (blocks_of octets) t
contains-Bitmap octets types spelled t =
    let same : has_type spelled.blocks t ≡ has_type (blocks_of octets) t =
    ap (λ blocks. has_type blocks t) (sym (ap blocks_of spelled.written ∙ blocks_of-flat_map spelled.blocks)) in
    elim (window_found types spelled.blocks (t / 256) spelled.each) [
      | held members ↦ ap (set.contains types) (sym (type_is t)) ∙ members (t % 256) (omega arith) ∙ same
      | missing none empty ↦
          false_from_ne_true (set.contains types t) (λ is. none (spelled.all t is))
          ∙ sym (ap (λ bits. has_bit bits (t % 256)) empty ∙ has_bit-nil (t % 256)) ∙ same
    ]

-- octets spell at most one set
pub same_types : (octets : List ℕ) (a b : Types) → Bitmap octets a → Bitmap octets b → a ≡ b
same_types octets a b p q =
    set.same_set nat_cmp_total set.nat_cmp-IsAntisymmetric a b (λ t. contains-Bitmap octets a p t ∙ sym (contains-Bitmap octets b q t))

has_window_at : (blocks : List Block) (window b : ℕ) → has_bit (bits_of blocks window) b ≡ true → HasWindow blocks window
has_window_at [] window b is = absurd (true≢false (sym is ∙ has_bit-nil b))
has_window_at (block ∷ blocks) window b is =
    ⊎_elim
    (λ (yes : (eqb block.window window ≡ true) × (block.window ≡ window)). inl yes.1)
    (λ (no : (eqb block.window window ≡ false) × (block.window ≢ window)).
    inr (has_window_at blocks window b (ap (λ bits. has_bit bits b) (sym (cond-false (eqb block.window window) block.bits (bits_of blocks window) no.0)) ∙ is)))
    (eqb_tells block.window window)

has_window : (blocks : List Block) (t : ℕ) → has_type blocks t ≡ true → HasWindow blocks (t / 256)
has_window blocks t is = has_window_at blocks (t / 256) (t % 256) is

-- what good blocks and a set have to do with each other
bit_of : (bits : List ℕ) (b : ℕ) → has_bit bits b ≡ true → bit_at (get_or bits (b / 8) 0) (7 - b % 8) ≡ 1
bit_of bits b is = eqb-true (bit_at (get_or bits (b / 8) 0) (7 - b % 8)) 1 is

no_bit : (n i : ℕ) → n ≡ 0 → bit_at n i ≡ 1 → ⊥
no_bit n i empty is = omega (arith, ap (λ m. bit_at m i) empty, bit_at-zero i, is)

-- the greatest bit that is set
record Greatest (bits : List ℕ) : Type 0 where
  place : ℕ
  is_set : has_bit bits place ≡ true
  above : (other : ℕ) → has_bit bits other ≡ true → other ≤ place
  size : length bits ≡ place / 8 + 1

module _ (bits : List ℕ) (k : ℕ) (some : 0 < length bits) (within : k < 8) (here : bit_at (get_or bits (length bits - 1) 0) k ≡ 1) (lower : (i : ℕ) → i < k → bit_at (get_or bits (length bits - 1) 0) i ≡ 0) where
  abbrev spot : ℕ
  spot = 8 * (length bits - 1) + (7 - k)

  spot_is : has_bit bits spot ≡ true
  spot_is =
      let octet : spot / 8 ≡ length bits - 1 = omega arith in
      let place : 7 - spot % 8 ≡ k = omega arith in
      eq-eqb (bit_at (get_or bits (spot / 8) 0) (7 - spot % 8)) 1
      (ap (λ n. bit_at (get_or bits n 0) (7 - spot % 8)) octet ∙ ap (λ n. bit_at (get_or bits (length bits - 1) 0) n) place ∙ here)

  none_beyond : (other : ℕ) → has_bit bits other ≡ true → spot < other → ⊥
  none_beyond other is beyond =
      ⊎_elim
      (λ (inside : other / 8 < length bits).
      let octet : other / 8 ≡ length bits - 1 = omega arith in
      let below : 7 - other % 8 < k = omega arith in
      let clear = lower (7 - other % 8) below in
      omega (arith, ap (λ n. bit_at (get_or bits n 0) (7 - other % 8)) octet, bit_of bits other is, clear))
      (λ (past : length bits ≤ other / 8). no_bit (get_or bits (other / 8) 0) (7 - other % 8) (get_or_past bits (other / 8) 0 past) (bit_of bits other is))
      (cases_lt (other / 8) (length bits))

  greatest_from : Greatest bits
  greatest_from = record {
    place = spot;
    is_set = spot_is;
    above = λ other is. ⊎_elim (λ (beyond : spot < other). absurd (none_beyond other is beyond)) (λ (fine : other ≤ spot). fine) (cases_lt spot other);
    size = omega arith;
  }

greatest_of : (block : Block) → IsGoodBlock block → Greatest block.bits
greatest_of block good =
    let last = get_or block.bits (length block.bits - 1) 0 in
    let inside : length block.bits - 1 < length block.bits = omega (arith, good.some) in
    let small : last < 256 = All-get_or (λ octet. octet < 256) block.bits (length block.bits - 1) 0 inside (All-from_recursion (λ octet. octet < 256) block.bits good.octets) in
    let some : 0 < last = omega (arith, good.last) in
    let lowest = bit_at-trailing_zeros w8 last some small in
    greatest_from block.bits (trailing_zeros w8 last) good.some lowest.0 lowest.1 lowest.2

-- each block's bits are those of its window
Stored : List Block → ℕ → Block → Type 0
Stored blocks least block = (least ≤ block.window) × (bits_of blocks block.window ≡ block.bits)

bits_of_each : (least : ℕ) (blocks : List Block) → WindowsRise least blocks → AllByRecursion (Stored blocks least) blocks
unfolding Stored
bits_of_each least [] rising = tt
bits_of_each least (block ∷ blocks) rising = (
  (rising.0, cond-true (eqb block.window block.window) block.bits (bits_of blocks block.window) (eq-eqb block.window block.window refl)),
  recursion-map (Stored blocks (block.window + 1)) (Stored (block ∷ blocks) least)
      (λ other held.
      let apart : eqb block.window other.window ≡ false = false_from_ne_true (eqb block.window other.window) (λ e. omega (arith, eqb-true block.window other.window e, held.0)) in
      (omega (arith, held.0, rising.0), cond-false (eqb block.window other.window) block.bits (bits_of blocks other.window) apart ∙ held.1))
      blocks (bits_of_each (block.window + 1) blocks rising.1),
)

block_in : (octets : List ℕ) (block : Block) → IsGoodBlock block → bits_of (blocks_of octets) block.window ≡ block.bits → IsBlockOf (types_of octets) block
block_in octets block good stored =
    let most = greatest_of block good in
    let small : most.place < 256 = omega (arith, most.size, good.few) in
    let members : (b : ℕ) → b < 256 → set.contains (types_of octets) (256 * block.window + b) ≡ has_bit block.bits b = λ b within.
    let window : (256 * block.window + b) / 256 ≡ block.window = omega arith in
    let low : (256 * block.window + b) % 256 ≡ b = omega arith in
    types_of-in octets (256 * block.window + b) (omega (arith, good.number))
    ∙ ap (λ w. has_bit (bits_of (blocks_of octets) w) ((256 * block.window + b) % 256)) window
    ∙ ap (has_bit (bits_of (blocks_of octets) block.window)) low
    ∙ ap (λ bits. has_bit bits b) stored in
    record {
      number = good.number;
      octets = good.octets;
      members = members;
      greatest = most.place;
      is_greatest = record {
        small = small;
        member = members most.place small ∙ most.is_set;
        others = λ other within is. most.above other (sym (members other within) ∙ is);
      };
      least_length = most.size;
    }

-- good blocks spell the set of their bits
pub Bitmap-types_of : (octets : List ℕ) → AreBlocks 0 octets → Bitmap octets (types_of octets)
unfolding Stored
Bitmap-types_of octets are = record {
  blocks = blocks_of octets;
  written = are.written;
  rising = are.rising;
  each = recursion-map (λ block. IsGoodBlock block × Stored (blocks_of octets) 0 block) (IsBlockOf (types_of octets))
      (λ block is. block_in octets block is.0 is.1.1) (blocks_of octets)
      (recursion-both IsGoodBlock (Stored (blocks_of octets) 0) (blocks_of octets) are.each (bits_of_each 0 (blocks_of octets) are.rising));
  all = λ t is. ⊎_elim
      (λ (small : t < 65536). has_window (blocks_of octets) t (sym (types_of-in octets t small) ∙ is))
      (λ (large : 65536 ≤ t). absurd (true≢false (sym is ∙ types_of-out octets t large)))
      (cases_lt t 65536);
}

good_from : (types : Types) (block : Block) → IsBlockOf types block → IsGoodBlock block
good_from types block of = record {
  number = of.number;
  octets = of.octets;
  some = omega (arith, of.least_length);
  few = omega (arith, of.least_length, of.is_greatest.small);
  last = λ empty.
      let place : of.greatest / 8 ≡ length block.bits - 1 = omega (arith, of.least_length) in
      no_bit (get_or block.bits (of.greatest / 8) 0) (7 - of.greatest % 8) (ap (λ n. get_or block.bits n 0) place ∙ empty)
      (bit_of block.bits of.greatest (sym (of.members of.greatest of.is_greatest.small) ∙ of.is_greatest.member));
}

-- a set's spelling is good blocks
pub AreBlocks-Bitmap : (octets : List ℕ) (types : Types) → Bitmap octets types → AreBlocks 0 octets
AreBlocks-Bitmap octets types spelled =
    AreBlocks-from 0 octets spelled.blocks spelled.written spelled.rising
    (recursion-map (IsBlockOf types) IsGoodBlock (good_from types) spelled.blocks spelled.each)

-- so what octets spell is the set of their bits
pub types_of-Bitmap : (octets : List ℕ) (types : Types) → Bitmap octets types → types_of octets ≡ types
types_of-Bitmap octets types spelled =
    same_types octets (types_of octets) types (Bitmap-types_of octets (AreBlocks-Bitmap octets types spelled)) spelled

-- two blocks of one window of a set are the same
same_test : (a b : ℕ) → a < 2 → b < 2 → eqb a 1 ≡ eqb b 1 → a ≡ b
same_test a b small_a small_b same =
    ⊎_elim
    (λ (yes : (eqb a 1 ≡ true) × (a ≡ 1)). yes.1 ∙ sym (eqb-true b 1 (sym same ∙ yes.0)))
    (λ (no : (eqb a 1 ≡ false) × (a ≢ 1)). let other : b ≢ 1 = eqb-false b 1 (sym same ∙ no.0) in omega arith)
    (eqb_tells a 1)

module _ (types : Types) (x y : Block) (of_x : IsBlockOf types x) (of_y : IsBlockOf types y) (window : x.window ≡ y.window) where
  greatest_same : of_x.greatest ≡ of_y.greatest
  greatest_same =
      let up = of_y.is_greatest.others of_x.greatest of_x.is_greatest.small
      (ap (λ w. set.contains types (256 * w + of_x.greatest)) (sym window) ∙ of_x.is_greatest.member) in
      let down = of_x.is_greatest.others of_y.greatest of_y.is_greatest.small
      (ap (λ w. set.contains types (256 * w + of_y.greatest)) window ∙ of_y.is_greatest.member) in
      omega arith

  length_same : length x.bits ≡ length y.bits
  length_same = of_x.least_length ∙ ap (λ n. n / 8 + 1) greatest_same ∙ sym of_y.least_length

  bit_same : (k i : ℕ) → k < length x.bits → i < 8 → bit_at (get_or x.bits k 0) i ≡ bit_at (get_or y.bits k 0) i
  bit_same k i inside within =
      let b = 8 * k + (7 - i) in
      let octet : b / 8 ≡ k = omega arith in
      let place : 7 - b % 8 ≡ i = omega arith in
      let small : b < 256 = omega (arith, of_x.least_length, of_x.is_greatest.small) in
      let at : (bits : List ℕ) → has_bit bits b ≡ eqb (bit_at (get_or bits k 0) i) 1 = λ bits.
      ap (λ n. eqb (bit_at (get_or bits n 0) (7 - b % 8)) 1) octet ∙ ap (λ n. eqb (bit_at (get_or bits k 0) n) 1) place in
      same_test (bit_at (get_or x.bits k 0) i) (bit_at (get_or y.bits k 0) i) (bit_at-lt (get_or x.bits k 0) i) (bit_at-lt (get_or y.bits k 0) i)
      (sym (at x.bits) ∙ sym (of_x.members b small) ∙ ap (λ w. set.contains types (256 * w + b)) window ∙ of_y.members b small ∙ at y.bits)

  octet_same : (k d : ℕ) → k < length x.bits → get_or x.bits k d ≡ get_or y.bits k d
  octet_same k d inside =
      let also : k < length y.bits = omega (arith, length_same) in
      let fits_x : get_or x.bits k 0 < 2 ^ 8 = All-get_or (λ octet. octet < 256) x.bits k 0 inside (All-from_recursion (λ octet. octet < 256) x.bits of_x.octets) in
      let fits_y : get_or y.bits k 0 < 2 ^ 8 = All-get_or (λ octet. octet < 256) y.bits k 0 also (All-from_recursion (λ octet. octet < 256) y.bits of_y.octets) in
      get_or_default x.bits k d 0 inside
      ∙ same_from_bits_below 8 (get_or x.bits k 0) (get_or y.bits k 0) fits_x fits_y (λ i within. bit_same k i inside within)
      ∙ get_or_default y.bits k 0 d also

  block_same : x ≡ y
  block_same =
      ap (λ w. record { window = w; bits = x.bits }) window
      ∙ ap (λ bits. record { window = y.window; bits = bits }) (same_lists x.bits y.bits length_same octet_same)

-- the blocks of all the set's windows from the least on
record SpellsFrom (types : Types) (least : ℕ) (blocks : List Block) : Type 0 where
  rising : WindowsRise least blocks
  each : AllByRecursion (IsBlockOf types) blocks
  all : (t : ℕ) → set.contains types t ≡ true → least ≤ t / 256 → HasWindow blocks (t / 256)

window_above : (least : ℕ) (blocks : List Block) (window : ℕ) → WindowsRise least blocks → HasWindow blocks window → least ≤ window
window_above least [] window rising has = absurd has
window_above least (block ∷ blocks) window rising has =
    ⊎_elim (λ (same : block.window ≡ window). omega (arith, rising.0))
    (λ (later : HasWindow blocks window). omega (arith, rising.0, window_above (block.window + 1) blocks window rising.1 later)) has

-- a block's window has a block in any spelling of the set
window_there : (types : Types) (least : ℕ) (block : Block) (others : List Block) → IsBlockOf types block → least ≤ block.window → SpellsFrom types least others → HasWindow others block.window
window_there types least block others of above spells =
    let window : (256 * block.window + of.greatest) / 256 ≡ block.window = omega (arith, of.is_greatest.small) in
    subst (HasWindow others) window (spells.all (256 * block.window + of.greatest) of.is_greatest.member (omega (arith, window)))

spells_rest : (types : Types) (least : ℕ) (block : Block) (blocks : List Block) → SpellsFrom types least (block ∷ blocks) → SpellsFrom types (block.window + 1) blocks
spells_rest types least block blocks spells = record {
  rising = spells.rising.1;
  each = spells.each.1;
  all = λ t is above. ⊎_elim (λ (same : block.window ≡ t / 256). absurd (omega arith)) (λ (later : HasWindow blocks (t / 256)). later) (spells.all t is (omega (arith, spells.rising.0)));
}

same_blocks : (types : Types) (least : ℕ) (xs ys : List Block) → SpellsFrom types least xs → SpellsFrom types least ys → xs ≡ ys
same_blocks types least [] [] p q = refl
same_blocks types least [] (y ∷ ys) p q = absurd (window_there types least y [] q.each.0 q.rising.0 p)
same_blocks types least (x ∷ xs) [] p q = absurd (window_there types least x [] p.each.0 p.rising.0 q)
same_blocks types least (x ∷ xs) (y ∷ ys) p q =
    let up : y.window ≤ x.window = window_above y.window (y ∷ ys) x.window (omega arith, q.rising.1) (window_there types least x (y ∷ ys) p.each.0 p.rising.0 q) in
    let down : x.window ≤ y.window = window_above x.window (x ∷ xs) y.window (omega arith, p.rising.1) (window_there types least y (x ∷ xs) q.each.0 q.rising.0 p) in
    let window : x.window ≡ y.window = omega arith in
    let rest = same_blocks types (x.window + 1) xs ys (spells_rest types least x xs p)
    (subst (λ w. SpellsFrom types (w + 1) ys) (sym window) (spells_rest types least y ys q)) in
    ap (λ block. block ∷ xs) (block_same types x y p.each.0 q.each.0 window) ∙ ap (λ blocks. y ∷ blocks) rest

-- a set has at most one spelling
pub same_spelling : (types : Types) (a b : List ℕ) → Bitmap a types → Bitmap b types → a ≡ b
same_spelling types a b p q =
    p.written
    ∙ ap (flat_map block_octets) (same_blocks types 0 p.blocks q.blocks
    (record { rising = p.rising; each = p.each; all = λ t is above. p.all t is })
    (record { rising = q.rising; each = q.each; all = λ t is above. q.all t is }))
    ∙ sym q.written
