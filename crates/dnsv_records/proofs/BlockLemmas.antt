-- Blocks as octets: what stands at the front decides what the octets are as a whole.
use Rattle.std.proofs.Common.{◌≡◌, ℕ, ◌+◌, ◌-◌, ◌<◌, ◌≤◌, List, [], ◌∷◌, ◌++◌, length, get_or, take, drop, eqb, refl, sym, ap, ◌∙◌, subst, arith, length-append, length-drop}
use Rattle.std.proofs.lemmas.List.{take_at, drop_at, drop_more, length-take-le, take-append-drop, append_cancel_left, drop-drop, get_or-drop, get_or-take}
use Rattle.std.proofs.lemmas.Bool.{cond-true, cond-false, eqb-true, eq-eqb, false_from_ne_true}
use Rattle.std.specs.List.{AllByRecursion, flat_map}
use Rattle.dnsv_names.specs.PartLaws.{octets_fit, recursion-take, recursion-drop}
use Rattle.dnsv_records.specs.Bitmap.{Block, block_octets, WindowsRise}
use Rattle.dnsv_records.specs.Bitmap.Blocks.{blocks_after, blocks_of, bits_of, IsGoodBlock, AreBlocks, BlockAtFront}

pub blocks_after-append : (xs ys : List ℕ) → blocks_after (length xs) (xs ++ ys) ≡ blocks_of ys
blocks_after-append [] ys = refl
blocks_after-append (x ∷ xs) ys = blocks_after-append xs ys

pub blocks_of-block : (block : Block) (rest : List ℕ) → blocks_of (block_octets block ++ rest) ≡ block ∷ blocks_of rest
blocks_of-block block rest =
    ap (λ bits. record { window = block.window; bits = bits } ∷ blocks_after (length block.bits) (block.bits ++ rest)) (take_at block.bits rest (length block.bits) refl)
    ∙ ap (λ blocks. block ∷ blocks) (blocks_after-append block.bits rest)

pub blocks_of-flat_map : (blocks : List Block) → blocks_of (flat_map block_octets blocks) ≡ blocks
blocks_of-flat_map [] = refl
blocks_of-flat_map (block ∷ blocks) =
    blocks_of-block block (flat_map block_octets blocks) ∙ ap (λ bs. block ∷ bs) (blocks_of-flat_map blocks)

-- octets that are good blocks
pub AreBlocks-from : (least : ℕ) (octets : List ℕ) (blocks : List Block) → octets ≡ flat_map block_octets blocks → WindowsRise least blocks → AllByRecursion IsGoodBlock blocks → AreBlocks least octets
AreBlocks-from least octets blocks written rising each =
    let same : blocks_of octets ≡ blocks = ap blocks_of written ∙ blocks_of-flat_map blocks in
    record {
      written = written ∙ ap (flat_map block_octets) (sym same);
      rising = subst (WindowsRise least) (sym same) rising;
      each = subst (AllByRecursion IsGoodBlock) (sym same) each;
    }

pub AreBlocks-back : (least size : ℕ) (octets : List ℕ) (front : BlockAtFront octets least size) → AreBlocks (front.block.window + 1) front.rest → AreBlocks least octets
AreBlocks-back least size octets front behind =
    AreBlocks-from least octets (front.block ∷ blocks_of front.rest)
    (front.written ∙ ap (λ rest. block_octets front.block ++ rest) behind.written)
    (front.rises, behind.rising) (front.good, behind.each)

pub AreBlocks-on : (least : ℕ) (octets rest : List ℕ) (block : Block) → octets ≡ block_octets block ++ rest → AreBlocks least octets → AreBlocks (block.window + 1) rest
AreBlocks-on least octets rest block form are =
    let same : blocks_of octets ≡ block ∷ blocks_of rest = ap blocks_of form ∙ blocks_of-block block rest in
    record {
      written = append_cancel_left (block_octets block) rest _ (sym form ∙ are.written ∙ ap (flat_map block_octets) same);
      rising = (subst (WindowsRise least) same are.rising).1;
      each = (subst (AllByRecursion IsGoodBlock) same are.each).1;
    }

front_of : (least : ℕ) (octets : List ℕ) (blocks : List Block) → octets ≡ flat_map block_octets blocks → WindowsRise least blocks → AllByRecursion IsGoodBlock blocks → 0 < length octets → (size : ℕ) × BlockAtFront octets least size
front_of least octets [] written rising each some = absurd (omega (arith, ap length written))
front_of least octets (block ∷ blocks) written rising each some = (
  2 + length block.bits,
  record { block = block; good = each.0; rises = rising.0; whole = refl; rest = flat_map block_octets blocks; written = written },
)

-- blocks that are not empty begin with one
pub BlockAtFront-first : (least : ℕ) (octets : List ℕ) → AreBlocks least octets → 0 < length octets → (size : ℕ) × BlockAtFront octets least size
BlockAtFront-first least octets are some = front_of least octets (blocks_of octets) are.written are.rising are.each some

-- what a block at a place says of the octets around it
pub record BlockAt (octets : List ℕ) (place : ℕ) (block : Block) : Type 0 where
  pub number : get_or octets place 0 ≡ block.window
  pub count : get_or octets (place + 1) 0 ≡ length block.bits
  pub within : place + (2 + length block.bits) ≤ length octets
  pub bits : take (length block.bits) (drop (place + 2) octets) ≡ block.bits

pub BlockAt-front : (octets rest : List ℕ) (place : ℕ) (block : Block) → drop place octets ≡ block_octets block ++ rest → BlockAt octets place block
BlockAt-front octets rest place block form = record {
  number = ap (λ n. get_or octets n 0) (omega arith) ∙ sym (get_or-drop place octets 0 0) ∙ ap (λ xs. get_or xs 0 0) form;
  count = sym (get_or-drop place octets 1 0) ∙ ap (λ xs. get_or xs 1 0) form;
  within = omega (arith, length-drop place octets, ap length form, length-append block.bits rest);
  bits = ap (take (length block.bits)) (sym (drop-drop 2 place octets) ∙ ap (drop 2) form) ∙ take_at block.bits rest (length block.bits) refl;
}

pub drop-front : (octets rest : List ℕ) (place size : ℕ) (block : Block) → drop place octets ≡ block_octets block ++ rest → size ≡ 2 + length block.bits → drop (place + size) octets ≡ rest
drop-front octets rest place size block form whole =
    let all : length (block_octets block) ≡ size = omega arith in
    sym (drop-drop size place octets) ∙ ap (drop size) form ∙ drop_at (block_octets block) rest size all

-- what stands at the place decides whether the octets are blocks
pub record Walks (octets : List ℕ) (place least : ℕ) : Type 0 where
  pub on : AreBlocks 0 octets → AreBlocks least (drop place octets)
  pub back : AreBlocks least (drop place octets) → AreBlocks 0 octets

pub Walks-start : (octets : List ℕ) → Walks octets 0 0
Walks-start octets = record { on = λ are. are; back = λ are. are }

pub Walks-next : (octets : List ℕ) (place least size next : ℕ) (front : BlockAtFront (drop place octets) least size) → next ≡ front.block.window + 1 → Walks octets place least → Walks octets (place + size) next
Walks-next octets place least size next front is walks =
    let rest : drop (place + size) octets ≡ front.rest = drop-front octets front.rest place size front.block front.written front.whole in
    record {
      on = λ are. rw (rest, is) (AreBlocks-on least (drop place octets) front.rest front.block front.written (walks.on are));
      back = λ are. walks.back (AreBlocks-back least size (drop place octets) front (rw (rest, is) at are));
    }

-- a block whose parts were looked at
pub BlockAtFront-found : (octets : List ℕ) (least count : ℕ) → ((i : ℕ) → get_or octets i 0 < 256) → least ≤ get_or octets 0 0 → count ≡ get_or octets 1 0 → 0 < count → count ≤ 32 → 2 + count ≤ length octets → (get_or octets (2 + count - 1) 0 ≡ 0 → ⊥) → BlockAtFront octets least (2 + count)
BlockAtFront-found octets least count fits rises is some few within last =
    let size : length (take count (drop 2 octets)) ≡ count = length-take-le count (drop 2 octets) (omega (arith, length-drop 2 octets)) in
    let place : 2 + (count - 1) ≡ 2 + count - 1 = omega arith in
    let before : count - 1 < count = omega arith in
    let last_at : get_or (take count (drop 2 octets)) (count - 1) 0 ≡ get_or octets (2 + count - 1) 0 =
    get_or-take count (drop 2 octets) (count - 1) 0 before ∙ get_or-drop 2 octets (count - 1) 0 ∙ ap (λ n. get_or octets n 0) place in
    record {
      block = record { window = get_or octets 0 0; bits = take count (drop 2 octets) };
      good = record {
        number = fits 0;
        octets = recursion-take (λ octet. octet < 256) count (drop 2 octets) (recursion-drop (λ octet. octet < 256) 2 octets (octets_fit octets fits));
        some = omega (arith, size);
        few = omega (arith, size);
        last = λ zero. last (sym last_at ∙ ap (λ n. get_or (take count (drop 2 octets)) (n - 1) 0) (sym size) ∙ zero);
      };
      rises = rises;
      whole = ap (λ n. 2 + n) (sym size);
      rest = drop count (drop 2 octets);
      written = drop_more octets 0 0 (omega arith) ∙ ap (λ xs. get_or octets 0 0 ∷ xs) (drop_more octets 1 0 (omega arith))
          ∙ ap (λ n. get_or octets 0 0 ∷ n ∷ drop 2 octets) (sym is ∙ sym size)
          ∙ ap (λ xs. get_or octets 0 0 ∷ length (take count (drop 2 octets)) ∷ xs) (sym (take-append-drop count (drop 2 octets)));
    }

-- the bits that the blocks from a place on hold for a window
pub bits_of-same : (octets rest : List ℕ) (block : Block) (window : ℕ) → octets ≡ block_octets block ++ rest → block.window ≡ window → bits_of (blocks_of octets) window ≡ block.bits
bits_of-same octets rest block window form same =
    ap (λ xs. bits_of (blocks_of xs) window) form ∙ ap (λ blocks. bits_of blocks window) (blocks_of-block block rest)
    ∙ cond-true (eqb block.window window) block.bits _ (eq-eqb block.window window same)

pub bits_of-other : (octets rest : List ℕ) (block : Block) (window : ℕ) → octets ≡ block_octets block ++ rest → (block.window ≡ window → ⊥) → bits_of (blocks_of octets) window ≡ bits_of (blocks_of rest) window
bits_of-other octets rest block window form other =
    ap (λ xs. bits_of (blocks_of xs) window) form ∙ ap (λ blocks. bits_of blocks window) (blocks_of-block block rest)
    ∙ cond-false (eqb block.window window) block.bits _ (false_from_ne_true (eqb block.window window) (λ e. other (eqb-true block.window window e)))

-- the block that stands at a place before the end
pub record BlockHere (octets : List ℕ) (place least : ℕ) : Type 0 where
  pub size : ℕ
  pub front : BlockAtFront (drop place octets) least size
  pub at : BlockAt octets place front.block

pub block_here : (octets : List ℕ) (place least : ℕ) → AreBlocks least (drop place octets) → place < length octets → BlockHere octets place least
block_here octets place least are within =
    let first = BlockAtFront-first least (drop place octets) are (omega (arith, length-drop place octets)) in
    record { size = first.0; front = first.1; at = BlockAt-front octets first.1.rest place first.1.block first.1.written }
