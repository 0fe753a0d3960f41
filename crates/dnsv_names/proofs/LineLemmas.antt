-- Where a text is cut: before and behind the first of some octets.
pub mod DecimalLemmas
pub mod FieldLemmas
use Rattle.std.proofs.Common.{◌≡◌, ◌≢◌, ℕ, zero, suc, ◌+◌, ◌<◌, ◌≤◌, List, [], ◌∷◌, ◌++◌, get_or, length, take, drop, refl, sym, ap, ◌∙◌, arith, append_assoc, length-append, Bool, true, false, cond, not, ltb, nat_lt, ◌==◌, Option, Some, None}
use Rattle.std.proofs.lemmas.Bool.Decides.{nat_tests}
use Rattle.std.proofs.lemmas.List.{take_at, drop_at}
use Rattle.memchr.specs.Find.{IsFirstByte, is_byte}
use Rattle.std.specs.List.{position, position_or_len}
use Rattle.dnsv_names.specs.Lines.{Lacks}

-- the text is cut at the first of the octets
abbrev pub Parts : ℕ → List ℕ → ℕ → Type 0
Parts octet text place =
    (front : List ℕ) × (rest : List ℕ) × (text ≡ front ++ octet ∷ rest) × Lacks octet front × (length front ≡ place)

parts_by : (octet x : ℕ) (xs : List ℕ) (n : ℕ) (b : Bool) → (x == octet) ≡ b → (n < length xs → Parts octet xs n) → cond (not b) (1 + n) 0 < length (x ∷ xs) → Parts octet (x ∷ xs) (cond (not b) (1 + n) 0)
parts_by octet x xs n true here behind h =
    let same : x ≡ octet = grind (arith, nat_tests) in ([], xs, ap (λ y. y ∷ xs) same, tt, refl)
parts_by octet x xs n false here behind h =
    let found = behind (omega (arith, h)) in
    let other : x ≢ octet = grind (arith, nat_tests) in
    (x ∷ found.0, found.1, ap (λ ys. x ∷ ys) found.2, (other, found.3), omega (arith, found.4))

parts_from : (octet : ℕ) (text : List ℕ) → position_or_len (λ each. each == octet) text < length text → Parts octet text (position_or_len (λ each. each == octet) text)
parts_from octet [] h = absurd (omega (arith, h))
parts_from octet (x ∷ xs) h =
    parts_by octet x xs (position_or_len (λ each. each == octet) xs) (x == octet) refl (parts_from octet xs) h

lacks_by : (octet x : ℕ) (xs : List ℕ) (n : ℕ) (b : Bool) → (x == octet) ≡ b → (length xs ≤ n → Lacks octet xs) → length (x ∷ xs) ≤ cond (not b) (1 + n) 0 → Lacks octet (x ∷ xs)
lacks_by octet x xs n true here behind h = absurd (omega (arith, h))
lacks_by octet x xs n false here behind h =
    let other : x ≢ octet = grind (arith, nat_tests) in (other, behind (omega (arith, h)))

lacks_from : (octet : ℕ) (text : List ℕ) → length text ≤ position_or_len (λ each. each == octet) text → Lacks octet text
lacks_from octet [] h = tt
lacks_from octet (x ∷ xs) h =
    lacks_by octet x xs (position_or_len (λ each. each == octet) xs) (x == octet) refl (lacks_from octet xs) h

position_by : (b : Bool) (n i : ℕ) → cond b (Some n) None ≡ Some i → (b ≡ true) × (n ≡ i)
position_by true n i e = (refl, cc)
position_by false n i e = cc

position_None_by : (b : Bool) (n : ℕ) → cond b (Some n) None ≡ None → b ≡ false
position_None_by true n e = cc
position_None_by false n e = refl

cut_at : (octet place : ℕ) (front rest text : List ℕ) → text ≡ front ++ octet ∷ rest → Lacks octet front → length front ≡ place → (text ≡ take place text ++ octet ∷ drop (place + 1) text) × Lacks octet (take place text)
cut_at octet place front rest text form lacks size =
    let before : take place text ≡ front = ap (take place) form ∙ take_at front (octet ∷ rest) place size in
    let behind : drop (place + 1) text ≡ rest =
    ap (drop (place + 1)) (form ∙ sym (append_assoc front (octet ∷ []) rest))
    ∙ drop_at (front ++ octet ∷ []) rest (place + 1) (omega (arith, length-append front (octet ∷ []), size)) in
    rw (before, behind) (form, lacks)

-- what stands before and behind the first of the octets
pub cut : (octet : ℕ) (text : List ℕ) (place : ℕ) → position (λ each. each == octet) text ≡ Some place → (text ≡ take place text ++ octet ∷ drop (place + 1) text) × Lacks octet (take place text)
cut octet text place e =
    let found = position_by (ltb (position_or_len (λ each. each == octet) text) (length text)) _ place e in
    let below : position_or_len (λ each. each == octet) text < length text = grind (arith, nat_tests, found.0) in
    let parts = parts_from octet text below in
    cut_at octet place parts.0 parts.1 text parts.2 parts.3 (parts.4 ∙ found.1)

pub uncut : (octet : ℕ) (text : List ℕ) → position (λ each. each == octet) text ≡ None → Lacks octet text
uncut octet text e =
    let none = position_None_by (ltb (position_or_len (λ each. each == octet) text) (length text)) _ e in
    lacks_from octet text (grind (arith, nat_tests, none))

-- ---- the first place

not_passed : (b : Bool) → ¬ (b ≡ true) → b ≡ false
not_passed true never = absurd (never refl)
not_passed false never = refl

one_more : (n : ℕ) → 1 + n ≡ suc n
one_more n = omega arith

place_is : (octet : ℕ) (text : List ℕ) (k : ℕ) → k < length text → (get_or text k 0 == octet) ≡ true
    → ((j : ℕ) → j < k → ¬ ((get_or text j 0 == octet) ≡ true)) → position_or_len (λ each. each == octet) text ≡ k
place_is octet [] k within is before = absurd (omega (arith, within))
place_is octet (x ∷ xs) zero within is before = ap (λ (b : Bool). cond (not b) (1 + position_or_len (λ each. each == octet) xs) 0) is
place_is octet (x ∷ xs) (suc k) within is before =
    let first : (x == octet) ≡ false = not_passed (x == octet) (before 0 (omega arith)) in
    let rest : position_or_len (λ each. each == octet) xs ≡ k =
    place_is octet xs k (omega (arith, within)) is (λ j below. before (suc j) (omega (arith, below))) in
    ap (λ (b : Bool). cond (not b) (1 + position_or_len (λ each. each == octet) xs) 0) first ∙ ap (λ (n : ℕ). 1 + n) rest ∙ one_more k

no_place : (octet : ℕ) (text : List ℕ) → ((j : ℕ) → j < length text → ¬ ((get_or text j 0 == octet) ≡ true))
    → position_or_len (λ each. each == octet) text ≡ length text
no_place octet [] none = refl
no_place octet (x ∷ xs) none =
    let first : (x == octet) ≡ false = not_passed (x == octet) (none 0 (omega arith)) in
    ap (λ (b : Bool). cond (not b) (1 + position_or_len (λ each. each == octet) xs) 0) first
    ∙ ap (λ (n : ℕ). 1 + n) (no_place octet xs (λ j below. none (suc j) (omega (arith, below)))) ∙ one_more (length xs)

some_place : (n size : ℕ) → n < size → Some n ≡ cond (nat_lt n size) (Some n) None
some_place n size within = let is : nat_lt n size ≡ true = grind (arith, nat_tests) in ap (λ (b : Bool). cond b (Some n) None) (sym is)

past_end : (n : ℕ) → None ≡ cond (nat_lt n n) (Some n) None
past_end n = let is : nat_lt n n ≡ false = grind (arith, nat_tests) in ap (λ (b : Bool). cond b (Some n) None) (sym is)

-- the first place of an octet is its position
pub first_place : (octet : ℕ) (text : List ℕ) (found : Option ℕ) → IsFirstByte (is_byte octet) text found → found ≡ position (λ each. each == octet) text
first_place octet text None none =
    past_end (length text)
    ∙ ap (λ (n : ℕ). cond (nat_lt n (length text)) (Some n) None) (sym (no_place octet text (λ j below. none j (omega arith) below)))
first_place octet text (Some k) first =
    some_place k (length text) first.0.high
    ∙ ap (λ (n : ℕ). cond (nat_lt n (length text)) (Some n) None) (sym (place_is octet text k first.0.high first.1 (λ j below. first.0.before j (omega arith) below)))
