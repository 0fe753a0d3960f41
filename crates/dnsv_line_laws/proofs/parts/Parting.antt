-- Texts are parted where the machine below says so: a line's text at its spaces, JSON at commas and colons outside of strings.
use Rattle.std.proofs.Common.{◌≡◌, ℕ, Bool, true, false, cond, List, [], ◌∷◌, ◌++◌, ◌==◌, ◌||◌, sym, ap, subst, ◌∙◌}
use Rattle.std.proofs.lemmas.List.{append-nil}

-- where one stands: in a line's text; in JSON outside of strings, inside of one, or there behind a backslash
pub data Mode : Type 0 where
  Words : Mode
  Outside : Mode
  Inside : Mode
  Behind : Mode

-- a text is parted at this octet
abbrev pub is_cut : Mode → ℕ → Bool
is_cut Words c = c == 32
is_cut Outside c = c == 44 || c == 58
is_cut mode c = false

-- where one stands behind this octet
abbrev pub next : Mode → ℕ → Mode
next Words c = Words
next Outside c = cond (c == 34) Inside Outside
next Inside c = cond (c == 34) Outside (cond (c == 92) Behind Inside)
next Behind c = Inside

-- an octet more in front of the first part
abbrev pub put : ℕ → List (List ℕ) → List (List ℕ)
put c [] = (c ∷ []) ∷ []
put c (part ∷ parts) = (c ∷ part) ∷ parts

-- the text in its parts
abbrev pub split : Mode → List ℕ → List (List ℕ)
split mode [] = [] ∷ []
split mode (c ∷ text) = cond (is_cut mode c) ([] ∷ split mode text) (put c (split (next mode c) text))

-- the text isn't parted, and leads from one mode to the other
abbrev pub Passes : Mode → List ℕ → Mode → Type 0
Passes mode [] end = mode ≡ end
Passes mode (c ∷ text) end = (is_cut mode c ≡ false) × Passes (next mode c) text end

-- one text behind another
pub passes-append : (m n o : Mode) (xs ys : List ℕ) → Passes m xs n → Passes n ys o → Passes m (xs ++ ys) o
passes-append m n o [] ys first then = subst (λ k. Passes k ys o) (sym first) then
passes-append m n o (x ∷ xs) ys first then = (first.0, passes-append (next m x) n o xs ys first.1 then)

-- what isn't parted stands in front of the first part of what follows
pub passed : (m n : Mode) (xs rest part : List ℕ) (parts : List (List ℕ)) → Passes m xs n → split n rest ≡ part ∷ parts
    → split m (xs ++ rest) ≡ (xs ++ part) ∷ parts
passed m n [] rest part parts passes is = ap (λ k. split k rest) passes ∙ is
passed m n (x ∷ xs) rest part parts passes is =
    ap (λ b. cond b ([] ∷ split m (xs ++ rest)) (put x (split (next m x) (xs ++ rest)))) passes.0
    ∙ ap (put x) (passed (next m x) n xs rest part parts passes.1 is)

-- a part more, behind what parts it from those before
pub one_part : (mode : Mode) (c : ℕ) (part rest : List ℕ) (parts : List (List ℕ)) → is_cut mode c ≡ true → Passes mode part mode
    → split mode rest ≡ [] ∷ parts → split mode (c ∷ (part ++ rest)) ≡ [] ∷ part ∷ parts
one_part mode c part rest parts cut passes is =
    ap (λ b. cond b ([] ∷ split mode (part ++ rest)) (put c (split (next mode c) (part ++ rest)))) cut
    ∙ ap (λ p. [] ∷ p) (passed mode mode part rest [] parts passes is ∙ ap (λ p. p ∷ parts) (append-nil part))
