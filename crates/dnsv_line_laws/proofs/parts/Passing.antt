-- What is written for a value is not parted: a line's text stands in one word, and JSON in one value.
use Rattle.std.proofs.Common.{◌≡◌, ℕ, ◌<◌, ◌≤◌, ◌+◌, ◌/◌, ◌%◌, ◌==◌, ◌||◌, ◌&&◌, Bool, true, false, cond, List, [], ◌∷◌, ◌++◌, nat_lt, arith, refl, sym, ap, subst, ◌∙◌}
use Rattle.std.proofs.lemmas.Bool.Decides.{nat_tests}
use Rattle.std.specs.Char.{is_ascii_graphic}
use Rattle.std.specs.Fmt.{decimal, digit_glyph}
use Rattle.std.specs.List.{flat_map}
use Rattle.dnsv_names.specs.Name.{Labels}
use Rattle.dnsv_names.specs.Text.{label_text, octet_text, text_of}
use Rattle.dnsv_lines.specs.Json.{escaped, quoted, string_json}
use Rattle.dnsv_lines.specs.Salt as salt
use Rattle.dnsv_line_laws.proofs.parts.Digits.{AreDigits, decimal_digits}
use Rattle.dnsv_line_laws.proofs.told.Forms.{clean, is_clean}
use Rattle.dnsv_line_laws.proofs.parts.Marks.{both_first, both_then}
use Rattle.dnsv_line_laws.proofs.parts.Parting.{Mode, Words, Outside, Inside, Behind, Passes, next, passes-append}

-- ---- octets

-- inside of a string, an octet that stands for itself
inside_octet : (c : ℕ) (text : List ℕ) (end : Mode) → (c == 34) ≡ false → (c == 92) ≡ false → Passes Inside text end → Passes Inside (c ∷ text) end
inside_octet c text end mark slash rest =
    let on : next Inside c ≡ Inside = ap (λ b. cond b Outside (cond (c == 92) Behind Inside)) mark ∙ ap (λ b. cond b Behind Inside) slash in
    (refl, subst (λ m. Passes m text end) (sym on) rest)

-- outside of strings, one that parts nothing and begins no string
outside_octet : (c : ℕ) (text : List ℕ) (end : Mode) → (c == 44 || c == 58) ≡ false → (c == 34) ≡ false → Passes Outside text end → Passes Outside (c ∷ text) end
outside_octet c text end cut mark rest =
    let on : next Outside c ≡ Outside = ap (λ b. cond b Inside Outside) mark in
    (cut, subst (λ m. Passes m text end) (sym on) rest)

-- ---- clean words

-- what is not a clean octet
clean_octet : (c : ℕ) → is_clean c ≡ true → ((c == 32) ≡ false) × ((c == 34) ≡ false) × ((c == 92) ≡ false)
clean_octet c is = (grind (arith, nat_tests), grind (arith, nat_tests), grind (arith, nat_tests))

-- a clean word is no more than one word
pub clean_words : (word : List ℕ) → clean word ≡ true → Passes Words word Words
clean_words [] is = refl
clean_words (c ∷ word) is = ((clean_octet c (both_first (is_clean c) (clean word) is)).0, clean_words word (both_then (is_clean c) (clean word) is))

-- nor does it end a string
pub clean_inside : (word : List ℕ) → clean word ≡ true → Passes Inside word Inside
clean_inside [] is = refl
clean_inside (c ∷ word) is =
    let octet = clean_octet c (both_first (is_clean c) (clean word) is) in
    inside_octet c word Inside octet.1 octet.2 (clean_inside word (both_then (is_clean c) (clean word) is))

-- ---- numbers

-- digits part nothing
digits_words : (text : List ℕ) → AreDigits text → Passes Words text Words
digits_words [] are = refl
digits_words (c ∷ text) are = let low : 48 ≤ c = are.0.low in let high : c < 58 = are.0.high in (grind (arith, nat_tests), digits_words text are.1)

digits_outside : (text : List ℕ) → AreDigits text → Passes Outside text Outside
digits_outside [] are = refl
digits_outside (c ∷ text) are =
    let low : 48 ≤ c = are.0.low in let high : c < 58 = are.0.high in
    outside_octet c text Outside (grind (arith, nat_tests)) (grind (arith, nat_tests)) (digits_outside text are.1)

-- so of a number
pub decimal_words : (n : ℕ) → Passes Words (decimal n) Words
decimal_words n = digits_words (decimal n) (decimal_digits n)

pub decimal_outside : (n : ℕ) → Passes Outside (decimal n) Outside
decimal_outside n = digits_outside (decimal n) (decimal_digits n)

-- ---- salts

-- digits up to 9, and those from a on, are clean
low_glyph : (d : ℕ) → d < 10 → is_clean (48 + d) ≡ true
low_glyph d less = grind (arith, nat_tests)

high_glyph : (d : ℕ) → 10 ≤ d → is_clean (87 + d) ≡ true
high_glyph d more = grind (arith, nat_tests)

-- the test of either
below : (d : ℕ) → nat_lt d 10 ≡ true → d < 10
below d is = grind (arith, nat_tests)

not_below : (d : ℕ) → nat_lt d 10 ≡ false → 10 ≤ d
not_below d is = grind (arith, nat_tests)

-- both ways of a test
either_clean : (b : Bool) (x y : ℕ) → (b ≡ true → is_clean x ≡ true) → (b ≡ false → is_clean y ≡ true) → is_clean (cond b x y) ≡ true
either_clean true x y p q = p refl
either_clean false x y p q = q refl

-- each digit is clean
glyph_clean : (d : ℕ) → is_clean (digit_glyph false d) ≡ true
glyph_clean d = either_clean (nat_lt d 10) (48 + d) (87 + d) (λ is. low_glyph d (below d is)) (λ is. high_glyph d (not_below d is))

-- what holds of both
both_so : (a b : Bool) → a ≡ true → b ≡ true → (a && b) ≡ true
both_so a b p q = ap (λ x. x && b) p ∙ q

-- so of all digits of a salt
digits_clean : (octets : List ℕ) → clean (flat_map salt.octet_text octets) ≡ true
digits_clean [] = refl
digits_clean (octet ∷ octets) =
    both_so (is_clean (digit_glyph false (octet / 16))) _ (glyph_clean (octet / 16))
    (both_so (is_clean (digit_glyph false (octet % 16))) _ (glyph_clean (octet % 16)) (digits_clean octets))

-- and of its text
pub salt_clean : (octets : List ℕ) → clean (salt.salt_text octets) ≡ true
salt_clean [] = refl
salt_clean (octet ∷ octets) = digits_clean (octet ∷ octets)

-- ---- names

-- both ways of a test
either_words : (b : Bool) (x y : List ℕ) → (b ≡ true → Passes Words x Words) → (b ≡ false → Passes Words y Words) → Passes Words (cond b x y) Words
either_words true x y p q = p refl
either_words false x y p q = q refl

-- none of what is written of an octet is a space
special : (octet : ℕ) → (octet == 46 || octet == 92) ≡ true → (octet == 32) ≡ false
special octet is = grind (arith, nat_tests)

graphic : (octet : ℕ) → is_ascii_graphic octet ≡ true → (octet == 32) ≡ false
graphic octet is = grind (arith, nat_tests)

above : (n : ℕ) → (48 + n == 32) ≡ false
above n = grind (arith, nat_tests)

-- so of an octet, a label and a name
octet_words : (octet : ℕ) → Passes Words (octet_text octet) Words
octet_words octet =
    either_words (octet == 46 || octet == 92) (92 ∷ octet ∷ []) _ (λ is. (refl, (special octet is, refl)))
    (λ other. either_words (is_ascii_graphic octet) (octet ∷ []) _ (λ is. (graphic octet is, refl))
    (λ none. (refl, (above (octet / 100), (above (octet / 10 % 10), (above (octet % 10), refl))))))

label_words : (label : List ℕ) → Passes Words (label_text label) Words
label_words [] = refl
label_words (octet ∷ label) = passes-append Words Words Words (octet_text octet) (label_text label) (octet_words octet) (label_words label)

labels_words : (labels : Labels) → Passes Words (flat_map (λ each. label_text each ++ 46 ∷ []) labels) Words
labels_words [] = refl
labels_words (label ∷ labels) =
    passes-append Words Words Words (label_text label ++ 46 ∷ []) (flat_map (λ each. label_text each ++ 46 ∷ []) labels)
    (passes-append Words Words Words (label_text label) (46 ∷ []) (label_words label) (refl, refl)) (labels_words labels)

pub name_words : (name : Labels) → Passes Words (text_of name) Words
name_words [] = (refl, refl)
name_words (label ∷ labels) = labels_words (label ∷ labels)

-- ---- strings of JSON

-- a string whose text does not end it
pub quoted_outside : (text : List ℕ) → Passes Inside text Inside → Passes Outside (quoted text) Outside
quoted_outside text passes = (refl, passes-append Inside Inside Outside text (34 ∷ []) passes (refl, refl))

-- both ways of a test
either_inside : (b : Bool) (x y : List ℕ) → (b ≡ true → Passes Inside x Inside) → (b ≡ false → Passes Inside y Inside) → Passes Inside (cond b x y) Inside
either_inside true x y p q = p refl
either_inside false x y p q = q refl

-- an octet that isn't escaped
no_mark : (octet : ℕ) → (octet == 34 || octet == 92) ≡ false → (octet == 34) ≡ false
no_mark octet is = grind (arith, nat_tests)

pub no_slash : (octet : ℕ) → (octet == 34 || octet == 92) ≡ false → (octet == 92) ≡ false
no_slash octet is = grind (arith, nat_tests)

-- a text that is escaped does not end its string
escaped_inside : (text : List ℕ) → Passes Inside (flat_map escaped text) Inside
escaped_inside [] = refl
escaped_inside (octet ∷ text) =
    passes-append Inside Inside Inside (escaped octet) (flat_map escaped text)
    (either_inside (octet == 34 || octet == 92) (92 ∷ octet ∷ []) (octet ∷ []) (λ is. (refl, (refl, refl)))
    (λ is. inside_octet octet [] Inside (no_mark octet is) (no_slash octet is) refl))
    (escaped_inside text)

-- a string of such a text
pub string_outside : (text : List ℕ) → Passes Outside (string_json text) Outside
string_outside text = quoted_outside (flat_map escaped text) (escaped_inside text)
