-- What is written for a value determines what is said.
use Rattle.std.proofs.Common.{◌≡◌, ℕ, ◌+◌, ◌-◌, ◌*◌, ◌/◌, ◌%◌, ◌==◌, ◌||◌, Bool, true, false, cond, List, [], ◌∷◌, ◌++◌, Some, nat_lt, arith, refl, sym, ap, subst, ◌∙◌}
use Rattle.std.proofs.lemmas.Bool.Decides.{nat_tests}
use Rattle.std.proofs.lemmas.Fmt.{decimal_injective}
use Rattle.std.proofs.lemmas.List.{append_cancel_right}
use Rattle.std.specs.Fmt.{digit_glyph}
use Rattle.std.specs.List.{flat_map}
use Rattle.dnsv_names.proofs.OneReading.{one_name}
use Rattle.dnsv_names.proofs.TextLemmas.{text_of_spells}
use Rattle.dnsv_names.specs.Name.WireLaws.{IsName-lower_case}
use Rattle.dnsv_names.specs.Name.{IsName, Labels, SameName, lower_case}
use Rattle.dnsv_names.specs.Text.{IsTextOf}
use Rattle.dnsv_lines.specs.Json.{escaped, name_json, quoted}
use Rattle.dnsv_lines.specs.Salt.{octet_text, salt_text}
use Rattle.dnsv_lines.specs.Sentence.{Said, Name, Number, Rrset, Word, Salt, Nothing, lower_text}
use Rattle.dnsv_line_laws.specs.Types.{IsOfItsType}
use Rattle.dnsv_line_laws.proofs.Reading.{lower_said}
use Rattle.dnsv_line_laws.proofs.parts.Passing.{no_slash}
use Rattle.dnsv_line_laws.proofs.told.Forms.{AName, ANumber, AnRrset, AWord, ASalt, Kind, json_value, of_kind, text_value}

-- ---- names

-- one text in lower case is of one name, but for the case of letters
same_text : (a b : Labels) → IsName a → IsName b → lower_text a ≡ lower_text b → SameName a b
same_text a b name_a name_b is =
    let lower_a = IsName-lower_case a name_a in
    let lower_b = IsName-lower_case b name_b in
    one_name (lower_text a) (lower_case a) (lower_case b) lower_a lower_b (text_of_spells (lower_case a) lower_a)
    (subst (λ t. IsTextOf t (lower_case b)) (sym is) (text_of_spells (lower_case b) lower_b))

-- ---- salts

-- what a digit stands for
abbrev value_of : ℕ → ℕ
value_of c = cond (nat_lt c 58) (c - 48) (c - 87)

-- a digit stands for its value
value_glyph : (d : ℕ) → value_of (digit_glyph false d) ≡ d
value_glyph d = grind (arith, nat_tests)

-- the octets that digits of hex stand for
abbrev octets_of : List ℕ → List ℕ
octets_of [] = []
octets_of (a ∷ []) = []
octets_of (a ∷ b ∷ text) = (16 * value_of a + value_of b) ∷ octets_of text

-- two digits give their octet
two_digits : (octet : ℕ) → 16 * value_of (digit_glyph false (octet / 16)) + value_of (digit_glyph false (octet % 16)) ≡ octet
two_digits octet = let high = value_glyph (octet / 16) in let low = value_glyph (octet % 16) in omega (arith, high, low)

-- the octets come back from their digits
octets_written : (octets : List ℕ) → octets_of (flat_map octet_text octets) ≡ octets
octets_written [] = refl
octets_written (octet ∷ octets) =
    ap (λ o. o ∷ octets_of (flat_map octet_text octets)) (two_digits octet) ∙ ap (λ os. octet ∷ os) (octets_written octets)

-- a salt comes back from its text
salt_written : (octets : List ℕ) → octets_of (salt_text octets) ≡ octets
salt_written [] = refl
salt_written (octet ∷ octets) = octets_written (octet ∷ octets)

-- so one text is of one salt
same_salt : (a b : List ℕ) → salt_text a ≡ salt_text b → a ≡ b
same_salt a b is = sym (salt_written a) ∙ ap octets_of is ∙ salt_written b

-- ---- strings of JSON

-- what stands between quotation marks
same_quoted : (a b : List ℕ) → quoted a ≡ quoted b → a ≡ b
same_quoted a b is = let inner : a ++ 34 ∷ [] ≡ b ++ 34 ∷ [] = cc in append_cancel_right a b (34 ∷ []) inner

-- the text of a string, behind a backslash or not
abbrev unescaped : Bool → List ℕ → List ℕ
unescaped behind [] = []
unescaped true (c ∷ text) = c ∷ unescaped false text
unescaped false (c ∷ text) = cond (c == 92) (unescaped true text) (c ∷ unescaped false text)

-- both ways of a test
either : (b : Bool) (x y rest out : List ℕ) → (b ≡ true → unescaped false (x ++ rest) ≡ out) → (b ≡ false → unescaped false (y ++ rest) ≡ out)
    → unescaped false (cond b x y ++ rest) ≡ out
either true x y rest out p q = p refl
either false x y rest out p q = q refl

-- an octet comes back as it was
octet_unescaped : (octet : ℕ) (rest : List ℕ) → unescaped false (escaped octet ++ rest) ≡ octet ∷ unescaped false rest
octet_unescaped octet rest =
    either (octet == 34 || octet == 92) (92 ∷ octet ∷ []) (octet ∷ []) rest (octet ∷ unescaped false rest) (λ is. refl)
    (λ is. ap (λ b. cond b (unescaped true rest) (octet ∷ unescaped false rest)) (no_slash octet is))

-- so does a text
text_unescaped : (text : List ℕ) → unescaped false (flat_map escaped text) ≡ text
text_unescaped [] = refl
text_unescaped (octet ∷ text) = octet_unescaped octet (flat_map escaped text) ∙ ap (λ t. octet ∷ t) (text_unescaped text)

-- one string of JSON is of names with one text
same_name_json : (a b : Labels) → name_json a ≡ name_json b → lower_text a ≡ lower_text b
same_name_json a b is =
    sym (text_unescaped (lower_text a))
    ∙ ap (unescaped false) (same_quoted (flat_map escaped (lower_text a)) (flat_map escaped (lower_text b)) is)
    ∙ text_unescaped (lower_text b)

-- ---- all

-- what is there on both sides
inside : {x y : List ℕ} → Some x ≡ Some y → x ≡ y
inside {x} {y} is = cc

-- values of one kind with one text say the same, with names in lower case
pub text_alike : (kind : Kind) (x y : Said) → of_kind kind x ≡ true → of_kind kind y ≡ true → IsOfItsType x → IsOfItsType y
    → text_value x ≡ text_value y → lower_said x ≡ lower_said y
text_alike AName (Name a) (Name b) p q so too is = ap Name (same_text a b so too (inside is))
text_alike AName (Name a) y p q so too is = cc
text_alike AName Nothing Nothing p q so too is = refl
text_alike AName x y p q so too is = cc
text_alike ANumber (Number a) (Number b) p q so too is = ap Number (decimal_injective a b so too (inside is))
text_alike ANumber (Number a) y p q so too is = cc
text_alike ANumber Nothing Nothing p q so too is = refl
text_alike AnRrset (Rrset a) (Rrset b) p q so too is = ap Rrset (decimal_injective a b so too (inside is))
text_alike AnRrset (Rrset a) y p q so too is = cc
text_alike AnRrset Nothing Nothing p q so too is = refl
text_alike AWord (Word a) (Word b) p q so too is = ap Word (inside is)
text_alike AWord (Word a) y p q so too is = cc
text_alike AWord Nothing Nothing p q so too is = refl
text_alike ASalt (Salt a) (Salt b) p q so too is = ap Salt (same_salt a b (inside is))
text_alike ASalt (Salt a) y p q so too is = cc
text_alike ASalt Nothing Nothing p q so too is = refl
text_alike kind x y p q so too is = cc

-- values of one JSON have one text
pub json_alike : (kind : Kind) (x y : Said) → of_kind kind x ≡ true → of_kind kind y ≡ true → json_value x ≡ json_value y → text_value x ≡ text_value y
json_alike AName (Name a) (Name b) p q is = ap Some (same_name_json a b (inside is))
json_alike AName (Name a) y p q is = cc
json_alike AName Nothing Nothing p q is = refl
json_alike AName x y p q is = cc
json_alike ANumber (Number a) (Number b) p q is = is
json_alike ANumber (Number a) y p q is = cc
json_alike ANumber Nothing Nothing p q is = refl
json_alike AnRrset (Rrset a) (Rrset b) p q is = is
json_alike AnRrset (Rrset a) y p q is = cc
json_alike AnRrset Nothing Nothing p q is = refl
json_alike AWord (Word a) (Word b) p q is = ap Some (same_quoted a b (inside is))
json_alike AWord (Word a) y p q is = cc
json_alike AWord Nothing Nothing p q is = refl
json_alike ASalt (Salt a) (Salt b) p q is = ap Some (same_quoted (salt_text a) (salt_text b) (inside is))
json_alike ASalt (Salt a) y p q is = cc
json_alike ASalt Nothing Nothing p q is = refl
json_alike kind x y p q is = cc
