-- The text and the JSON of fields are parted into their words.
use Rattle.std.proofs.Common.{◌≡◌, ℕ, ◌&&◌, Bool, true, false, List, [], ◌∷◌, ◌++◌, Option, Some, None, append_assoc, codes, map, refl, sym, ap, subst, ◌∙◌}
use Rattle.std.proofs.lemmas.List.{append-nil}
use Rattle.std.specs.Fmt.{decimal}
use Rattle.std.specs.List.{flat_map}
use Rattle.dnsv_names.specs.Name.{lower_case}
use Rattle.dnsv_names.specs.Text.{text_of}
use Rattle.dnsv_lines.proofs.JsonLemmas.{parted_behind}
use Rattle.dnsv_lines.specs.Json.{member, parted, quoted}
use Rattle.dnsv_lines.specs.Salt.{salt_text}
use Rattle.dnsv_lines.specs.Sentence.{Said, Name, Number, Rrset, Word, Salt, Nothing, field_members, field_text, keyed_members, label_text, labelled_text, lower_text}
use Rattle.dnsv_line_laws.proofs.told.Forms.{AWord, Kind, Slot, clean, clean_mark, clean_slots, json_marks, json_piece, json_value, keyed, kinds, label_of, laid, mark_of, of_kind, text_marks, text_piece, text_value}
use Rattle.dnsv_line_laws.proofs.parts.Marks.{Mark, Absent, Bare, Labelled, both_first, both_then, piece, stands, words}
use Rattle.dnsv_line_laws.proofs.parts.Parting.{Mode, Words, Outside, Passes, is_cut, one_part, split}
use Rattle.dnsv_line_laws.proofs.parts.Passing.{clean_inside, clean_words, decimal_outside, decimal_words, name_words, quoted_outside, salt_clean, string_outside}

-- a text that is parted into these, whatever is parted behind it
pub record IsParted (mode : Mode) (text : List ℕ) (parts : List (List ℕ)) : Type 0 where
  pub before : (rest : List ℕ) (more : List (List ℕ)) → split mode rest ≡ [] ∷ more → split mode (text ++ rest) ≡ [] ∷ (parts ++ more)

-- of nothing, of one text behind another, and of one part
none_parted : (mode : Mode) → IsParted mode [] []
none_parted mode = record { before = λ rest more is. is }

parted_then : {mode : Mode} {a b : List ℕ} {p q : List (List ℕ)} → IsParted mode a p → IsParted mode b q → IsParted mode (a ++ b) (p ++ q)
parted_then {mode} {a} {b} {p} {q} first then = record {
  before = λ rest more is.
      ap (split mode) (append_assoc a b rest) ∙ first.before (b ++ rest) (q ++ more) (then.before rest more is)
      ∙ ap (λ ps. [] ∷ ps) (sym (append_assoc p q more));
}

one_parted : (mode : Mode) (c : ℕ) (part : List ℕ) → is_cut mode c ≡ true → Passes mode part mode → IsParted mode (c ∷ part) (part ∷ [])
one_parted mode c part cut passes = record { before = λ rest more is. one_part mode c part rest more cut passes is }

-- all of it
pub all_parted : {mode : Mode} {text : List ℕ} {parts : List (List ℕ)} → IsParted mode text parts → split mode text ≡ [] ∷ parts
all_parted {mode} {text} {parts} is =
    ap (split mode) (sym (append-nil text)) ∙ is.before [] [] refl ∙ ap (λ ps. [] ∷ ps) (append-nil parts)

-- ---- what is clean

-- a label, where there is one, and a word
abbrev CleanLabel : Option (List ℕ) → Type 0
CleanLabel None = Unit {0}
CleanLabel (Some label) = clean label ≡ true

abbrev CleanSaid : Said → Type 0
CleanSaid (Word word) = clean word ≡ true
CleanSaid _ = Unit {0}

-- so is what stands in a good form
clean_label : (mark : Mark) → clean_mark mark ≡ true → CleanLabel (label_of mark)
clean_label (Labelled label) is = is
clean_label mark is = tt

clean_said : (kind : Kind) (said : Said) → of_kind kind said ≡ true → CleanSaid said
clean_said AWord (Word word) is = is
clean_said kind (Word word) is = cc
clean_said kind said is = tt

-- ---- text

-- a label and a value
value_parted : (label : Option (List ℕ)) (value : List ℕ) → CleanLabel label → Passes Words value Words
    → IsParted Words ((label_text label ++ codes " ") ++ value) (piece (mark_of label) (Some value))
value_parted None value is passes = one_parted Words 32 value refl passes
value_parted (Some label) value is passes =
    subst (λ t. IsParted Words t (label ∷ value ∷ [])) (sym (append_assoc (32 ∷ label) (32 ∷ []) value))
    (parted_then (one_parted Words 32 label refl (clean_words label is)) (one_parted Words 32 value refl passes))

-- a field
text_parted : (label : Option (List ℕ)) (said : Said) → CleanLabel label → CleanSaid said → IsParted Words (labelled_text label said) (piece (mark_of label) (text_value said))
text_parted label (Name name) is so = value_parted label (lower_text name) is (name_words (lower_case name))
text_parted label (Number number) is so = value_parted label (decimal number) is (decimal_words number)
text_parted label (Rrset number) is so = value_parted label (decimal number) is (decimal_words number)
text_parted label (Word word) is so = value_parted label word is (clean_words word so)
text_parted label (Salt salt) is so = value_parted label (salt_text salt) is (clean_words (salt_text salt) (salt_clean salt))
text_parted label Nothing is so = none_parted Words

-- all fields
pub text_laid : (slots : List Slot) (xs : List Said) → clean_slots slots ≡ true → kinds slots xs ≡ true
    → IsParted Words (flat_map field_text (laid slots xs)) (flat_map text_piece (laid slots xs))
text_laid [] xs is fit = none_parted Words
text_laid (slot ∷ slots) [] is fit = none_parted Words
text_laid (slot ∷ slots) (x ∷ xs) is fit =
    let of_slot : (clean_mark slot.mark && clean slot.key) ≡ true = both_first (clean_mark slot.mark && clean slot.key) (clean_slots slots) is in
    parted_then
    (text_parted (label_of slot.mark) x (clean_label slot.mark (both_first (clean_mark slot.mark) (clean slot.key) of_slot))
    (clean_said slot.kind x (both_first (of_kind slot.kind x) (kinds slots xs) fit)))
    (text_laid slots xs (both_then (clean_mark slot.mark && clean slot.key) (clean_slots slots) is) (both_then (of_kind slot.kind x) (kinds slots xs) fit))

-- ---- JSON

-- a member in two parts
one_member : (q v : List ℕ) → (44 ∷ ((q ++ 58 ∷ []) ++ v)) ++ [] ≡ (44 ∷ q) ++ (58 ∷ v)
one_member q v = append-nil (44 ∷ ((q ++ 58 ∷ []) ++ v)) ∙ append_assoc (44 ∷ q) (58 ∷ []) v

-- a key and a value
member_parted : (key value : List ℕ) → clean key ≡ true → Passes Outside value Outside
    → IsParted Outside (parted false (member key value ∷ [])) (quoted key ∷ value ∷ [])
member_parted key value is passes =
    subst (λ t. IsParted Outside t (quoted key ∷ value ∷ [])) (sym (one_member (quoted key) value))
    (parted_then (one_parted Outside 44 (quoted key) refl (quoted_outside key (clean_inside key is))) (one_parted Outside 58 value refl passes))

-- a field
json_parted : (key : List ℕ) (said : Said) → clean key ≡ true → CleanSaid said
    → IsParted Outside (parted false (keyed_members key said)) (piece (Labelled (quoted key)) (json_value said))
json_parted key (Name name) is so = member_parted key _ is (string_outside (text_of (lower_case name)))
json_parted key (Number number) is so = member_parted key (decimal number) is (decimal_outside number)
json_parted key (Rrset number) is so = member_parted key (decimal number) is (decimal_outside number)
json_parted key (Word word) is so = member_parted key (quoted word) is (quoted_outside word (clean_inside word so))
json_parted key (Salt salt) is so =
    member_parted key (quoted (salt_text salt)) is (quoted_outside (salt_text salt) (clean_inside (salt_text salt) (salt_clean salt)))
json_parted key Nothing is so = none_parted Outside

-- all fields
pub json_laid : (slots : List Slot) (xs : List Said) → clean_slots slots ≡ true → kinds slots xs ≡ true
    → IsParted Outside (parted false (flat_map field_members (laid slots xs))) (flat_map json_piece (laid slots xs))
json_laid [] xs is fit = none_parted Outside
json_laid (slot ∷ slots) [] is fit = none_parted Outside
json_laid (slot ∷ slots) (x ∷ xs) is fit =
    let of_slot : (clean_mark slot.mark && clean slot.key) ≡ true = both_first (clean_mark slot.mark && clean slot.key) (clean_slots slots) is in
    subst (λ t. IsParted Outside t (flat_map json_piece (laid (slot ∷ slots) (x ∷ xs))))
    (sym (parted_behind (keyed_members slot.key x) (flat_map field_members (laid slots xs))))
    (parted_then
    (json_parted slot.key x (both_then (clean_mark slot.mark) (clean slot.key) of_slot) (clean_said slot.kind x (both_first (of_kind slot.kind x) (kinds slots xs) fit)))
    (json_laid slots xs (both_then (clean_mark slot.mark && clean slot.key) (clean_slots slots) is) (both_then (of_kind slot.kind x) (kinds slots xs) fit)))

-- ---- the words are those of the marks

-- of one field
text_piece_by_mark : (mark : Mark) (value : Option (List ℕ)) → piece (mark_of (label_of mark)) value ≡ piece mark value
text_piece_by_mark Bare None = refl
text_piece_by_mark Bare (Some value) = refl
text_piece_by_mark mark None = refl
text_piece_by_mark mark (Some value) = refl

-- of all fields
pub text_by_marks : (slots : List Slot) (xs : List Said) → flat_map text_piece (laid slots xs) ≡ words (text_marks slots) (map text_value xs)
text_by_marks [] xs = refl
text_by_marks (slot ∷ slots) [] = refl
text_by_marks (slot ∷ slots) (x ∷ xs) =
    ap (λ p. p ++ flat_map text_piece (laid slots xs)) (text_piece_by_mark slot.mark (text_value x))
    ∙ ap (λ ws. piece slot.mark (text_value x) ++ ws) (text_by_marks slots xs)

-- in JSON a field that is absent has no value
json_piece_by_mark : (mark : Mark) (key : List ℕ) (value : Option (List ℕ)) (there : Bool) (marks : List Mark) (values : List (Option (List ℕ)))
    → stands there (keyed mark key ∷ marks) (value ∷ values) ≡ true → piece (Labelled (quoted key)) value ≡ piece (keyed mark key) value
json_piece_by_mark Absent key None there marks values is = refl
json_piece_by_mark Absent key (Some value) there marks values is = cc
json_piece_by_mark Bare key value there marks values is = refl
json_piece_by_mark (Labelled label) key value there marks values is = refl

-- what stands behind a value is known to stand, behind a value or not
stands_on : (mark : Mark) (key : List ℕ) (value : Option (List ℕ)) (there : Bool) (marks : List Mark) (values : List (Option (List ℕ)))
    → stands there (keyed mark key ∷ marks) (value ∷ values) ≡ true → (on : Bool) × (stands on marks values ≡ true)
stands_on Absent key None there marks values is = (there, is)
stands_on Absent key (Some value) there marks values is = cc
stands_on mark key None there marks values is = (false, is)
stands_on mark key (Some value) there marks values is = (true, is)

-- of all fields in JSON
pub json_by_marks : (slots : List Slot) (xs : List Said) (there : Bool) → stands there (json_marks slots) (map json_value xs) ≡ true
    → flat_map json_piece (laid slots xs) ≡ words (json_marks slots) (map json_value xs)
json_by_marks [] xs there is = refl
json_by_marks (slot ∷ slots) [] there is = refl
json_by_marks (slot ∷ slots) (x ∷ xs) there is =
    let on = stands_on slot.mark slot.key (json_value x) there (json_marks slots) (map json_value xs) is in
    ap (λ p. p ++ flat_map json_piece (laid slots xs)) (json_piece_by_mark slot.mark slot.key (json_value x) there (json_marks slots) (map json_value xs) is)
    ∙ ap (λ ws. piece (keyed slot.mark slot.key) (json_value x) ++ ws) (json_by_marks slots xs on.0 on.1)
