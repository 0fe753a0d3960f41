-- One text, and one object of JSON, is of lines that are the same.
use Rattle.std.proofs.Common.{◌≡◌, ℕ, ◌<◌, ◌^◌, ◌&&◌, true, false, List, [], ◌∷◌, ◌++◌, Option, nat_lt, drop, map, arith, codes, refl, sym, ap, ap₂, subst, ◌∙◌}
use Rattle.std.proofs.lemmas.Bool.Decides.{nat_tests}
use Rattle.std.proofs.lemmas.List.{append_cancel_right}
use Rattle.std.specs.List.{AllByRecursion, flat_map}
use Rattle.dnsv_lines.specs.Json.{parted}
use Rattle.dnsv_lines.specs.Rows.{line_json, line_text, sentence_of}
use Rattle.dnsv_lines.specs.declared.line.Line.{Line}
use Rattle.dnsv_lines.specs.Sentence.{Said, Name, Number, Rrset, Word, Salt, Nothing, SaidField, SaidSentence, field_members, field_text, json_of_sentence, text_of_sentence}
use Rattle.dnsv_line_laws.specs.Types.{AreOfTheirTypes, IsOfItsType}
use Rattle.dnsv_line_laws.specs.Lower.{SameLine}
use Rattle.dnsv_line_laws.proofs.Reading.{at, lower_field, lower_sentence, read, word_in}
use Rattle.dnsv_line_laws.proofs.told.Lines.{line_told}
use Rattle.dnsv_line_laws.proofs.told.Forms.{ANumber, AWord, Form, Kind, Slot, clean, clean_slots, fits, if_there, is_small, json_fits, json_good, json_fields, json_marks, json_piece, json_slots, json_value, json_words, kinds, label_of, laid, of_kind, saids, text_fields, text_fits, text_good, text_marks, text_piece, text_slots, text_value, text_words}
use Rattle.dnsv_line_laws.proofs.parts.Marks.{Mark, apart, both_first, both_then, same_values, stands, words}
use Rattle.dnsv_line_laws.proofs.Meaning.{json_alike, text_alike}
use Rattle.dnsv_line_laws.proofs.parts.Parting.{Outside, Words, split}
use Rattle.dnsv_line_laws.proofs.parts.Splitting.{IsParted, all_parted, json_by_marks, json_laid, text_by_marks, text_laid}
use Rattle.dnsv_line_laws.proofs.told.Tables.{IsTold, form_by_json, form_by_text}

-- ---- fields

-- fields of one form with the same values say the same
alike_laid : (value : Said → Option (List ℕ)) → ((kind : Kind) (x y : Said) → of_kind kind x ≡ true → of_kind kind y ≡ true → value x ≡ value y → text_value x ≡ text_value y)
    → (slots : List Slot) (xs ys : List Said) → kinds slots xs ≡ true → kinds slots ys ≡ true → AllByRecursion IsOfItsType xs → AllByRecursion IsOfItsType ys
    → map value xs ≡ map value ys → map lower_field (laid slots xs) ≡ map lower_field (laid slots ys)
alike_laid value one [] xs ys p q so too is = refl
alike_laid value one (slot ∷ slots) [] ys p q so too is = cc
alike_laid value one (slot ∷ slots) (x ∷ xs) [] p q so too is = cc
alike_laid value one (slot ∷ slots) (x ∷ xs) (y ∷ ys) p q so too is =
    let of_x : of_kind slot.kind x ≡ true = both_first (of_kind slot.kind x) (kinds slots xs) p in
    let of_y : of_kind slot.kind y ≡ true = both_first (of_kind slot.kind y) (kinds slots ys) q in
    let first : value x ≡ value y = cc in
    let rest : map value xs ≡ map value ys = cc in
    ap₂ (λ (said : Said) (fields : List SaidField). record { label = label_of slot.mark; key = slot.key; said = said } ∷ fields)
    (text_alike slot.kind x y of_x of_y so.0 too.0 (one slot.kind x y of_x of_y first))
    (alike_laid value one slots xs ys (both_then (of_kind slot.kind x) (kinds slots xs) p) (both_then (of_kind slot.kind y) (kinds slots ys) q) so.1 too.1 rest)

-- what is known of the fields of a line, in the text's order or in that of JSON
record Known (value : Said → Option (List ℕ)) (marks : List Mark) (slots : List Slot) (fields : List SaidField) : Type 0 where
  form : fields ≡ laid slots (saids fields)
  kind : kinds slots (saids fields) ≡ true
  stand : stands true marks (map value (saids fields)) ≡ true
  types : AllByRecursion IsOfItsType (saids fields)

-- the same words are of fields that say the same
alike_known : (value : Said → Option (List ℕ)) (marks : List Mark) (slots : List Slot) (xs ys : List SaidField)
    → ((kind : Kind) (x y : Said) → of_kind kind x ≡ true → of_kind kind y ≡ true → value x ≡ value y → text_value x ≡ text_value y)
    → apart marks ≡ true → Known value marks slots xs → Known value marks slots ys
    → words marks (map value (saids xs)) ≡ words marks (map value (saids ys)) → map lower_field xs ≡ map lower_field ys
alike_known value marks slots xs ys one differ a b is =
    ap (map lower_field) a.form
    ∙ alike_laid value one slots (saids xs) (saids ys) a.kind b.kind a.types b.types
    (same_values marks true (map value (saids xs)) (map value (saids ys)) a.stand b.stand differ is)
    ∙ ap (map lower_field) (sym b.form)

-- ---- what a line's form gives

-- by what is said
types_of : (fields : List SaidField) → AllByRecursion (λ field. IsOfItsType field.said) fields → AllByRecursion IsOfItsType (saids fields)
types_of [] are = tt
types_of (field ∷ fields) are = (are.0, types_of fields are.1)

-- of a word or nothing no more is known
word_type : (x : Said) → of_kind AWord x ≡ true → IsOfItsType x
word_type (Word word) is = tt
word_type (Salt salt) is = tt
word_type Nothing is = tt
word_type x is = cc

-- small numbers have at most 64 bits
less : (n : ℕ) → nat_lt n 64 ≡ true → n < 2 ^ 64
less n is = let small : n < 64 = grind (arith, nat_tests) in omega arith

-- a small number, or nothing
number_type : (x : Said) → of_kind ANumber x ≡ true → is_small x ≡ true → IsOfItsType x
number_type (Name name) is small = cc
number_type (Number number) is small = less number small
number_type (Rrset number) is small = cc
number_type x is small = tt

-- what the error and the word of a line are
heads_of_types : (form : Form) (s : SaidSentence) → fits form s ≡ true → IsOfItsType s.error × IsOfItsType s.word
heads_of_types form s fit =
    let small : is_small s.error ≡ true = both_first (is_small s.error) (text_fits form s && json_fits form s) fit in
    let orders : (text_fits form s && json_fits form s) ≡ true = both_then (is_small s.error) (text_fits form s && json_fits form s) fit in
    let text : text_fits form s ≡ true = both_first (text_fits form s) (json_fits form s) orders in
    let kind : kinds (text_slots form) (saids (text_fields s)) ≡ true = both_first (kinds (text_slots form) (saids (text_fields s))) _ text in
    let behind_line : kinds (if_there form.error ANumber (codes "ede") ∷ if_there form.word AWord (codes "word") ∷ form.slots) (s.error ∷ s.word ∷ saids s.fields) ≡ true =
    both_then (clean s.line) (kinds (if_there form.error ANumber (codes "ede") ∷ if_there form.word AWord (codes "word") ∷ form.slots) (s.error ∷ s.word ∷ saids s.fields)) kind in
    let behind_error : kinds (if_there form.word AWord (codes "word") ∷ form.slots) (s.word ∷ saids s.fields) ≡ true =
    both_then (of_kind ANumber s.error) (kinds (if_there form.word AWord (codes "word") ∷ form.slots) (s.word ∷ saids s.fields)) behind_line in (
      number_type s.error (both_first (of_kind ANumber s.error) (kinds (if_there form.word AWord (codes "word") ∷ form.slots) (s.word ∷ saids s.fields)) behind_line) small,
      word_type s.word (both_first (of_kind AWord s.word) (kinds form.slots (saids s.fields)) behind_error),
    )

-- its fields and its words in the text's order
record InText (form : Form) (s : SaidSentence) : Type 0 where
  known : Known text_value (text_marks (text_slots form)) (text_slots form) (text_fields s)
  told : text_words s ≡ words (text_marks (text_slots form)) (map text_value (saids (text_fields s)))
  part : split Words (32 ∷ text_of_sentence s) ≡ [] ∷ text_words s

in_text : (s : SaidSentence) (told : IsTold s) → AreOfTheirTypes s → InText told.form s
in_text s told types =
    let form : Form = told.form in
    let slots : List Slot = text_slots form in
    let xs : List Said = saids (text_fields s) in
    let orders : (text_fits form s && json_fits form s) ≡ true = both_then (is_small s.error) (text_fits form s && json_fits form s) told.fits in
    let text : text_fits form s ≡ true = both_first (text_fits form s) (json_fits form s) orders in
    let kind : kinds slots xs ≡ true = both_first (kinds slots xs) (stands true (text_marks slots) (map text_value xs)) text in
    let stand : stands true (text_marks slots) (map text_value xs) ≡ true = both_then (kinds slots xs) (stands true (text_marks slots) (map text_value xs)) text in
    let good : text_good form ≡ true = both_first (text_good form) (json_good form) told.good in
    let tidy : clean_slots slots ≡ true = both_then (apart (text_marks slots)) (clean_slots slots) good in
    let heads = heads_of_types form s told.fits in
    record {
      known = record { form = told.text; kind = kind; stand = stand; types = (tt, (heads.0, (heads.1, types_of s.fields types))) };
      told = ap (flat_map text_piece) told.text ∙ text_by_marks slots xs;
      part = all_parted (subst (λ fs. IsParted Words (flat_map field_text fs) (flat_map text_piece fs)) (sym told.text) (text_laid slots xs tidy kind));
    }

-- the sentence of fields in the text's order, and in that of JSON
abbrev of_text : List SaidField → SaidSentence
of_text fields = record { line = word_in (at fields 0); error = at fields 1; word = at fields 2; fields = drop 3 fields }

abbrev of_json : List SaidField → SaidSentence
of_json fields = record { line = word_in (at fields 0); word = at fields 1; error = at fields 2; fields = drop 3 fields }

-- two sentences of one text say the same
one_text : (a b : SaidSentence) → IsTold a → IsTold b → AreOfTheirTypes a → AreOfTheirTypes b → text_of_sentence a ≡ text_of_sentence b → lower_sentence a ≡ lower_sentence b
one_text a b told_a told_b types_a types_b is =
    let in_a = in_text a told_a types_a in
    let in_b = in_text b told_b types_b in
    let parts : [] ∷ text_words a ≡ [] ∷ text_words b = sym in_a.part ∙ ap (λ t. split Words (32 ∷ t)) is ∙ in_b.part in
    let same_words : text_words a ≡ text_words b = cc in
    let form : told_a.form ≡ told_b.form = sym told_a.by_text ∙ ap form_by_text same_words ∙ told_b.by_text in
    let as_a : InText told_a.form b = subst (λ f. InText f b) (sym form) in_b in
    let slots : List Slot = text_slots told_a.form in
    let good : text_good told_a.form ≡ true = both_first (text_good told_a.form) (json_good told_a.form) told_a.good in
    ap of_text (alike_known text_value (text_marks slots) slots (text_fields a) (text_fields b) (λ kind x y p q same. same)
    (both_first (apart (text_marks slots)) (clean_slots slots) good) in_a.known as_a.known
    (sym in_a.told ∙ same_words ∙ as_a.told))

-- ---- JSON

-- its fields and its words in JSON's order
record InJson (form : Form) (s : SaidSentence) : Type 0 where
  known : Known json_value (json_marks (json_slots form)) (json_slots form) (json_fields s)
  told : json_words s ≡ words (json_marks (json_slots form)) (map json_value (saids (json_fields s)))
  part : split Outside (parted false (flat_map field_members (json_fields s))) ≡ [] ∷ json_words s

in_json : (s : SaidSentence) (told : IsTold s) → AreOfTheirTypes s → InJson told.form s
in_json s told types =
    let form : Form = told.form in
    let slots : List Slot = json_slots form in
    let xs : List Said = saids (json_fields s) in
    let orders : (text_fits form s && json_fits form s) ≡ true = both_then (is_small s.error) (text_fits form s && json_fits form s) told.fits in
    let json : json_fits form s ≡ true = both_then (text_fits form s) (json_fits form s) orders in
    let kind : kinds slots xs ≡ true = both_first (kinds slots xs) (stands true (json_marks slots) (map json_value xs)) json in
    let stand : stands true (json_marks slots) (map json_value xs) ≡ true = both_then (kinds slots xs) (stands true (json_marks slots) (map json_value xs)) json in
    let good : json_good form ≡ true = both_then (text_good form) (json_good form) told.good in
    let tidy : clean_slots slots ≡ true = both_then (apart (json_marks slots)) (clean_slots slots) good in
    let heads = heads_of_types form s told.fits in
    record {
      known = record { form = told.json; kind = kind; stand = stand; types = (tt, (heads.1, (heads.0, types_of s.fields types))) };
      told = ap (flat_map json_piece) told.json ∙ json_by_marks slots xs true stand;
      part = all_parted (subst (λ fs. IsParted Outside (parted false (flat_map field_members fs)) (flat_map json_piece fs)) (sym told.json) (json_laid slots xs tidy kind));
    }

-- within the braces, and behind a comma, stand the members
abbrev members_of : SaidSentence → List (List ℕ)
members_of s = flat_map field_members (json_fields s)

same_members : (a b : SaidSentence) → json_of_sentence a ≡ json_of_sentence b → parted false (members_of a) ≡ parted false (members_of b)
same_members a b is =
    let inner : parted true (members_of a) ++ codes "}" ≡ parted true (members_of b) ++ codes "}" = ap (drop 1) is in
    ap (λ t. 44 ∷ t) (append_cancel_right (parted true (members_of a)) (parted true (members_of b)) (codes "}") inner)

-- two sentences of one object of JSON say the same
one_json : (a b : SaidSentence) → IsTold a → IsTold b → AreOfTheirTypes a → AreOfTheirTypes b → json_of_sentence a ≡ json_of_sentence b → lower_sentence a ≡ lower_sentence b
one_json a b told_a told_b types_a types_b is =
    let in_a = in_json a told_a types_a in
    let in_b = in_json b told_b types_b in
    let parts : [] ∷ json_words a ≡ [] ∷ json_words b = sym in_a.part ∙ ap (split Outside) (same_members a b is) ∙ in_b.part in
    let same_words : json_words a ≡ json_words b = cc in
    let form : told_a.form ≡ told_b.form = sym told_a.by_json ∙ ap form_by_json same_words ∙ told_b.by_json in
    let as_a : InJson told_a.form b = subst (λ f. InJson f b) (sym form) in_b in
    let slots : List Slot = json_slots told_a.form in
    let good : json_good told_a.form ≡ true = both_then (text_good told_a.form) (json_good told_a.form) told_a.good in
    ap of_json (alike_known json_value (json_marks slots) slots (json_fields a) (json_fields b) json_alike
    (both_first (apart (json_marks slots)) (clean_slots slots) good) in_a.known as_a.known
    (sym in_a.told ∙ same_words ∙ as_a.told))

-- ---- lines

-- lines whose sentences say the same are the same
same_line : (a b : Line) → lower_sentence (sentence_of a) ≡ lower_sentence (sentence_of b) → SameLine a b
same_line a b is = sym (line_told a).back ∙ ap read is ∙ (line_told b).back

-- two lines of one text are the same
pub same_by_text : (a b : Line) → AreOfTheirTypes (sentence_of a) → AreOfTheirTypes (sentence_of b) → line_text a ≡ line_text b → SameLine a b
same_by_text a b types_a types_b is =
    same_line a b (one_text (sentence_of a) (sentence_of b) (line_told a).told (line_told b).told types_a types_b is)

-- two lines of one object of JSON are the same
pub same_by_json : (a b : Line) → AreOfTheirTypes (sentence_of a) → AreOfTheirTypes (sentence_of b) → line_json a ≡ line_json b → SameLine a b
same_by_json a b types_a types_b is =
    same_line a b (one_json (sentence_of a) (sentence_of b) (line_told a).told (line_told b).told types_a types_b is)
