-- What each kind of line says: its fields in their order, by the line's first words.
use Rattle.std.proofs.Common.{ℕ, Bool, true, false, List, [], ◌∷◌, ◌||◌, ◌&&◌, Option, Some, None, codes, map, not, nat_lt, ◌==◌}
use Rattle.std.specs.Fmt.{decimal}
use Rattle.std.specs.List.{flat_map}
use Rattle.dnsv_lines.specs.Json.{name_json, quoted}
use Rattle.dnsv_lines.specs.Salt.{salt_text}
use Rattle.dnsv_lines.specs.Sentence.{Said, Name, Number, Rrset, Word, Salt, Nothing, SaidField, SaidSentence, lower_text, plain}
use Rattle.dnsv_line_laws.proofs.parts.Marks.{Mark, Absent, Bare, Labelled, apart, piece, stands}

-- ---- values as they are written

-- in text
abbrev pub text_value : Said → Option (List ℕ)
text_value (Name name) = Some (lower_text name)
text_value (Number number) = Some (decimal number)
text_value (Rrset number) = Some (decimal number)
text_value (Word word) = Some word
text_value (Salt salt) = Some (salt_text salt)
text_value Nothing = None

-- in JSON
abbrev pub json_value : Said → Option (List ℕ)
json_value (Name name) = Some (name_json name)
json_value (Number number) = Some (decimal number)
json_value (Rrset number) = Some (decimal number)
json_value (Word word) = Some (quoted word)
json_value (Salt salt) = Some (quoted (salt_text salt))
json_value Nothing = None

-- a sentence's fields in the text's order, and in that of JSON, its first word as one of them
abbrev pub text_fields : SaidSentence → List SaidField
text_fields s = plain (codes "line") (Word s.line) ∷ plain (codes "ede") s.error ∷ plain (codes "word") s.word ∷ s.fields

abbrev pub json_fields : SaidSentence → List SaidField
json_fields s = plain (codes "line") (Word s.line) ∷ plain (codes "word") s.word ∷ plain (codes "ede") s.error ∷ s.fields

-- what stands before a value
abbrev pub mark_of : Option (List ℕ) → Mark
mark_of None = Bare
mark_of (Some label) = Labelled label

-- the words of a field
abbrev pub text_piece : SaidField → List (List ℕ)
text_piece field = piece (mark_of field.label) (text_value field.said)

abbrev pub json_piece : SaidField → List (List ℕ)
json_piece field = piece (Labelled (quoted field.key)) (json_value field.said)

-- the words of a sentence
abbrev pub text_words : SaidSentence → List (List ℕ)
text_words s = flat_map text_piece (text_fields s)

abbrev pub json_words : SaidSentence → List (List ℕ)
json_words s = flat_map json_piece (json_fields s)

-- ---- forms

-- what a field says
pub data Kind : Type 0 where
  AName : Kind
  ANumber : Kind
  AnRrset : Kind
  AWord : Kind
  ASalt : Kind

-- an octet that stands for itself in a text and in a string of JSON
abbrev pub is_clean : ℕ → Bool
is_clean c = not (c == 32 || c == 34 || c == 92)

-- all octets of a word are
abbrev pub clean : List ℕ → Bool
clean [] = true
clean (c ∷ word) = is_clean c && clean word

-- nothing, or of this kind
abbrev pub of_kind : Kind → Said → Bool
of_kind AName (Name name) = true
of_kind ANumber (Number number) = true
of_kind AnRrset (Rrset number) = true
of_kind AWord (Word word) = clean word
of_kind ASalt (Salt salt) = true
of_kind kind Nothing = true
of_kind _ _ = false

-- a place of a form: what stands before its value, its key, and what its value is
pub record Slot : Type 0 where
  pub mark : Mark
  pub key : List ℕ
  pub kind : Kind

-- a value alone, one behind its key, and one behind another label
abbrev pub bare : Kind → List ℕ → Slot
bare kind key = record { mark = Bare; key = key; kind = kind }

abbrev pub own : Kind → List ℕ → Slot
own kind key = record { mark = Labelled key; key = key; kind = kind }

abbrev pub behind : Kind → List ℕ → List ℕ → Slot
behind kind label key = record { mark = Labelled label; key = key; kind = kind }

-- a form: whether there are the number and the word of what fails, and the fields
pub record Form : Type 0 where
  pub error : Bool
  pub word : Bool
  pub slots : List Slot

-- of a line that has neither, and of a reason
abbrev pub plain_form : List Slot → Form
plain_form slots = record { error = false; word = false; slots = slots }

abbrev pub reason_form : List Slot → Form
reason_form slots = record { error = true; word = true; slots = slots }

-- a value that is always there, or never
abbrev pub mark_if : Bool → Mark
mark_if false = Absent
mark_if true = Bare

abbrev pub if_there : Bool → Kind → List ℕ → Slot
if_there there kind key = record { mark = mark_if there; key = key; kind = kind }

-- all fields in the text's order, and in that of JSON
abbrev pub text_slots : Form → List Slot
text_slots form = bare AWord (codes "line") ∷ if_there form.error ANumber (codes "ede") ∷ if_there form.word AWord (codes "word") ∷ form.slots

abbrev pub json_slots : Form → List Slot
json_slots form = bare AWord (codes "line") ∷ if_there form.word AWord (codes "word") ∷ if_there form.error ANumber (codes "ede") ∷ form.slots

-- what stands before values in text
abbrev pub text_marks : List Slot → List Mark
text_marks slots = map (λ slot. slot.mark) slots

-- in JSON each stands behind its key
abbrev pub keyed : Mark → List ℕ → Mark
keyed Absent key = Absent
keyed other key = Labelled (quoted key)

abbrev pub json_marks : List Slot → List Mark
json_marks slots = map (λ slot. keyed slot.mark slot.key) slots

-- the label of a field
abbrev pub label_of : Mark → Option (List ℕ)
label_of (Labelled label) = Some label
label_of other = None

-- the fields of a form with what they say
abbrev pub laid : List Slot → List Said → List SaidField
laid [] saids = []
laid (slot ∷ slots) [] = []
laid (slot ∷ slots) (said ∷ saids) = record { label = label_of slot.mark; key = slot.key; said = said } ∷ laid slots saids

-- each value is of its kind
abbrev pub kinds : List Slot → List Said → Bool
kinds [] [] = true
kinds (slot ∷ slots) (said ∷ saids) = of_kind slot.kind said && kinds slots saids
kinds _ _ = false

-- labels and keys part nothing
abbrev pub clean_mark : Mark → Bool
clean_mark (Labelled label) = clean label
clean_mark other = true

abbrev pub clean_slots : List Slot → Bool
clean_slots [] = true
clean_slots (slot ∷ slots) = clean_mark slot.mark && clean slot.key && clean_slots slots

-- a form that can be told from its words: labels are apart, and what stands before values isn't parted
abbrev pub text_good : Form → Bool
text_good form = apart (text_marks (text_slots form)) && clean_slots (text_slots form)

abbrev pub json_good : Form → Bool
json_good form = apart (json_marks (json_slots form)) && clean_slots (json_slots form)

abbrev pub is_good : Form → Bool
is_good form = text_good form && json_good form

-- what fields say
abbrev pub saids : List SaidField → List Said
saids fields = map (λ field. field.said) fields

-- the numbers of errors are small
abbrev pub is_small : Said → Bool
is_small (Number number) = nat_lt number 64
is_small said = true

-- the sentence says what the form has
abbrev pub text_fits : Form → SaidSentence → Bool
text_fits form s =
    kinds (text_slots form) (saids (text_fields s)) && stands true (text_marks (text_slots form)) (map text_value (saids (text_fields s)))

abbrev pub json_fits : Form → SaidSentence → Bool
json_fits form s =
    kinds (json_slots form) (saids (json_fields s)) && stands true (json_marks (json_slots form)) (map json_value (saids (json_fields s)))

-- in both orders
abbrev pub fits : Form → SaidSentence → Bool
fits form s = is_small s.error && (text_fits form s && json_fits form s)
