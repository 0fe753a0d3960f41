-- What stands for a line: its words and its fields. The text, the JSON and the RRsets that it names follow from these.
use Rattle.std.specs.Prelude.{ℕ, List, [], ◌∷◌, ◌++◌, Option, Some, None, codes, flat_map, map}
use Rattle.std.specs.Fmt.{decimal}
use Rattle.dnsv_names.specs.Name.{Labels, lower_case}
use Rattle.dnsv_names.specs.Text.{text_of}
use Rattle.dnsv_lines.specs.Json.{member, name_json, object, quoted}
use Rattle.dnsv_lines.specs.Salt.{salt_text}
use Rattle.dnsv_lines.specs.declared.sentence.ReasonWord as declared_word
use Rattle.dnsv_lines.specs.declared.sentence.Sentence as declared_sentence
use Rattle.dnsv_lines.specs.declared.sentence.field.Field as declared_field
use Rattle.dnsv_lines.specs.declared.sentence.field.Value as declared_value
use Rattle.dnsv_lines.specs.declared.sentence.field.Value.TheVariants as value

-- ---- fields

-- what a field says: a name, a number, the number of an RRset of the evidence, a word, a salt, or nothing, where the line
-- doesn't have it
pub data Said : Type 0 where
  Name : Labels → Said
  Number : ℕ → Said
  Rrset : ℕ → Said
  Word : List ℕ → Said
  Salt : List ℕ → Said
  Nothing : Said

-- the number, where there is one
abbrev pub given_number : Option ℕ → Said
given_number None = Nothing
given_number (Some number) = Number number

-- the name, where there is one
abbrev pub given_name : Option Labels → Said
given_name None = Nothing
given_name (Some name) = Name name

-- a field: the word before it in text, where there is one, its key in JSON, and what it says
pub record SaidField : Type 0 where
  pub label : Option (List ℕ)
  pub key : List ℕ
  pub said : Said

-- a field without a word before it, one whose key stands before it, and one with another word before it
abbrev pub plain : List ℕ → Said → SaidField
plain key said = record { label = None; key = key; said = said }

abbrev pub same : List ℕ → Said → SaidField
same key said = record { label = Some key; key = key; said = said }

abbrev pub under : List ℕ → List ℕ → Said → SaidField
under label key said = record { label = Some label; key = key; said = said }

-- ---- sentences

-- the first word of the line; of what fails the word, and of a reason the number of its extended DNS error (RFC 8914); and
-- the fields
pub record SaidSentence : Type 0 where
  pub line : List ℕ
  pub word : Said
  pub error : Said
  pub fields : List SaidField

-- the word of what fails, and the number of its extended DNS error, 0 where none fits
pub record SaidWord : Type 0 where
  pub word : List ℕ
  pub error : ℕ

abbrev pub reason : List ℕ → ℕ → SaidWord
reason word error = record { word = word; error = error }

abbrev pub plain_sentence : List ℕ → List SaidField → SaidSentence
plain_sentence line fields = record { line = line; word = Nothing; error = Nothing; fields = fields }

abbrev pub reason_sentence : SaidWord → List SaidField → SaidSentence
reason_sentence why fields =
    record { line = codes "reason"; word = Word why.word; error = Number why.error; fields = fields }

abbrev pub follows_sentence : List ℕ → List SaidField → SaidSentence
follows_sentence word fields =
    record { line = codes "follows"; word = Word word; error = Nothing; fields = fields }

-- ---- text: each field behind a space, with its word before it, names in lower case, numbers in decimal

abbrev pub label_text : Option (List ℕ) → List ℕ
label_text None = []
label_text (Some label) = codes " " ++ label

abbrev pub lower_text : Labels → List ℕ
lower_text name = text_of (lower_case name)

abbrev pub labelled_text : Option (List ℕ) → Said → List ℕ
labelled_text label (Name name) = label_text label ++ codes " " ++ lower_text name
labelled_text label (Number number) = label_text label ++ codes " " ++ decimal number
labelled_text label (Rrset number) = label_text label ++ codes " " ++ decimal number
labelled_text label (Word word) = label_text label ++ codes " " ++ word
labelled_text label (Salt salt) = label_text label ++ codes " " ++ salt_text salt
labelled_text label Nothing = []

abbrev pub field_text : SaidField → List ℕ
field_text field = labelled_text field.label field.said

-- the first word, the number, the word, and then the fields
abbrev pub text_of_sentence : SaidSentence → List ℕ
text_of_sentence sentence =
    sentence.line ++ flat_map field_text
    (plain (codes "ede") sentence.error ∷ plain (codes "word") sentence.word ∷ sentence.fields)

-- ---- JSON: a member for each field (RFC 8259), names and words as strings

abbrev pub keyed_members : List ℕ → Said → List (List ℕ)
keyed_members key (Name name) = member key (name_json name) ∷ []
keyed_members key (Number number) = member key (decimal number) ∷ []
keyed_members key (Rrset number) = member key (decimal number) ∷ []
keyed_members key (Word word) = member key (quoted word) ∷ []
keyed_members key (Salt salt) = member key (quoted (salt_text salt)) ∷ []
keyed_members key Nothing = []

abbrev pub field_members : SaidField → List (List ℕ)
field_members field = keyed_members field.key field.said

-- the first word under this key, the word, the number, and then the fields
abbrev pub json_under : List ℕ → SaidSentence → List ℕ
json_under key sentence =
    object (member key (quoted sentence.line) ∷ flat_map field_members
    (plain (codes "word") sentence.word ∷ plain (codes "ede") sentence.error ∷ sentence.fields))

-- so of a line of an explanation
abbrev pub json_of_sentence : SaidSentence → List ℕ
json_of_sentence sentence = json_under (codes "line") sentence

-- ---- the numbers of RRsets that it names

abbrev pub rrset_said : Said → List ℕ
rrset_said (Rrset number) = number ∷ []
rrset_said (Name name) = []
rrset_said (Number number) = []
rrset_said (Word word) = []
rrset_said (Salt salt) = []
rrset_said Nothing = []

abbrev pub rrsets_of_sentence : SaidSentence → List ℕ
rrsets_of_sentence sentence = flat_map (λ field. rrset_said field.said) sentence.fields

-- ---- how they are kept: no public clause cites what follows for another reason than to say which they are

abbrev pub said : declared_value.Value → Said
said (value.Name name) = Name name.now
said (value.Number number) = Number number
said (value.Rrset number) = Rrset number
said (value.Word word) = Word word.now
said (value.Salt salt) = Salt salt.now
said value.Nothing = Nothing

abbrev pub said_label : {X : Type 0} → (X → List ℕ) → Option X → Option (List ℕ)
said_label now None = None
said_label now (Some label) = Some (now label)

abbrev pub said_field : declared_field.Field → SaidField
said_field field = record { label = said_label (λ label. label.now) field.label; key = field.key.now; said = said field.value }

abbrev pub reason_word : declared_word.ReasonWord → SaidWord
reason_word word = record { word = word.word.now; error = word.error }

abbrev pub said_sentence : declared_sentence.Sentence → SaidSentence
said_sentence sentence = record {
  line = sentence.line.now;
  word = said sentence.word;
  error = said sentence.error;
  fields = map said_field sentence.fields.items;
}
