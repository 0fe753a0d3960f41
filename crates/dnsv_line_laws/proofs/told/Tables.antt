-- The forms of all lines, and which one the first words tell.
use Rattle.std.proofs.Common.{◌≡◌, ℕ, Bool, true, false, cond, List, [], ◌∷◌, ◌||◌, codes, get_or, nat_lt}
use Rattle.dnsv_lines.specs.Json.{quoted}
use Rattle.dnsv_lines.specs.Rows.{sentence_of}
use Rattle.dnsv_lines.specs.Sentence.{SaidSentence}
use Rattle.dnsv_lines.specs.declared.line.Line.{Line}
use Rattle.dnsv_line_laws.specs.Lower.{lower_line}
use Rattle.dnsv_line_laws.proofs.Reading.{lower_sentence, read}
use Rattle.dnsv_line_laws.proofs.told.Forms.{Form, Slot, AName, ANumber, AnRrset, AWord, ASalt, bare, behind, fits, is_good, json_fields, json_slots, json_words, laid, own, plain_form, reason_form, saids, text_fields, text_slots, text_words}
use Rattle.dnsv_line_laws.proofs.parts.Marks.{same}

-- ---- the forms

abbrev pub trusted_form : Form
trusted_form = plain_form (
    bare AName (codes "zone") ∷ own AnRrset (codes "rrset") ∷ own ANumber (codes "signature")
    ∷ behind ANumber (codes "key") (codes "tag") ∷ bare ANumber (codes "algorithm") ∷ own ANumber (codes "anchor")
    ∷ behind AnRrset (codes "ds") (codes "ds_rrset") ∷ bare ANumber (codes "ds_record")
    ∷ behind ANumber (codes "digest") (codes "digest_type") ∷ own ANumber (codes "todo") ∷ [])

abbrev pub signed_form : Form
signed_form = plain_form (
    bare AName (codes "owner") ∷ bare ANumber (codes "type") ∷ own AnRrset (codes "rrset") ∷ own ANumber (codes "signature")
    ∷ behind ANumber (codes "key") (codes "tag") ∷ bare ANumber (codes "algorithm") ∷ behind AName (codes "zone") (codes "signer")
    ∷ own AnRrset (codes "keys") ∷ own ANumber (codes "todo") ∷ [])

abbrev pub proof_form : Form
proof_form = plain_form (
    bare AWord (codes "form") ∷ bare AWord (codes "kind") ∷ own AName (codes "zone") ∷ own AName (codes "encloser") ∷ [])

abbrev pub part_form : Form
part_form = plain_form (
    bare AWord (codes "role") ∷ bare AWord (codes "relation") ∷ bare AName (codes "name") ∷ behind AName (codes "by") (codes "owner")
    ∷ bare ANumber (codes "type") ∷ own AnRrset (codes "rrset") ∷ own ANumber (codes "record") ∷ [])

abbrev pub case_form : Form
case_form = plain_form (bare ANumber (codes "case") ∷ own AName (codes "cut") ∷ own AName (codes "zone") ∷ [])

abbrev pub unusable_form : Form
unusable_form = plain_form (
    bare AWord (codes "why") ∷ bare AName (codes "owner") ∷ own AnRrset (codes "rrset") ∷ own ANumber (codes "record")
    ∷ behind ANumber (codes "wants") (codes "tag") ∷ bare ANumber (codes "algorithm")
    ∷ behind ANumber (codes "digest") (codes "digest_type") ∷ [])

abbrev pub hope_form : Form
hope_form = plain_form (bare AWord (codes "kind") ∷ [])

abbrev pub holds_form : Form
holds_form = plain_form (own ANumber (codes "from") ∷ own ANumber (codes "to") ∷ [])

abbrev pub key_form : Form
key_form = plain_form (
    bare AName (codes "zone") ∷ own AnRrset (codes "rrset") ∷ own ANumber (codes "record") ∷ own ANumber (codes "tag")
    ∷ own ANumber (codes "algorithm") ∷ own ANumber (codes "flags") ∷ own ANumber (codes "signature") ∷ own ANumber (codes "anchor")
    ∷ behind AnRrset (codes "ds") (codes "ds_rrset") ∷ bare ANumber (codes "ds_record") ∷ [])

abbrev pub rrset_form : Form
rrset_form = plain_form (
    bare ANumber (codes "rrset") ∷ own ANumber (codes "message") ∷ own ANumber (codes "section") ∷ bare AName (codes "owner")
    ∷ bare ANumber (codes "type") ∷ [])

abbrev pub shown_slots : List Slot → List Slot
shown_slots more =
    bare AName (codes "owner") ∷ bare ANumber (codes "type") ∷ own AnRrset (codes "rrset") ∷ own ANumber (codes "signature")
    ∷ behind ANumber (codes "key") (codes "tag") ∷ bare ANumber (codes "algorithm") ∷ behind AName (codes "zone") (codes "signer")
    ∷ more

abbrev pub follows_form : Form
follows_form = record { error = false; word = true; slots = shown_slots [] }

abbrev pub signature_form : Form
signature_form = reason_form (shown_slots (
    behind ANumber (codes "from") (codes "inception") ∷ behind ANumber (codes "to") (codes "expiration") ∷ own ANumber (codes "by") ∷ []))

abbrev pub closer_form : Form
closer_form = reason_form (shown_slots (own AName (codes "name") ∷ []))

abbrev pub unsigned_form : Form
unsigned_form = reason_form (bare AName (codes "owner") ∷ bare ANumber (codes "type") ∷ own AnRrset (codes "rrset") ∷ [])

abbrev pub zone_form : Form
zone_form = reason_form (bare AName (codes "zone") ∷ [])

abbrev pub entry_form : Form
entry_form = reason_form (
    bare AName (codes "zone") ∷ own ANumber (codes "anchor") ∷ own AnRrset (codes "rrset") ∷ own ANumber (codes "record")
    ∷ behind ANumber (codes "wants") (codes "tag") ∷ bare ANumber (codes "algorithm")
    ∷ behind ANumber (codes "digest") (codes "digest_type") ∷ [])

abbrev pub not_self_signed_form : Form
not_self_signed_form = reason_form (
    bare AName (codes "zone") ∷ own AnRrset (codes "rrset") ∷ behind ANumber (codes "key") (codes "tag")
    ∷ bare ANumber (codes "algorithm") ∷ [])

abbrev pub dname_form : Form
dname_form = reason_form (bare AName (codes "name") ∷ own AnRrset (codes "rrset") ∷ own ANumber (codes "record") ∷ [])

abbrev pub nsec3_form : Form
nsec3_form = reason_form (
    bare AName (codes "owner") ∷ bare ANumber (codes "type") ∷ own AnRrset (codes "rrset") ∷ own ANumber (codes "record")
    ∷ own ANumber (codes "iterations") ∷ [])

abbrev pub source_form : Form
source_form = reason_form (
    bare AWord (codes "kind") ∷ bare AName (codes "zone") ∷ own ANumber (codes "iterations") ∷ own ASalt (codes "salt")
    ∷ own AWord (codes "role") ∷ own AName (codes "name") ∷ own AnRrset (codes "rrset") ∷ own ANumber (codes "record")
    ∷ behind ANumber (codes "holds") (codes "held") ∷ [])

abbrev pub denial_form : Form
denial_form = reason_form (bare AName (codes "name") ∷ bare ANumber (codes "type") ∷ own AName (codes "zone") ∷ [])

abbrev pub not_vouched_form : Form
not_vouched_form = reason_form (bare AName (codes "zone") ∷ own AnRrset (codes "rrset") ∷ [])

abbrev pub ds_unproved_form : Form
ds_unproved_form = reason_form (bare AName (codes "name") ∷ own AName (codes "zone") ∷ [])

-- ---- which form the words tell

pub record Row : Type 0 where
  pub word : List ℕ
  pub form : Form

-- a word and its form
abbrev pub row : List ℕ → Form → Row
row word form = record { word = word; form = form }

-- by the first word
abbrev pub line_rows : List Row
line_rows =
    row (codes "trusted") trusted_form ∷ row (codes "signed") signed_form ∷ row (codes "proof") proof_form
    ∷ row (codes "part") part_form ∷ row (codes "case") case_form ∷ row (codes "unusable") unusable_form
    ∷ row (codes "hope") hope_form ∷ row (codes "holds") holds_form ∷ row (codes "key") key_form
    ∷ row (codes "rrset") rrset_form ∷ row (codes "follows") follows_form ∷ []

-- by the word of what fails
abbrev pub reason_rows : List Row
reason_rows =
    row (codes "no-anchor") zone_form ∷ row (codes "dnskey-missing") zone_form ∷ row (codes "ds-missing") zone_form
    ∷ row (codes "digest-type") entry_form ∷ row (codes "digest-ignored") entry_form ∷ row (codes "key-algorithm") entry_form
    ∷ row (codes "digest-differs") entry_form
    ∷ row (codes "labels") signature_form ∷ row (codes "signer") signature_form ∷ row (codes "expanded") signature_form
    ∷ row (codes "not-yet") signature_form ∷ row (codes "expired") signature_form ∷ row (codes "not-zone-key") signature_form
    ∷ row (codes "bad") signature_form ∷ row (codes "unanswered") signature_form ∷ row (codes "key-untrusted") signature_form
    ∷ row (codes "nsec3-iterations") nsec3_form ∷ row (codes "nsec3-unusable") nsec3_form
    ∷ row (codes "delegation") source_form ∷ row (codes "type-held") source_form ∷ row (codes "match-missing") source_form
    ∷ row (codes "encloser-missing") source_form ∷ row (codes "cover-missing") source_form
    ∷ row (codes "no-closer") closer_form ∷ row (codes "unsigned") unsigned_form
    ∷ row (codes "not-self-signed") not_self_signed_form ∷ row (codes "dname") dname_form
    ∷ row (codes "answer-missing") denial_form ∷ row (codes "denial-unproved") denial_form
    ∷ row (codes "not-vouched") not_vouched_form ∷ row (codes "ds-unproved") ds_unproved_form ∷ []

-- each word as it is written
abbrev pub look : (List ℕ → List ℕ) → List ℕ → List Row → Form
look written word [] = plain_form []
look written word (row ∷ rows) = cond (same word (written row.word)) row.form (look written word rows)

-- two words are said both of entries and of signatures
abbrev pub is_shared : (List ℕ → List ℕ) → List ℕ → Bool
is_shared written word = same word (written (codes "algorithm")) || same word (written (codes "key-missing"))

-- by the first word, and of a reason by its word
abbrev pub form_by : (List ℕ → List ℕ) → List ℕ → List ℕ → Bool → Form
form_by written line word of_entry =
    cond (same line (written (codes "reason")))
    (cond (is_shared written word) (cond of_entry entry_form signature_form) (look written word reason_rows))
    (look written line line_rows)

-- the word doesn't begin with a digit
abbrev pub begins_letter : List ℕ → Bool
begins_letter [] = false
begins_letter (c ∷ word) = nat_lt 57 c

-- behind the name of an entry stands a label, behind that of a signature a number
abbrev pub form_by_text : List (List ℕ) → Form
form_by_text told = form_by (λ word. word) (get_or told 0 []) (get_or told 2 []) (begins_letter (get_or told 4 []))

-- of an entry the zone is said first
abbrev pub form_by_json : List (List ℕ) → Form
form_by_json told = form_by quoted (get_or told 1 []) (get_or told 3 []) (same (get_or told 6 []) (quoted (codes "zone")))

-- ---- a sentence that its words tell

-- its fields are those of the form, its words tell the form, and the line is read back from what it says
abbrev pub Told : Form → Line → Type 0
Told form x =
    (text_fields (sentence_of x) ≡ laid (text_slots form) (saids (text_fields (sentence_of x))))
    × (json_fields (sentence_of x) ≡ laid (json_slots form) (saids (json_fields (sentence_of x))))
    × (fits form (sentence_of x) ≡ true)
    × (form_by_text (text_words (sentence_of x)) ≡ form)
    × (form_by_json (json_words (sentence_of x)) ≡ form)
    × (read (lower_sentence (sentence_of x)) ≡ lower_line x)

-- some good form tells the sentence
pub record IsTold (s : SaidSentence) : Type 0 where
  pub form : Form
  pub good : is_good form ≡ true
  pub text : text_fields s ≡ laid (text_slots form) (saids (text_fields s))
  pub json : json_fields s ≡ laid (json_slots form) (saids (json_fields s))
  pub fits : fits form s ≡ true
  pub by_text : form_by_text (text_words s) ≡ form
  pub by_json : form_by_json (json_words s) ≡ form

-- and the line is read back
pub record IsLine (x : Line) : Type 0 where
  pub told : IsTold (sentence_of x)
  pub back : read (lower_sentence (sentence_of x)) ≡ lower_line x

-- a line by its form
pub is_line : (form : Form) (x : Line) → is_good form ≡ true → Told form x → IsLine x
is_line form x good is = record {
  told = record { form = form; good = good; text = is.0; json = is.1; fits = is.2; by_text = is.3; by_json = is.4 };
  back = is.5;
}
