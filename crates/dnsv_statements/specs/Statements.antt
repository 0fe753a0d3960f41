-- Files of statements: lines that call entries good or bad.
use Rattle.std.specs.Prelude.{◌≡◌, ◌<◌, ℕ, List, [], ◌∷◌, Option, Some, None, codes}
use Rattle.std.specs.Fmt.{decimal}
use Rattle.std.specs.List.{Contains}
use Rattle.std.specs.Map.{lookup}
use Rattle.std.specs.Ordering.{is_eq}
use Rattle.dnsv_names.specs.Lines.LineFile.{BeginsWithValue, HasFirstFault, SaysValues}
use Rattle.dnsv_names.specs.Lines.{AreFields, NumberedLine}
use Rattle.dnsv_verifier.specs.Entry.{entry_cmp}
use Rattle.dnsv_anchors.specs.HexField.{hex_value}
use Rattle.dnsv_verifier.specs.declared.answer.Answer.{Answer}
use Rattle.dnsv_verifier.specs.declared.answer.Answer.TheVariants.{Valid, Invalid, Unknown}
use Rattle.dnsv_verifier.specs.declared.entry.Entry.{Entry}
use Rattle.dnsv_statements.specs.declared.statements.statement.Word.{Word}
use Rattle.dnsv_statements.specs.declared.statements.statement.Word.TheVariants.{Good, Bad}
use Rattle.dnsv_statements.specs.declared.statements.StatementsError.{StatementsError}
use Rattle.dnsv_statements.specs.declared.statements.StatementsError.TheVariants.{OutOfMemory, Syntax, Contradiction}

abbrev pub word_text : Word → List ℕ
word_text Good = codes "good"
word_text Bad = codes "bad"

abbrev pub other_word : Word → Word
other_word Good = Bad
other_word Bad = Good

-- a line calls an entry good or bad, by five fields: the word, the algorithm, and the key, the signed data and
-- the signature in hex digits
pub record States (line : List ℕ) (entry : Entry) (word : Word) : Type 0 where
  pub key : List ℕ
  pub signed_data : List ℕ
  pub signature : List ℕ
  pub fields : AreFields line (word_text word ∷ decimal entry.algorithm.0 ∷ key ∷ signed_data ∷ signature ∷ [])
  pub algorithm_fits : entry.algorithm.0 < 256
  pub key_is : hex_value key ≡ Some entry.key
  pub signed_data_is : hex_value signed_data ≡ Some entry.signed_data
  pub signature_is : hex_value signature ≡ Some entry.signature

-- what a line states: an entry and the word that it is called by
abbrev pub IsStatementOf : List ℕ → Entry × Word → Type 0
IsStatementOf line statement = States line statement.0 statement.1

-- no entry is called both good and bad
abbrev pub Agree : List (Entry × Word) → Type 0
Agree statements = (entry : Entry) → Contains statements (entry, Good) → Contains statements (entry, Bad) → ⊥

-- the statements of a file, in the order of its lines
abbrev pub AreStatementsOf : List ℕ → List (Entry × Word) → Type 0
AreStatementsOf text statements = SaysValues IsStatementOf Agree text statements

-- the first line of a file is a statement, so that memory is needed before any fault is found
abbrev pub BeginsWithStatement : List ℕ → Type 0
BeginsWithStatement text = BeginsWithValue IsStatementOf text

-- what is wrong with a line behind statements
abbrev pub IsFaultOfLine : StatementsError → NumberedLine → List (Entry × Word) → Type 0
IsFaultOfLine OutOfMemory line before = ⊥
-- it is no statement
IsFaultOfLine (Syntax number) line before =
    (number ≡ line.number) × ((entry : Entry) (word : Word) → States line.octets entry word → ⊥)
-- an entry that it calls good was called bad, or the other way round
IsFaultOfLine (Contradiction number) line before =
    (number ≡ line.number)
    × ((entry : Entry) × (word : Word) × States line.octets entry word × Contains before (entry, other_word word))

-- the first fault of a file
abbrev pub IsFaultOf : List ℕ → StatementsError → Type 0
IsFaultOf text fault = HasFirstFault IsStatementOf Agree IsFaultOfLine text fault

-- what statements say of an entry
abbrev pub IsSaid : List (Entry × Word) → Entry → Answer → Type 0
IsSaid statements entry Valid = Contains statements (entry, Good)
IsSaid statements entry Invalid = Contains statements (entry, Bad)
IsSaid statements entry Unknown = (word : Word) → Contains statements (entry, word) → ⊥

-- the answer by what is listed for an entry
abbrev pub answer_by : Option Word → Answer
answer_by None = Unknown
answer_by (Some Good) = Valid
answer_by (Some Bad) = Invalid

abbrev pub listed_answer : List (Entry × Word) → Entry → Answer
listed_answer listed entry = answer_by (lookup (λ each. is_eq (entry_cmp entry each)) listed)
