-- Files of statements: what they say of entries, and what they are refused for.
use Rattle.std.specs.Prelude.{◌≡◌, ◌≤◌, ℕ, List, length, Some, None}
use Rattle.dnsv_message.specs.Streams.Frames.{file_limit}
use Rattle.dnsv_statements.specs.Statements.{AreStatementsOf, IsFaultOf, IsSaid}
use Rattle.dnsv_verifier.specs.declared.answer.Answer.{Answer}
use Rattle.dnsv_verifier.specs.declared.entry.Entry.{Entry}
use Rattle.dnsv_statements.specs.declared.statements.statement.Word.{Word}
use Rattle.dnsv_statements.specs.declared.statements.StatementsError.{StatementsError}
use Rattle.dnsv_statements.specs.declared.statements.StatementsError.TheVariants as statements
use Rattle.dnsv_files.specs.declared.status.Fault.{Fault}
use Rattle.dnsv_files.specs.declared.status.InputFile.TheVariants.{Statements}
use Rattle.dnsv_files.specs.declared.status.Place.{Place}
use Rattle.dnsv_files.specs.declared.status.Refusal.{Refusal}
use Rattle.dnsv_files.specs.declared.status.Refusal.TheVariants as refusal
use Rattle.dnsv_files.specs.Files.Faults.{IsTextFault}

-- the answers by the text of a file of statements: Valid or Invalid for the entries of its lines, by their words,
-- and else Unknown
pub record IsMeaningOf (text : List ℕ) (meaning : Entry → Answer) : Type 0 where
  pub within : length text ≤ file_limit
  pub statements : List (Entry × Word)
  pub are : AreStatementsOf text statements
  pub says : (entry : Entry) → IsSaid statements entry (meaning entry)

-- a place in a text file: the line of this number
abbrev pub IsAtLine : ℕ → Place → Type 0
IsAtLine number place = (place.message ≡ None) × (place.«record» ≡ None) × (place.line ≡ Some number)

-- a fault of statements is told as this refusal, with the number of the line
abbrev pub TellsStatementsError : StatementsError → Refusal → Place → Type 0
TellsStatementsError statements.OutOfMemory why place = ⊥
TellsStatementsError (statements.Syntax number) why place =
    (why ≡ refusal.StatementLine (statements.Syntax number)) × IsAtLine number place
TellsStatementsError (statements.Contradiction number) why place =
    (why ≡ refusal.StatementLine (statements.Contradiction number)) × IsAtLine number place

-- the text is refused for its first fault
abbrev pub AreStatementsRefused : List ℕ → Refusal → Place → Type 0
AreStatementsRefused text why place =
    (error : StatementsError) × IsFaultOf text error × TellsStatementsError error why place

abbrev pub IsFaultOfStatements : List ℕ → Fault → Type 0
IsFaultOfStatements = IsTextFault Statements AreStatementsRefused
