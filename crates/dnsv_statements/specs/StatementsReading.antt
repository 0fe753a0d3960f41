-- How statements are read. No public clause cites this module.
use Rattle.std.specs.Prelude.{◌≡◌, ◌≢◌, ◌<◌, ◌-◌, ℕ, List, Option, Some, None, codes, length, if◌then◌else◌}
use Rattle.std.specs.Map.{lookup}
use lib.ListN.{get_or}
use Rattle.std.specs.Ordering.{is_eq}
use Rattle.std.specs.declared.cmp.Ordering.TheVariants.{Less}
use Rattle.std.specs.Str.{bytes_eq}
use Rattle.dnsv_names.specs.Lines.{NumberedLine}
use Rattle.dnsv_verifier.specs.Entry.{entry_cmp}
use Rattle.dnsv_statements.specs.Statements.{States, other_word}
use Rattle.dnsv_verifier.specs.declared.entry.Entry.{Entry}
use Rattle.dnsv_statements.specs.declared.statements.StatementsError.{StatementsError}
use Rattle.dnsv_statements.specs.declared.statements.StatementsError.TheVariants.{OutOfMemory, Syntax, Contradiction}
use Rattle.dnsv_statements.specs.declared.statements.statement.Word.{Word}
use Rattle.dnsv_statements.specs.declared.statements.statement.Word.TheVariants.{Good, Bad}

-- the word that a field is
abbrev pub word_of : List ℕ → Option Word
word_of field =
    if bytes_eq field (codes "good") then Some Good else (if bytes_eq field (codes "bad") then Some Bad else None)

-- the line is a statement
pub record IsStatement (line : List ℕ) : Type 0 where
  pub entry : Entry
  pub word : Word
  pub states : States line entry word

-- what is said of an entry in a list
abbrev pub said_in : List (Entry × Word) → Entry → Option Word
said_in said entry = lookup (λ each. is_eq (entry_cmp entry each)) said

-- the entry is behind the last of those
abbrev pub IsBehind : List Entry → Entry → Type 0
IsBehind entries entry =
    (last : Entry) → 0 < length entries → entry_cmp (get_or entries (length entries - 1) last) entry ≡ Less

-- a line adds its statement, which nothing said before contradicts
pub record AddsStatement (line : List ℕ) (old new : List (Entry × Word)) : Type 0 where
  pub entry : Entry
  pub word : Word
  pub states : States line entry word
  pub free : said_in old entry ≢ Some (other_word word)
  pub updates : (each : Entry)
      → said_in new each ≡ (if is_eq (entry_cmp entry each) then Some word else said_in old each)

-- an entry is listed by its word, and was not by the other one
pub record Lists (entry : Entry) (word : Word) (old new : List (Entry × Word)) : Type 0 where
  pub free : said_in old entry ≢ Some (other_word word)
  pub updates : (each : Entry)
      → said_in new each ≡ (if is_eq (entry_cmp entry each) then Some word else said_in old each)

-- why an entry of the line of this number isn't listed by a word: want of memory alone, or the other word
abbrev pub RefusesEntry : StatementsError → ℕ → Entry → Word → List (Entry × Word) → Type 0
RefusesEntry OutOfMemory line entry word said = said_in said entry ≢ Some (other_word word)
RefusesEntry (Syntax number) line entry word said = ⊥
RefusesEntry (Contradiction number) line entry word said =
    (number ≡ line) × (said_in said entry ≡ Some (other_word word))

-- what is wrong with a line behind what was said; memory is wanting only for a statement
abbrev pub RefusesLine : StatementsError → NumberedLine → List (Entry × Word) → Type 0
RefusesLine OutOfMemory line said = IsStatement line.octets
RefusesLine (Syntax number) line said =
    (number ≡ line.number) × ((entry : Entry) (word : Word) → States line.octets entry word → ⊥)
RefusesLine (Contradiction number) line said =
    (number ≡ line.number)
    × ((entry : Entry) × (word : Word) × States line.octets entry word × (said_in said entry ≡ Some (other_word word)))
