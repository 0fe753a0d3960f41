-- What is known of signatures: by statements, or by answers by number.
use Rattle.std.specs.Prelude.{◌≡◌, ℕ, suc, List, [], ◌∷◌, Option, Some, None}
use Rattle.dnsv_canonical.specs.Rrsets.{ReceivedRrset}
use Rattle.dnsv_answers.specs.AnswerFile.{AnswersContents, answers_in}
use Rattle.dnsv_answers.specs.Answered.{IsAnsweredTableWithin}
use Rattle.dnsv_answers.specs.declared.heading.Moments.{Moments}
use Rattle.dnsv_statements.specs.Statements.{listed_answer}
use Rattle.dnsv_verifier.specs.Table.{TableContents, table_answer}
use Rattle.dnsv_verifier.specs.declared.answer.Answer.{Answer}
use Rattle.dnsv_verifier.specs.declared.answer.Answer.TheVariants.{Invalid, Unknown, Valid}
use Rattle.dnsv_verifier.specs.declared.entry.Entry.{Entry}
use Rattle.dnsv_files.specs.Files.Answers.{AreSaidFor, AreTooManyOrFew, IsFaultBeforeCount, IsFaultOfAnswers}
use Rattle.dnsv_files.specs.Files.Statements.{IsFaultOfStatements, IsMeaningOf}
use Rattle.dnsv_files.specs.Files.{IsGiven, octets_or_none}
use Rattle.dnsv_files.specs.declared.status.Fault.{Fault}
use Rattle.dnsv_files.specs.declared.status.InputFile.{InputFile}
use Rattle.dnsv_files.specs.declared.status.InputFile.TheVariants as file
use Rattle.dnsv_files.specs.declared.status.Place.{Place}
use Rattle.dnsv_files.specs.declared.status.Refusal.{Refusal}
use Rattle.dnsv_files.specs.Bounds.{begin_of, end_of}
use Rattle.dnsv_work.specs.declared.given.Said.{Said}
use Rattle.dnsv_work.specs.declared.given.Said.TheVariants as said

-- ---- what answers mean

-- the numbers of those that leave an entry open, if the first has this number
abbrev pub open_numbers : ℕ → List Answer → List ℕ
open_numbers number [] = []
open_numbers number (Unknown ∷ answers) = number ∷ open_numbers (suc number) answers
open_numbers number (Valid ∷ answers) = open_numbers (suc number) answers
open_numbers number (Invalid ∷ answers) = open_numbers (suc number) answers

-- What answers mean of the entries that are asked of the RRsets at the moment, or at some moment of the range: the first is
-- the answer to the first entry, and so on, and of any other entry nothing is known. Those that they leave open are told by
-- their numbers.
pub record AreMeant (moments : Moments) (rrsets : List ReceivedRrset) (contents : AnswersContents) (meaning : Entry → Answer)
    (numbers : Option (List ℕ)) : Type 0 where
  pub table : TableContents
  pub is_table : IsAnsweredTableWithin (begin_of moments) (end_of moments) rrsets (answers_in contents) table
  pub says : meaning ≡ table_answer table
  pub numbered : numbers ≡ Some (open_numbers 1 (answers_in contents))

-- ---- by files

-- what is known of signatures by a file of statements or, where it is given, by a file of answers, for the capture with
-- these octets and RRsets at the moments: what a verifier says, and the numbers of the entries that are still open, where
-- they have any
abbrev pub IsKnownBy : List ℕ → Moments → List ReceivedRrset → Option (List ℕ) → Option (List ℕ) → (Entry → Answer) → Option (List ℕ) → Type 0
IsKnownBy capture moments rrsets statements None meaning numbers =
    IsMeaningOf (octets_or_none statements) meaning × (numbers ≡ None)
IsKnownBy capture moments rrsets statements (Some text) meaning numbers = (contents : AnswersContents)
    × AreSaidFor capture moments text contents × AreMeant moments rrsets contents meaning numbers

-- the fault of these files
abbrev pub IsFaultOfKnown : List ℕ → Moments → List ReceivedRrset → Option (List ℕ) → Option (List ℕ) → Fault → Type 0
IsFaultOfKnown capture moments rrsets statements None fault = IsFaultOfStatements (octets_or_none statements) fault
IsFaultOfKnown capture moments rrsets statements (Some text) fault = IsFaultOfAnswers capture moments rrsets text fault

-- of the two files this one is read, and given
abbrev pub IsKnownReached : Option (List ℕ) → Option (List ℕ) → InputFile → Type 0
IsKnownReached statements answers file.Statements = IsGiven statements × (answers ≡ None)
IsKnownReached statements answers file.Answers = IsGiven answers
IsKnownReached statements answers _ = ⊥

-- ---- what is read of them, before entries are counted

-- the numbers of the entries that are still open, where answers are read
abbrev pub numbers_said : Said → Option (List ℕ)
numbers_said (said.Statements listed) = None
numbers_said (said.Answers contents) = Some (open_numbers 1 (answers_in contents))

-- what is known, by what is read
abbrev pub IsKnown : Moments → List ReceivedRrset → Said → (Entry → Answer) → Option (List ℕ) → Type 0
IsKnown moments rrsets (said.Statements listed) meaning numbers = (meaning ≡ listed_answer listed) × (numbers ≡ None)
IsKnown moments rrsets (said.Answers contents) meaning numbers = AreMeant moments rrsets contents meaning numbers

-- the same, with what is known
pub record Ground (moments : Moments) (rrsets : List ReceivedRrset) (said : Said) : Type 0 where
  pub meaning : Entry → Answer
  pub numbers : Option (List ℕ)
  pub knows : IsKnown moments rrsets said meaning numbers

-- and that isn't known because there are more or fewer answers than entries, which are refused so
abbrev pub AreMiscountedIn : Moments → List ReceivedRrset → Said → Refusal → Place → Type 0
AreMiscountedIn moments rrsets (said.Statements listed) why place = ⊥
AreMiscountedIn moments rrsets (said.Answers contents) why place = AreTooManyOrFew moments rrsets contents why place

-- this is read of the files
abbrev pub IsSaidBy : List ℕ → Moments → Option (List ℕ) → Option (List ℕ) → Said → Type 0
IsSaidBy capture moments statements None (said.Statements listed) = IsMeaningOf (octets_or_none statements) (listed_answer listed)
IsSaidBy capture moments statements None (said.Answers contents) = ⊥
IsSaidBy capture moments statements (Some text) (said.Statements listed) = ⊥
IsSaidBy capture moments statements (Some text) (said.Answers contents) = AreSaidFor capture moments text contents

-- the fault of these files that is found before
abbrev pub IsFaultBeforeKnown : List ℕ → Moments → Option (List ℕ) → Option (List ℕ) → Fault → Type 0
IsFaultBeforeKnown capture moments statements None fault = IsFaultOfStatements (octets_or_none statements) fault
IsFaultBeforeKnown capture moments statements (Some text) fault = IsFaultBeforeCount capture moments text fault
