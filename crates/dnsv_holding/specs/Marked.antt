-- Which entries the lines of a hope mark, and what a verifier says that calls just these good as well.
use Rattle.std.specs.Prelude.{◌≡◌, ℕ, List, Option, Some, None, Contains}
use Rattle.dnsv_canonical.specs.Rrsets.{IsNumbered}
use Rattle.dnsv_verifier.specs.declared.answer.Answer.{Answer}
use Rattle.dnsv_verifier.specs.declared.answer.Answer.TheVariants.{Valid}
use Rattle.dnsv_verifier.specs.declared.entry.Entry.{Entry}
use Rattle.dnsv_lines.specs.declared.line.Line.{Line}
use Rattle.dnsv_lines.specs.declared.line.Line.TheVariants as line

-- the number of an entry that the line tells
abbrev pub todo_told : Line → Option ℕ
todo_told (line.Trusted keys) = keys.todo.0
todo_told (line.Signed signed) = signed.todo.0
todo_told _ = None

-- a line tells the entry's number among these
pub record IsMarked (entries : List Entry) (lines : List Line) (entry : Entry) : Type 0 where
  pub line : Line
  pub among : Contains lines line
  pub number : ℕ
  pub told : todo_told line ≡ Some number
  pub numbered : IsNumbered entries number entry

-- the second verifier says Valid of what is marked, and of all else what the first one says
pub record AnswersMarked (entries : List Entry) (lines : List Line) (before after : Entry → Answer) : Type 0 where
  pub marked : (entry : Entry) → IsMarked entries lines entry → after entry ≡ Valid
  pub others : (entry : Entry) → ¬ IsMarked entries lines entry → after entry ≡ before entry
