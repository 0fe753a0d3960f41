-- The subcommand for a question.
use Rattle.std.specs.Prelude.{ℕ, Bool, true, false, List, codes}

-- the subcommands for a question: that for its verdict, and the one that says besides why it stands
abbrev pub question_word : Bool → List ℕ
question_word false = codes "check"
question_word true = codes "explain"
