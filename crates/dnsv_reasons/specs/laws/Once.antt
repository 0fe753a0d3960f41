-- Lists in which nothing stands twice.
use Rattle.std.specs.Prelude.{◌≡◌, List, [], ◌∷◌, Contains}
use Rattle.dnsv_line_laws.specs.Lower.{SameLine}
use Rattle.dnsv_lines.specs.Rows.{line_text}
use Rattle.dnsv_lines.specs.declared.line.Line.{Line}

-- none of the list is one of those behind it
abbrev pub AreOnce : {X : Type 0} → List X → Type 0
AreOnce {X} [] = Unit {0}
AreOnce {X} (x ∷ xs) = (¬ Contains xs x) × AreOnce xs

-- another line with the text is the same, but for the case of letters in names
abbrev pub TellsItsLine : Line → Line → Type 0
TellsItsLine line other = line_text line ≡ line_text other → SameLine line other
