-- The lines of an explanation: as they are printed, and as objects of JSON.
use Rattle.std.specs.Prelude.{ℕ, List, [], ◌∷◌, ◌++◌, Option, Some, None, codes, map, option_and_then}
use Rattle.std.specs.List.{flat_map}
use Rattle.dnsv_canonical.specs.Rrsets.{at_number}
use Rattle.dnsv_lines.specs.Json.{array, member}
use Rattle.dnsv_lines.specs.Rows.{line_json, line_text}
use Rattle.dnsv_lines.specs.declared.line.Line.{Line}
use Rattle.dnsv_lines.specs.declared.line.Line.TheVariants as line
use Rattle.dnsv_lines.specs.declared.line.derivation.SignedRrset.{SignedRrset}
use Rattle.dnsv_lines.specs.declared.line.derivation.Todo.{Todo}
use Rattle.dnsv_lines.specs.declared.line.derivation.TrustedKeys.{TrustedKeys}

-- ---- numbers of entries

-- the number of an entry by these: the first of the entries that are still to be checked has the first, and so on
abbrev pub told_todo : List ℕ → Todo → Todo
told_todo numbers todo = record { 0 = option_and_then (at_number numbers) todo.0 }

abbrev pub told_keys : List ℕ → TrustedKeys → TrustedKeys
told_keys numbers keys = record keys { todo = told_todo numbers keys.todo }

abbrev pub told_signed : List ℕ → SignedRrset → SignedRrset
told_signed numbers signed = record signed { todo = told_todo numbers signed.todo }

-- a line that speaks of an entry tells it by its number among these, where they are given
abbrev pub told_line : Option (List ℕ) → Line → Line
told_line None told = told
told_line (Some numbers) (line.Trusted keys) = line.Trusted (told_keys numbers keys)
told_line (Some numbers) (line.Signed signed) = line.Signed (told_signed numbers signed)
told_line (Some numbers) told = told

-- ---- lines

-- a line on its own
abbrev pub why_line : Option (List ℕ) → Line → List ℕ
why_line numbers line = line_text (told_line numbers line) ++ codes "\n"

-- a line on its own for each, where they are asked for
abbrev pub why_lines : Option (List Line) → Option (List ℕ) → List ℕ
why_lines None numbers = []
why_lines (Some lines) numbers = flat_map (why_line numbers) lines

-- ---- objects

abbrev pub why_json : Option (List ℕ) → Line → List ℕ
why_json numbers line = line_json (told_line numbers line)

-- an object for each
abbrev pub why_members : Option (List Line) → Option (List ℕ) → List (List ℕ)
why_members None numbers = []
why_members (Some lines) numbers = member (codes "why") (array (map (why_json numbers) lines)) ∷ []
