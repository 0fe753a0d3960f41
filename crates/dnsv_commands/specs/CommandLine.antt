-- The command line: what its words ask for.
use Rattle.std.specs.Prelude.{◌≡◌, ◌⊎◌, ⊤, ℕ, Bool, true, false, List, [], Option, Some, None}
use Rattle.std.specs.Prelude.{if◌then◌else◌, codes, is_some, option_and_then, string_bytes}
use Rattle.std.specs.Option.{option_map}
use Rattle.std.specs.Str.{bytes_eq}
use Rattle.std.specs.Str.Parse.{digits_value, without_leading_plus}
use Rattle.clap.specs.Words.{Row, Text, first_of, kind_of, one_of}
use Rattle.clap.specs.Words.{IsAmong, fault_of, subcommand_of}
use Rattle.clap.specs.ValueTests.{is_unsigned_in}
use Rattle.clap.specs.declared.error.Error.{Error}
use Rattle.clap.specs.declared.error.kind.ErrorKind.{ErrorKind}
use Rattle.clap.specs.declared.error.kind.ErrorKind.TheVariants as kind
use Rattle.std.specs.declared.io.ErrorKind.{ErrorKind as IoErrorKind}
use Rattle.std.specs.declared.io.ErrorKind.TheVariants as io
use Rattle.dnsv_questions.specs.Subcommand.{question_word}
use Rattle.dnsv_commands.specs.Commands.{program_app}
use Rattle.dnsv_questions.specs.Moment.{last_moment}
use Rattle.dnsv_commands.specs.declared.command_line.list.When.{When}
use Rattle.dnsv_commands.specs.declared.command_line.list.When.TheVariants as when
use Rattle.dnsv_commands.specs.declared.request.Asking.{Asking}
use Rattle.dnsv_commands.specs.declared.request.Asking.TheVariants as asking
use Rattle.dnsv_commands.specs.declared.request.Form.{Form}
use Rattle.dnsv_commands.specs.declared.request.Form.TheVariants.{Compact, Whole}
use Rattle.dnsv_commands.specs.declared.request.Known.{Known}
use Rattle.dnsv_commands.specs.declared.request.Known.TheVariants as known
use Rattle.dnsv_commands.specs.declared.request.Listing.{Listing}
use Rattle.dnsv_commands.specs.declared.request.Listing.TheVariants as listing
use Rattle.dnsv_commands.specs.declared.request.Request.{Request}
use Rattle.dnsv_commands.specs.declared.request.Request.TheVariants as request
use Rattle.dnsv_questions.specs.declared.format.Format.{Format}
use Rattle.dnsv_questions.specs.declared.format.Format.TheVariants.{Json, Lines}
use Rattle.dnsv_commands.specs.declared.command_line.CommandLineError.{CommandLineError}
use Rattle.dnsv_commands.specs.declared.command_line.CommandLineError.TheVariants as line

-- ---- what the words ask for

-- the number up to the last that a text says: decimal digits, which may follow a `+`
abbrev pub number_said : ℕ → Text → Option ℕ
number_said last text =
    if is_unsigned_in 0 last text then Some (digits_value 10 (without_leading_plus text))
    else None

-- whether a flag was given, by its text
abbrev pub flag_said : Option Text → Bool
flag_said None = false
flag_said (Some text) = bytes_eq text (codes "true")

-- lines, or JSON, where the flag for it was given
abbrev pub format_said : Bool → Format
format_said false = Lines
format_said true = Json

-- how entries are listed: whole, or each octet once, where the flag `--compact` was given
abbrev pub form_said : Bool → Form
form_said false = Whole
form_said true = Compact

-- which list of a moment is asked for, by whether each flag was given: `--all`, and `--compact`; both ask for none
abbrev pub listing_said : Bool → Bool → Option Listing
listing_said false compact = Some (listing.Todo (form_said compact))
listing_said true false = Some listing.All
listing_said true true = None

-- the values ask for a moment, and for no range
abbrev pub AsksAt : List Row → ℕ → Type 0
AsksAt rows moment = (option_and_then (number_said last_moment) (first_of (codes "moment") rows) ≡ Some moment)
    × (first_of (codes "from") rows ≡ None)
    × (first_of (codes "to") rows ≡ None)

-- the values name both ends of a range
abbrev pub AsksBetween : List Row → ℕ → ℕ → Type 0
AsksBetween rows from to = (option_and_then (number_said last_moment) (first_of (codes "from") rows) ≡ Some from)
    × (option_and_then (number_said last_moment) (first_of (codes "to") rows) ≡ Some to)

-- they ask for a range, and for no moment
abbrev pub AsksWithin : List Row → ℕ → ℕ → Type 0
AsksWithin rows from to = (first_of (codes "moment") rows ≡ None) × AsksBetween rows from to

-- they ask for neither, or for more than one of the two
abbrev pub IsUndated : List Row → Type 0
IsUndated rows = ((moment : ℕ) → AsksAt rows moment → ⊥) × ((from to : ℕ) → AsksWithin rows from to → ⊥)

-- they ask for these moments
abbrev pub AsksWhen : List Row → When → Type 0
AsksWhen rows (when.At moment) = AsksAt rows moment
AsksWhen rows (when.Within from to) = AsksWithin rows from to

-- they ask for all of a range
abbrev pub AsksForAllOfRange : List Row → Type 0
AsksForAllOfRange rows =
    ((from : ℕ) × (to : ℕ) × AsksWithin rows from to) × (flag_said (one_of (codes "all") rows) ≡ true)

-- the values ask for a question by its name and its type, or for each of a file
abbrev pub AsksFor : List Row → Asking → Type 0
AsksFor rows (asking.One asked rtype) = (first_of (codes "name") rows ≡ Some (string_bytes asked))
    × (option_and_then (number_said 65535) (first_of (codes "type") rows) ≡ Some rtype.0)
    × (first_of (codes "questions") rows ≡ None)
AsksFor rows (asking.Each questions) = (first_of (codes "name") rows ≡ None)
    × (first_of (codes "type") rows ≡ None)
    × (first_of (codes "questions") rows ≡ Some (string_bytes questions))

-- they ask for neither, or for more than one of the two
abbrev pub IsUnclear : List Row → Type 0
IsUnclear rows = (asked : Asking) → AsksFor rows asked → ⊥

-- what is known of signatures is asked by statements, where they are given, or by answers
abbrev pub GoesBy : List Row → Known → Type 0
GoesBy rows (known.Statements statements) = (first_of (codes "statements") rows ≡ option_map string_bytes statements)
    × (first_of (codes "answers") rows ≡ None)
GoesBy rows (known.Answers answers) = (first_of (codes "statements") rows ≡ None)
    × (first_of (codes "answers") rows ≡ Some (string_bytes answers))

-- both are named
abbrev pub GoesByBoth : List Row → Type 0
GoesByBoth rows =
    (is_some (first_of (codes "statements") rows) ≡ true) × (is_some (first_of (codes "answers") rows) ≡ true)

-- they ask for two lists
abbrev pub AsksForTwoLists : List Row → Type 0
AsksForTwoLists rows =
    listing_said (flag_said (one_of (codes "all") rows)) (flag_said (one_of (codes "compact") rows)) ≡ None

-- a subcommand and the values of its options ask for the request
abbrev pub Asks : Text → List Row → Request → Type 0
Asks name rows (request.Show capture) = (name ≡ codes "show")
    × (first_of (codes "capture") rows ≡ Some (string_bytes capture))
Asks name rows (request.List capture moment statements lists format) = (name ≡ codes "list")
    × (first_of (codes "capture") rows ≡ Some (string_bytes capture))
    × AsksAt rows moment
    × (first_of (codes "statements") rows ≡ option_map string_bytes statements)
    × (listing_said (flag_said (one_of (codes "all") rows)) (flag_said (one_of (codes "compact") rows)) ≡ Some lists)
    × (format_said (flag_said (one_of (codes "json") rows)) ≡ format)
Asks name rows (request.ListRange capture from to statements form format) = (name ≡ codes "list")
    × (first_of (codes "capture") rows ≡ Some (string_bytes capture))
    × AsksWithin rows from to
    × (first_of (codes "statements") rows ≡ option_map string_bytes statements)
    × (flag_said (one_of (codes "all") rows) ≡ false)
    × (form_said (flag_said (one_of (codes "compact") rows)) ≡ form)
    × (format_said (flag_said (one_of (codes "json") rows)) ≡ format)
Asks name rows (request.Timeline capture anchors from to asked rtype known kinds format) = (name ≡ codes "timeline")
    × (first_of (codes "capture") rows ≡ Some (string_bytes capture))
    × (first_of (codes "anchors") rows ≡ Some (string_bytes anchors))
    × AsksBetween rows from to
    × (first_of (codes "name") rows ≡ Some (string_bytes asked))
    × (option_and_then (number_said 65535) (first_of (codes "type") rows) ≡ Some rtype.0)
    × GoesBy rows known
    × (flag_said (one_of (codes "kinds") rows) ≡ kinds)
    × (format_said (flag_said (one_of (codes "json") rows)) ≡ format)
Asks name rows (request.Check capture anchors moment asking known keys macs format why) = (name ≡ question_word why)
    × (first_of (codes "capture") rows ≡ Some (string_bytes capture))
    × (first_of (codes "anchors") rows ≡ Some (string_bytes anchors))
    × (option_and_then (number_said last_moment) (first_of (codes "moment") rows) ≡ Some moment)
    × AsksFor rows asking
    × GoesBy rows known
    × (first_of (codes "keys") rows ≡ option_map string_bytes keys)
    × (first_of (codes "macs") rows ≡ option_map string_bytes macs)
    × (format_said (flag_said (one_of (codes "json") rows)) ≡ format)

-- the program takes the words, and their subcommand and its values ask for the request
abbrev pub IsAccepted : List Text → Request → Type 0
IsAccepted words asked = (fault_of program_app words ≡ [])
    × ((name : Text) × (rows : List Row)
    × (subcommand_of program_app words ≡ Some (name, rows)) × Asks name rows asked)

-- ---- why they ask for nothing

-- of what `clap` ends with, help and the version are what was asked for
abbrev pub is_asked : ErrorKind → Bool
is_asked kind.DisplayHelp = true
is_asked kind.DisplayVersion = true
is_asked _ = false

-- the program takes the words, and they name this subcommand with values of which this holds
abbrev pub TakesAs : List Text → Text → (List Row → Type 0) → Type 0
TakesAs words name Holds = (fault_of program_app words ≡ [])
    × ((rows : List Row) × (subcommand_of program_app words ≡ Some (name, rows)) × Holds rows)

-- help or the version was asked for, or the words have a mistake, of a kind that the program gives at them; or they have
-- none, and a subcommand for questions isn't told which, or is told statements and answers, or `list` is told no moment
-- and no range, or two lists, or all of a range
abbrev pub IsRefused : List Text → CommandLineError → Type 0
IsRefused words line.OutOfMemory = ⊤
IsRefused words line.NotText = ⊥
IsRefused words line.Unclear = (why : Bool) × TakesAs words (question_word why) IsUnclear
IsRefused words line.BothKnown = (TakesAs words (codes "timeline") GoesByBoth)
    ⊎ ((why : Bool) × TakesAs words (question_word why) GoesByBoth)
IsRefused words line.Undated = TakesAs words (codes "list") IsUndated
IsRefused words line.TwoLists = TakesAs words (codes "list") AsksForTwoLists
IsRefused words line.AllOfRange = TakesAs words (codes "list") AsksForAllOfRange
IsRefused words (line.Help refusal) =
    (is_asked (kind_of refusal) ≡ true) × IsAmong (kind_of refusal) (fault_of program_app words)
IsRefused words (line.Misused refusal) =
    (is_asked (kind_of refusal) ≡ false) × IsAmong (kind_of refusal) (fault_of program_app words)

abbrev pub error_of_kind : ErrorKind → Error → CommandLineError
error_of_kind kind.OutOfMemory refusal = line.OutOfMemory
error_of_kind kind.DisplayHelp refusal = line.Help refusal
error_of_kind kind.DisplayVersion refusal = line.Help refusal
error_of_kind _ refusal = line.Misused refusal

abbrev pub command_line_error : Error → CommandLineError
command_line_error refusal = error_of_kind (kind_of refusal) refusal

-- what goes wrong where the words are handed out
abbrev pub words_error : IoErrorKind → CommandLineError
words_error io.OutOfMemory = line.OutOfMemory
words_error _ = line.NotText

-- the exit status: 1 without memory, 0 after help or the version, else 2
abbrev pub command_line_code : CommandLineError → ℕ
command_line_code line.OutOfMemory = 1
command_line_code line.NotText = 2
command_line_code line.Unclear = 2
command_line_code line.Undated = 2
command_line_code line.TwoLists = 2
command_line_code line.AllOfRange = 2
command_line_code line.BothKnown = 2
command_line_code (line.Help refusal) = 0
command_line_code (line.Misused refusal) = 2

-- ---- what the subcommands need of their matches

abbrev pub HasValue : Text → List Row → Type 0
HasValue option rows = is_some (first_of option rows) ≡ true

abbrev pub HasCapture : List Row → Type 0
HasCapture rows = HasValue (codes "capture") rows

-- the text of a number up to the last
abbrev pub HasNumber : Text → ℕ → List Row → Type 0
HasNumber option last rows = (text : Text) × (first_of option rows ≡ Some text)
    × (one_of option rows ≡ Some text) × (is_unsigned_in 0 last text ≡ true)

-- the text of a flag is a truth value's, or it has none
abbrev pub IsFlag : Option Text → Type 0
IsFlag text = (text ≡ None) ⊎ ((text ≡ Some (codes "true")) ⊎ (text ≡ Some (codes "false")))

-- the same, or there is none
abbrev pub MayHaveNumber : Text → ℕ → List Row → Type 0
MayHaveNumber option last rows =
    ((first_of option rows ≡ None) × (one_of option rows ≡ None)) ⊎ HasNumber option last rows

-- a moment, both ends of a range, or some of these
abbrev pub MayHaveMoments : List Row → Type 0
MayHaveMoments rows = MayHaveNumber (codes "moment") last_moment rows × MayHaveNumber (codes "from") last_moment rows
    × MayHaveNumber (codes "to") last_moment rows

abbrev pub HasListValues : List Row → Type 0
HasListValues rows = HasCapture rows × MayHaveMoments rows × IsFlag (one_of (codes "all") rows)
    × IsFlag (one_of (codes "compact") rows) × IsFlag (one_of (codes "json") rows)

abbrev pub HasTimelineValues : List Row → Type 0
HasTimelineValues rows = HasCapture rows × HasValue (codes "anchors") rows
    × HasNumber (codes "from") last_moment rows × HasNumber (codes "to") last_moment rows
    × HasValue (codes "name") rows × HasNumber (codes "type") 65535 rows
    × IsFlag (one_of (codes "kinds") rows) × IsFlag (one_of (codes "json") rows)

abbrev pub HasCheckValues : List Row → Type 0
HasCheckValues rows = HasCapture rows × HasValue (codes "anchors") rows
    × HasNumber (codes "moment") last_moment rows × MayHaveNumber (codes "type") 65535 rows
    × IsFlag (one_of (codes "json") rows)
