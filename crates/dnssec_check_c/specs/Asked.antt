-- What the numbers of a call ask of its octets, as the request of the program that says the same.
use Rattle.std.specs.Prelude.{◌≡◌, ◌≤◌, ◌<◌, ◌^◌, ◌==◌, ◌&&◌, ⊤, Bool, true, false, ℕ, List, IsUtf8, string_bytes, Option, Some, None}
use Rattle.dnsv_questions.specs.declared.format.Format.{Format}
use Rattle.dnsv_questions.specs.declared.format.Format.TheVariants as format
use Rattle.dnsv_questions.specs.Moment.{IsMoment}
use Rattle.dnsv_files.specs.Files.{Files}
use Rattle.dnsv_commands.specs.declared.request.Asking.{Asking}
use Rattle.dnsv_commands.specs.declared.request.Asking.TheVariants as asking
use Rattle.dnsv_commands.specs.declared.request.Form.{Form}
use Rattle.dnsv_commands.specs.declared.request.Form.TheVariants as form
use Rattle.dnsv_commands.specs.declared.request.Known.{Known}
use Rattle.dnsv_commands.specs.declared.request.Known.TheVariants as known
use Rattle.dnsv_commands.specs.declared.request.Listing.{Listing}
use Rattle.dnsv_commands.specs.declared.request.Listing.TheVariants as listing
use Rattle.dnsv_commands.specs.declared.request.Request.{Request}
use Rattle.dnsv_commands.specs.declared.request.Request.TheVariants as request
use Rattle.dnssec_check_c.specs.Octets.{given_octets}
use Rattle.dnssec_check_c.specs.declared.options.Options.{Options}

-- ---- numbers

abbrev pub IsFormat : Format → ℕ → Type 0
IsFormat format.Lines number = number ≡ 0
IsFormat format.Json number = number ≡ 1

abbrev pub IsForm : Form → ℕ → Type 0
IsForm form.Whole number = number ≡ 0
IsForm form.Compact number = number ≡ 1

abbrev pub IsListing : Listing → ℕ → Type 0
IsListing (listing.Todo each) number = IsForm each number
IsListing listing.All number = number ≡ 2

-- whether a timeline has the kinds of verdicts alone
abbrev pub IsDetail : Bool → ℕ → Type 0
IsDetail false number = number ≡ 0
IsDetail true number = number ≡ 1

-- what was verified are statements, or nothing, or answers
abbrev pub IsKnown : Known → ℕ → Type 0
IsKnown (known.Statements path) number = number ≤ 1
IsKnown (known.Answers path) number = number ≡ 2

-- The options name this moment and this format.
pub record IsManner (options : Options) (moment : ℕ) (form : Format) : Type 0 where
  pub at : moment ≡ options.moment
  pub bound : IsMoment options.moment
  pub written : IsFormat form options.format

-- The numbers name the first and the last moment of a range, and the options this format.
pub record IsSpan (options : Options) (from to first last : ℕ) (form : Format) : Type 0 where
  pub begins : first ≡ from
  pub ends : last ≡ to
  pub begins_bound : IsMoment from
  pub ends_bound : IsMoment to
  pub written : IsFormat form options.format

-- ---- requests

abbrev pub AsksToShow : Request → Type 0
AsksToShow (request.Show capture) = ⊤
AsksToShow (request.List capture moment statements lists form) = ⊥
AsksToShow (request.ListRange capture from to statements listed form) = ⊥
AsksToShow (request.Timeline capture anchors from to spelled rtype knows kinds form) = ⊥
AsksToShow (request.Check capture anchors moment asked knows keys macs form why) = ⊥

abbrev pub AsksToList : Options → ℕ → Request → Type 0
AsksToList options listed (request.Show capture) = ⊥
AsksToList options listed (request.List capture moment statements lists form) =
    IsListing lists listed × (options.verified ≤ 1) × IsManner options moment form
AsksToList options listed (request.ListRange capture from to statements each form) = ⊥
AsksToList options listed (request.Timeline capture anchors from to spelled rtype knows kinds form) = ⊥
AsksToList options listed (request.Check capture anchors moment asked knows keys macs form why) = ⊥

abbrev pub AsksToListRange : Options → ℕ → ℕ → ℕ → Request → Type 0
AsksToListRange options from to listed (request.Show capture) = ⊥
AsksToListRange options from to listed (request.List capture moment statements lists form) = ⊥
AsksToListRange options from to listed (request.ListRange capture first last statements each form) =
    IsForm each listed × (options.verified ≤ 1) × IsSpan options from to first last form
AsksToListRange options from to listed (request.Timeline capture anchors first last spelled rtype knows kinds form) = ⊥
AsksToListRange options from to listed (request.Check capture anchors moment asked knows keys macs form why) = ⊥

-- one question at each moment of a range: no keys are given
abbrev pub AsksOverTime : Options → ℕ → ℕ → List ℕ → ℕ → ℕ → Request → Type 0
AsksOverTime options from to name rtype detail (request.Show capture) = ⊥
AsksOverTime options from to name rtype detail (request.List capture moment statements lists form) = ⊥
AsksOverTime options from to name rtype detail (request.ListRange capture first last statements listed form) = ⊥
AsksOverTime options from to name rtype detail (request.Timeline capture anchors first last asked number knows kinds form) =
    IsUtf8 name × (string_bytes asked ≡ name) × (rtype < 2 ^ 16) × (number.0 ≡ rtype) × IsKnown knows options.verified
    × IsDetail kinds detail × (options.has_keys ≡ false) × IsSpan options from to first last form
AsksOverTime options from to name rtype detail (request.Check capture anchors moment asked knows keys macs form why) = ⊥

-- one question: of a name, whose text is UTF-8, and a type
abbrev pub AsksOne : Options → List ℕ → ℕ → Request → Type 0
AsksOne options name rtype (request.Show capture) = ⊥
AsksOne options name rtype (request.List capture moment statements lists form) = ⊥
AsksOne options name rtype (request.ListRange capture from to statements listed form) = ⊥
AsksOne options name rtype (request.Timeline capture anchors from to spelled number knows kinds form) = ⊥
AsksOne options name rtype (request.Check capture anchors moment (asking.One asked number) knows keys macs form why) =
    IsUtf8 name × (string_bytes asked ≡ name) × (rtype < 2 ^ 16) × (number.0 ≡ rtype)
    × IsKnown knows options.verified × IsManner options moment form × (why ≡ options.why)
AsksOne options name rtype (request.Check capture anchors moment (asking.Each questions) knows keys macs form why) = ⊥

-- the questions of a text
abbrev pub AsksEach : Options → Request → Type 0
AsksEach options (request.Show capture) = ⊥
AsksEach options (request.List capture moment statements lists form) = ⊥
AsksEach options (request.ListRange capture from to statements listed form) = ⊥
AsksEach options (request.Timeline capture anchors from to spelled rtype knows kinds form) = ⊥
AsksEach options (request.Check capture anchors moment (asking.One asked number) knows keys macs form why) = ⊥
AsksEach options (request.Check capture anchors moment (asking.Each questions) knows keys macs form why) =
    IsKnown knows options.verified × IsManner options moment form × (why ≡ options.why)

-- it asks this at the moment, in this form, and this says whether it asks why
abbrev pub Judges : Asking → Known → ℕ → Format → Bool → Request → Type 0
Judges asked held at form why (request.Show capture) = ⊥
Judges asked held at form why (request.List capture moment statements lists format) = ⊥
Judges asked held at form why (request.ListRange capture from to statements listed format) = ⊥
Judges asked held at form why (request.Timeline capture anchors from to spelled rtype knows kinds format) = ⊥
Judges asked held at form why (request.Check capture anchors moment asks knows keys macs format whether) =
    (asks ≡ asked) × (knows ≡ held) × (moment ≡ at) × (format ≡ form) × (whether ≡ why)

-- ---- names

-- the text of the name is UTF-8, the type has 16 bits, and the options say by what it is known which signatures are good
abbrev pub IsQuestionNamed : Options → List ℕ → ℕ → Type 0
IsQuestionNamed options name rtype = IsUtf8 name × (rtype < 2 ^ 16) × ((knows : Known) × IsKnown knows options.verified)

-- so is one question named for a moment
abbrev pub IsOneNamed : Options → List ℕ → ℕ → Type 0
IsOneNamed options name rtype =
    IsQuestionNamed options name rtype × ((moment : ℕ) × (form : Format) × IsManner options moment form)

-- and for each moment of a range
abbrev pub IsTimelineNamed : Options → ℕ → ℕ → List ℕ → ℕ → ℕ → Type 0
IsTimelineNamed options from to name rtype detail =
    IsQuestionNamed options name rtype × ((kinds : Bool) × IsDetail kinds detail) × (options.has_keys ≡ false)
    × ((first : ℕ) × (last : ℕ) × (form : Format) × IsSpan options from to first last form)

-- ---- files

abbrev pub shown_files : List ℕ → Files
shown_files capture = record
    { capture = capture; anchors = None; statements = None; answers = None; keys = None; macs = None; questions = None }

abbrev pub listed_files : Options → List ℕ → List ℕ → Files
listed_files options capture verified = record {
  capture = capture;
  anchors = None;
  statements = given_octets verified (options.verified == 1);
  answers = None;
  keys = None;
  macs = None;
  questions = None;
}

-- keys and MACs are given where the options say so, the MACs only with keys
abbrev pub judged_files : Options → List ℕ → List ℕ → List ℕ → List ℕ → List ℕ → Option (List ℕ) → Files
judged_files options capture anchors verified keys macs questions = record {
  capture = capture;
  anchors = Some anchors;
  statements = given_octets verified (options.verified == 1);
  answers = given_octets verified (options.verified == 2);
  keys = given_octets keys options.has_keys;
  macs = given_octets macs (options.has_keys && options.has_macs);
  questions = questions;
}

abbrev pub timeline_files : Options → List ℕ → List ℕ → List ℕ → Files
timeline_files options capture anchors verified = record {
  capture = capture;
  anchors = Some anchors;
  statements = given_octets verified (options.verified == 1);
  answers = given_octets verified (options.verified == 2);
  keys = None;
  macs = None;
  questions = None;
}
