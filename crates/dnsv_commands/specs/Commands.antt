-- The commands of the program as `clap` sees them.
use Rattle.std.specs.Prelude.{ℕ, Bool, true, false, List, codes, Some}
use Rattle.clap.specs.Words.{App, Rule, new_app, new_rule, with_rule, with_subcommand}
use Rattle.clap.specs.declared.builder.action.ArgAction.TheVariants.{SetTrue}
use Rattle.clap.specs.declared.builder.value_parser.ValueParser.TheVariants as parser
use Rattle.dnsv_questions.specs.Subcommand.{question_word}
use Rattle.dnsv_questions.specs.Moment.{last_moment}

-- `--capture FILE`, which has to be there
abbrev pub capture_rule : Rule
capture_rule = record (new_rule (codes "capture")) {
  long = Some (codes "capture");
  value_names = 1;
  required = true;
}

-- `--WORD N`, with a decimal number up to the last moment
abbrev pub moment_rule : List ℕ → Rule
moment_rule word = record (new_rule word) {
  long = Some word;
  value_names = 1;
  parser = Some (parser.Unsigned 0 last_moment);
}

-- an option that has to be there
abbrev pub needed : Rule → Rule
needed rule = record rule { required = true }

-- `--anchors FILE`, which has to be there
abbrev pub anchors_rule : Rule
anchors_rule = record (new_rule (codes "anchors")) {
  long = Some (codes "anchors");
  value_names = 1;
  required = true;
}

-- `--name NAME`
abbrev pub name_rule : Rule
name_rule = record (new_rule (codes "name")) {
  long = Some (codes "name");
  value_names = 1;
}

-- `--type N`, with a decimal number up to 65535
abbrev pub type_rule : Rule
type_rule = record (new_rule (codes "type")) {
  long = Some (codes "type");
  value_names = 1;
  parser = Some (parser.Unsigned 0 65535);
}

-- `--questions FILE`
abbrev pub questions_rule : Rule
questions_rule = record (new_rule (codes "questions")) {
  long = Some (codes "questions");
  value_names = 1;
}

-- `--statements FILE`
abbrev pub statements_rule : Rule
statements_rule = record (new_rule (codes "statements")) {
  long = Some (codes "statements");
  value_names = 1;
}

-- `--answers FILE`
abbrev pub answers_rule : Rule
answers_rule = record (new_rule (codes "answers")) {
  long = Some (codes "answers");
  value_names = 1;
}

-- `--keys FILE`
abbrev pub keys_rule : Rule
keys_rule = record (new_rule (codes "keys")) {
  long = Some (codes "keys");
  value_names = 1;
}

-- `--macs FILE`
abbrev pub macs_rule : Rule
macs_rule = record (new_rule (codes "macs")) {
  long = Some (codes "macs");
  value_names = 1;
}

-- `--all`, which takes no value
abbrev pub all_rule : Rule
all_rule = record (new_rule (codes "all")) {
  long = Some (codes "all");
  action = Some SetTrue;
}

-- `--compact`, which takes no value
abbrev pub compact_rule : Rule
compact_rule = record (new_rule (codes "compact")) {
  long = Some (codes "compact");
  action = Some SetTrue;
}

-- `--kinds`, which takes no value
abbrev pub kinds_rule : Rule
kinds_rule = record (new_rule (codes "kinds")) {
  long = Some (codes "kinds");
  action = Some SetTrue;
}

-- `--json`, which takes no value
abbrev pub json_rule : Rule
json_rule = record (new_rule (codes "json")) {
  long = Some (codes "json");
  action = Some SetTrue;
}

-- `show --capture FILE`
abbrev pub show_app : App
show_app = with_rule (new_app (codes "show")) capture_rule

-- `list --capture FILE [--moment N] [--from N] [--to N] [--statements FILE] [--all] [--compact] [--json]`
abbrev pub list_app : App
list_app = with_rule (with_rule (with_rule (with_rule (with_rule (with_rule (with_rule (with_rule (new_app (codes "list"))
    capture_rule) (moment_rule (codes "moment"))) (moment_rule (codes "from"))) (moment_rule (codes "to")))
    statements_rule) all_rule) compact_rule) json_rule

-- this word, and `--capture FILE --anchors FILE --moment N [--name NAME] [--type N] [--questions FILE]
-- [--statements FILE] [--answers FILE] [--keys FILE] [--macs FILE] [--json]`
abbrev pub asking_app : List ℕ → App
asking_app word = with_rule (with_rule (with_rule (with_rule (with_rule (with_rule (with_rule (with_rule (with_rule
    (with_rule (with_rule (new_app word) capture_rule) anchors_rule) (needed (moment_rule (codes "moment")))) name_rule)
    type_rule) questions_rule) statements_rule) answers_rule) keys_rule) macs_rule) json_rule

abbrev pub question_app : Bool → App
question_app why = asking_app (question_word why)

-- `timeline --capture FILE --anchors FILE --from N --to N --name NAME --type N [--statements FILE] [--answers FILE]
-- [--kinds] [--json]`
abbrev pub timeline_app : App
timeline_app = with_rule (with_rule (with_rule (with_rule (with_rule (with_rule (with_rule (with_rule (with_rule (with_rule
    (new_app (codes "timeline")) capture_rule) anchors_rule) (needed (moment_rule (codes "from"))))
    (needed (moment_rule (codes "to")))) (needed name_rule)) (needed type_rule)) statements_rule) answers_rule) kinds_rule)
    json_rule

-- the program, which has a version and wants one of its subcommands
abbrev pub bare_app : App
bare_app = record (new_app (codes "dnssec_check")) {
  top = record (new_app (codes "dnssec_check")).top {
    disable_help_subcommand = true;
    subcommand_required = true;
    has_version = true;
  };
}

abbrev pub program_app : App
program_app = with_subcommand (with_subcommand (with_subcommand (with_subcommand (with_subcommand bare_app show_app.top)
    list_app.top) (question_app false).top) (question_app true).top) timeline_app.top
