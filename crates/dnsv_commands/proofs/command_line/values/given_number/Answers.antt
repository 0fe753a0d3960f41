use Rattle.std.proofs.Common.{◌∙◌, ℕ}
use Rattle.std.specs.Prelude.{List, Result}
use Rattle.std.specs.Str.Parse.{ParsesUnsigned, ExplainsUnsignedError, HasUnsignedDigitsIfOk}
use Rattle.std.specs.declared.num.ParseIntError.{ParseIntError}
use Rattle.clap.specs.Words.{found_of, rows_of}
use Rattle.clap.proofs.WalkLemmas.{one_text-rows}
use Rattle.dnsv_commands.proofs.CommandLineLemmas.Given.{number_given}
use Rattle.dnsv_commands.proofs.command_line.values.given_number.Goals as goal

-- what reading a number says of a result
abbrev Reads : List ℕ → Result ℕ ParseIntError → Type 0
Reads bs r = ParsesUnsigned 64 10 bs r × ExplainsUnsignedError 10 bs r × HasUnsignedDigitsIfOk bs r

pub returns-clause-said : goal.returns-clause-said
returns-clause-said c =
    (number_given c.args.last _ Reads c.args.option.now (rows_of (found_of c.args.matches.now)) c.get_one.result c.requires
    (λ absent. c.get_one.ensures.none (one_text-rows (found_of c.args.matches.now) c.args.option.now ∙ absent))
    (λ text is. c.get_one.ensures.value text (one_text-rows (found_of c.args.matches.now) c.args.option.now ∙ is)) (λ u x g. g.0)).0

pub returns-clause-bound : goal.returns-clause-bound
returns-clause-bound c =
    (number_given c.args.last _ Reads c.args.option.now (rows_of (found_of c.args.matches.now)) c.get_one.result c.requires
    (λ absent. c.get_one.ensures.none (one_text-rows (found_of c.args.matches.now) c.args.option.now ∙ absent))
    (λ text is. c.get_one.ensures.value text (one_text-rows (found_of c.args.matches.now) c.args.option.now ∙ is)) (λ u x g. g.0)).1

pub returns-clause-given : goal.returns-clause-given
returns-clause-given c =
    (number_given c.args.last _ Reads c.args.option.now (rows_of (found_of c.args.matches.now)) c.get_one.result c.requires
    (λ absent. c.get_one.ensures.none (one_text-rows (found_of c.args.matches.now) c.args.option.now ∙ absent))
    (λ text is. c.get_one.ensures.value text (one_text-rows (found_of c.args.matches.now) c.args.option.now ∙ is)) (λ u x g. g.0)).2
