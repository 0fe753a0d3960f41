use Rattle.std.proofs.Common.{ap, ◌≡◌, ◌∙◌, ℕ, Some}
use Rattle.std.specs.Prelude.{List, Result, is_some, option_and_then}
use Rattle.std.specs.Str.Parse.{ParsesUnsigned, ExplainsUnsignedError, HasUnsignedDigitsIfOk}
use Rattle.std.specs.declared.num.ParseIntError.{ParseIntError}
use Rattle.clap.specs.Words.{found_of}
use Rattle.clap.proofs.WalkLemmas.{one_text-rows}
use Rattle.dnsv_commands.specs.CommandLine.{number_said}
use Rattle.dnsv_commands.proofs.CommandLineLemmas.Words.{number_reads}
use Rattle.dnsv_commands.proofs.command_line.values.number.Goals as goal

-- what reading a number says of a result
abbrev Reads : List ℕ → Result ℕ ParseIntError → Type 0
Reads bs r = ParsesUnsigned 64 10 bs r × ExplainsUnsignedError 10 bs r × HasUnsignedDigitsIfOk bs r

pub unwrap-requires : goal.unwrap-requires
unwrap-requires c =
    let text = c.requires in
    let got = number_reads c.args.last _ Reads text.0 c.get_one.result (c.get_one.ensures.value text.0 (one_text-rows (found_of c.args.matches.now) c.args.option.now ∙ text.2)) (λ u x g. g.0) text.3 in
    ap is_some got.1

pub returns-clause-said : goal.returns-clause-said
returns-clause-said c =
    let text = c.requires in
    let got = number_reads c.args.last _ Reads text.0 c.get_one.result (c.get_one.ensures.value text.0 (one_text-rows (found_of c.args.matches.now) c.args.option.now ∙ text.2)) (λ u x g. g.0) text.3 in
    let same : got.0 ≡ c.unwrap.result = cc in
    ap (option_and_then (number_said c.args.last)) text.1 ∙ got.3 ∙ ap (λ n. Some n) same

pub returns-clause-bound : goal.returns-clause-bound
returns-clause-bound c =
    let text = c.requires in
    let got = number_reads c.args.last _ Reads text.0 c.get_one.result (c.get_one.ensures.value text.0 (one_text-rows (found_of c.args.matches.now) c.args.option.now ∙ text.2)) (λ u x g. g.0) text.3 in
    let same : got.0 ≡ c.unwrap.result = cc in
    rw (← same) got.2
