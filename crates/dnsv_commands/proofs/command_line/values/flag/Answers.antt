use Rattle.std.proofs.Common.{◌∙◌}
use Rattle.clap.specs.Words.{found_of, one_of, rows_of}
use Rattle.clap.proofs.WalkLemmas.{one_text-rows}
use Rattle.dnsv_commands.proofs.CommandLineLemmas.Words.{flag_read}
use Rattle.dnsv_commands.proofs.command_line.values.flag.Goals as goal

pub returns : goal.returns
returns c =
    let found = found_of c.args.matches.now in
    let same = one_text-rows found c.args.option.now in
    flag_read (one_of c.args.option.now (rows_of found)) c.get_flag.result c.requires
    (λ none. c.get_flag.ensures.none (same ∙ none)) (λ said. c.get_flag.ensures.value (same ∙ said)) (λ said. c.get_flag.ensures.other (same ∙ said))
