use Rattle.std.proofs.Common.{◌≡◌, codes, false, refl, rules}
use Rattle.clap.specs.Words.{found_of, one_of, rows_of}
use Rattle.dnsv_commands.specs.CommandLine.{flag_said}
use Rattle.dnsv_commands.proofs.command_line.list.list_within.Goals as goal

pub returns-clause-asks : goal.returns-clause-asks
returns-clause-asks c =
    let off : flag_said (one_of (codes "all") (rows_of (found_of c.args.list.now))) ≡ false = search rules in (
      refl,
      c.in_ok-capture.ensures,
      c.requires.within,
      c.in_ok-statements.ensures,
      off,
      c.form_asked-form.ensures,
      c.format_asked-format.ensures,
    )
