use Rattle.std.proofs.Common.{◌∙◌}
use Rattle.dnsv_commands.proofs.CommandLineLemmas.Words.{is_made, same_moment}
use Rattle.dnsv_commands.proofs.command_line.values.moment.Goals as goal

pub unwrap-requires : goal.unwrap-requires
unwrap-requires c = is_made c.new.result c.number.result c.new.ensures c.number.ensures.bound

pub returns : goal.returns
returns c =
    c.number.ensures.said ∙ same_moment c.new.result c.number.result c.unwrap.result c.new.ensures c.number.ensures.bound c.unwrap.ensures
