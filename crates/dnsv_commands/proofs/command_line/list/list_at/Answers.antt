use Rattle.std.proofs.Common.{refl}
use Rattle.dnsv_commands.proofs.command_line.list.list_at.Goals as goal

pub returns-clause-asks : goal.returns-clause-asks
returns-clause-asks c = (
  refl,
  c.in_ok-capture.ensures,
  c.requires.at,
  c.in_ok-statements.ensures,
  c.in_ok-listing.ensures.asks,
  c.format_asked-format.ensures,
)
