use Rattle.std.proofs.Common.{refl}
use Rattle.dnsv_commands.proofs.command_line.timeline.timeline_request.Goals as goal

pub returns-clause-asks : goal.returns-clause-asks
returns-clause-asks c = (
  refl,
  c.in_ok-capture.ensures,
  c.in_ok-anchors.ensures,
  (c.moment-from.ensures, c.moment-to.ensures),
  c.in_ok-name.ensures,
  c.type_asked-rtype.ensures,
  c.in_ok-known.ensures.goes,
  c.flag-kinds.ensures,
  c.format_asked-format.ensures,
)
