use Rattle.std.proofs.Common.{refl}
use Rattle.dnsv_commands.proofs.command_line.show_request.Goals as goal

pub returns : goal.returns
returns c = (refl, c.in_ok-capture.ensures)
