use Rattle.dnsv_commands.specs.CommandLine.{IsAccepted, IsRefused}
use Rattle.dnsv_work.proofs.OpenedLemmas.{told_ok, told_err}
use Rattle.dnsv_work.proofs.opened.request.Goals as goal

pub returns-clause-accepted : goal.returns-clause-accepted
returns-clause-accepted g c = told_ok IsAccepted _ _ _ c.in_ok-words.ensures.told (rw c.as_slice.ensures.value at c.read_command_line.ensures.accepted)

pub returns-clause-refused : goal.returns-clause-refused
returns-clause-refused g c = told_err IsRefused _ _ _ c.in_ok-words.ensures.told (rw c.as_slice.ensures.value at c.read_command_line.ensures.refused)
