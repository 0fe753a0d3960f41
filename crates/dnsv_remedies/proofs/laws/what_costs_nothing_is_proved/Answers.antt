use Rattle.dnsv_remedies.proofs.Reasons.{free_proved}
use Rattle.dnsv_remedies.proofs.laws.what_costs_nothing_is_proved.Goals as goal

pub returns : goal.returns
returns c = free_proved
