use Rattle.dnsv_message.proofs.FitLemmas.{IsMessage-fits}
use Rattle.dnsv_message.proofs.laws.messages_fit.Goals as goal

pub returns : goal.returns
returns c = IsMessage-fits
