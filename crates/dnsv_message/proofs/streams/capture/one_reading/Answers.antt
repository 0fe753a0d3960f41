use Rattle.dnsv_message.proofs.FrameLemmas.{some_reading, one_framing}
use Rattle.dnsv_message.proofs.streams.capture.one_reading.Goals as goal

pub returns-clause-some : goal.returns-clause-some
returns-clause-some c = some_reading

pub returns-clause-one : goal.returns-clause-one
returns-clause-one c = one_framing
