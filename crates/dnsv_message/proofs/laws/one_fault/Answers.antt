use Rattle.dnsv_message.proofs.Numbers.{octet_fits}
use Rattle.dnsv_message.proofs.MessageLaws.{FaultOf_same}
use Rattle.dnsv_message.proofs.laws.one_fault.Goals as goal

pub returns : goal.returns
returns c = λ octets are. FaultOf_same octets (octet_fits octets are)
