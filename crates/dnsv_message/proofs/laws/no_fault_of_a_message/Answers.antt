use Rattle.dnsv_message.proofs.Numbers.{octet_fits}
use Rattle.dnsv_message.proofs.MessageLaws.{MessageOf_sound}
use Rattle.dnsv_message.proofs.laws.no_fault_of_a_message.Goals as goal

pub returns : goal.returns
returns c = λ octets are. MessageOf_sound octets (octet_fits octets are)
