use Rattle.dnsv_message.proofs.Numbers.{octet_fits}
use Rattle.dnsv_message.proofs.MessageLaws.MessageOrFault.{some_message_or_fault}
use Rattle.dnsv_message.proofs.laws.message_or_fault.Goals as goal

pub returns : goal.returns
returns c = λ octets are. some_message_or_fault octets (octet_fits octets are)
