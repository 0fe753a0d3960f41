use Rattle.dnsv_message.proofs.Numbers.{octet_fits}
use Rattle.dnsv_message.proofs.MessageLaws.{MessageOf_same}
use Rattle.dnsv_message.proofs.laws.one_message.Goals as goal

pub returns : goal.returns
returns c = λ octets are. MessageOf_same octets (octet_fits octets are)
