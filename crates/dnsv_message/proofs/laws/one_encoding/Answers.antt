use Rattle.dnsv_message.proofs.Numbers.{octet_fits}
use Rattle.dnsv_message.proofs.EncodingLemmas.OneEncoding.{PlainMessageOf-written}
use Rattle.dnsv_message.proofs.laws.one_encoding.Goals as goal

pub returns : goal.returns
returns c = λ octets are. PlainMessageOf-written octets (octet_fits octets are)
