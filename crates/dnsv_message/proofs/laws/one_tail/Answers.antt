use Rattle.dnsv_message.proofs.Numbers.{octet_fits}
use Rattle.dnsv_message.specs.Tail.TailLaws.{TailAt-bounds}
use Rattle.dnsv_message.proofs.TailLemmas.{IsTailOf-some, IsTailOf-same}
use Rattle.dnsv_message.proofs.laws.one_tail.Goals as goal

pub returns-clause-some : goal.returns-clause-some
returns-clause-some c = IsTailOf-some

pub returns-clause-one : goal.returns-clause-one
returns-clause-one c = λ octets are. IsTailOf-same octets (octet_fits octets are)

pub returns-clause-within : goal.returns-clause-within
returns-clause-within c = TailAt-bounds
