use Rattle.dnsv_rrsets.proofs.LawLemmas.{front_of_octets}
use Rattle.dnsv_rrsets.proofs.laws.signed_data_begins_as_the_signature.Goals as goal

pub returns : goal.returns
returns c = λ rdata rrsig are is. front_of_octets rdata are rrsig is
