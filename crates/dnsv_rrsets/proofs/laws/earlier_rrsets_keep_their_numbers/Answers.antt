use Rattle.dnsv_rrsets.proofs.LawLemmas.{rrsets_of-append}
use Rattle.dnsv_rrsets.proofs.laws.earlier_rrsets_keep_their_numbers.Goals as goal

pub returns : goal.returns
returns c = rrsets_of-append
