use Rattle.dnsv_compact_laws.proofs.OneLemmas.{one_reading}
use Rattle.dnsv_compact_laws.proofs.laws.a_compact_list_has_one_reading.Goals as goal

pub returns : goal.returns
returns c = one_reading
