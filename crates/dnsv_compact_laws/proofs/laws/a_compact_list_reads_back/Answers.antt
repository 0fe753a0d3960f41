use Rattle.dnsv_compact_laws.proofs.ReadLemmas.{reads_back}
use Rattle.dnsv_compact_laws.proofs.laws.a_compact_list_reads_back.Goals as goal

pub returns : goal.returns
returns c = reads_back
