use Rattle.dnsv_timeline.proofs.CoarserLemmas.{all_begin}
use Rattle.dnsv_timeline.proofs.laws.kinds_begin_where_stretches_do.Goals as goal

pub returns : goal.returns
returns g c = λ said kind from to stretches kinds timeline. all_begin said kind from to stretches timeline kinds
