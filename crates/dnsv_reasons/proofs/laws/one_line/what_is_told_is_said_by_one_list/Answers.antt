use Rattle.dnsv_reasons.proofs.lemmas.OneLine.{one_said_list}
use Rattle.dnsv_reasons.proofs.laws.one_line.what_is_told_is_said_by_one_list.Goals as goal

pub returns : goal.returns
returns c = one_said_list
