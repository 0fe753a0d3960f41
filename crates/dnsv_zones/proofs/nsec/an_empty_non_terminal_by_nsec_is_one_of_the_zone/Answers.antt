use Rattle.dnsv_zones.proofs.lemmas.chains.NsecLemmas.{empty_non_terminal_node, covered_no_owner}
use Rattle.dnsv_zones.proofs.nsec.an_empty_non_terminal_by_nsec_is_one_of_the_zone.Goals as goal

pub returns-clause-node : goal.returns-clause-node
returns-clause-node c = λ zone nsec name there. empty_non_terminal_node zone nsec there name

pub returns-clause-empty : goal.returns-clause-empty
returns-clause-empty c = λ zone nsec name there empty_non_terminal. covered_no_owner zone nsec there name empty_non_terminal.covers
