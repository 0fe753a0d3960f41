use Rattle.std.proofs.Common.{refl}
use Rattle.dnsv_verifier.proofs.TableLemmas.{hopeful_is_table, later_hoped}
use Rattle.dnsv_verifier.specs.Table.{hoped_answer}
use Rattle.dnsv_verifier.proofs.laws.unknown_entries_may_turn_out_valid.Goals as goal

pub returns-clause-hopeful : goal.returns-clause-hopeful
returns-clause-hopeful c = λ meaning later moment rrsets contents is turns stays.
    hopeful_is_table meaning moment rrsets contents is later (later_hoped meaning moment rrsets contents is later turns stays)

pub returns-clause-hoped : goal.returns-clause-hoped
returns-clause-hoped c = λ meaning moment rrsets contents is.
    hopeful_is_table meaning moment rrsets contents is (λ entry. hoped_answer (meaning entry)) (λ entry asked. refl)
