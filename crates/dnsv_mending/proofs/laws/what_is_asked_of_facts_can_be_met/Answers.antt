use Rattle.std.proofs.Common.{refl}
use Rattle.dnsv_mending.specs.Keys.{fitting_way, self_way, signing, voucher_ways}
use Rattle.dnsv_mending.specs.Rrset.{held_ways, signature_ways, unheld_ways}
use Rattle.dnsv_mending.specs.Zone.{anchor_ways, chain_of, dnskey_mend, held, holder_ways, kept_ways, level_over, unvouched_ways}
use Rattle.dnsv_mending.proofs.Standby.{closed, in_place}
use Rattle.dnsv_mending.proofs.laws.what_is_asked_of_facts_can_be_met.Goals as goal

pub returns-clause-closed : goal.returns-clause-closed
returns-clause-closed c = closed

pub returns-clause-in_place : goal.returns-clause-in_place
returns-clause-in_place c = in_place

pub returns-clause-there : goal.returns-clause-there
unfolding level_over chain_of anchor_ways kept_ways dnskey_mend unvouched_ways holder_ways held signature_ways held_ways unheld_ways self_way signing fitting_way voucher_ways
returns-clause-there c = λ heap. (_, _, refl, refl)
