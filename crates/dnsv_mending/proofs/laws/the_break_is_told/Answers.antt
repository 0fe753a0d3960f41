use Rattle.std.proofs.Common.{refl}
use Rattle.dnsv_mending.specs.Keys.{fitting_way, self_way, signing, voucher_ways}
use Rattle.dnsv_mending.specs.Rrset.{held_ways, signature_ways, unheld_ways}
use Rattle.dnsv_mending.specs.Zone.{anchor_ways, chain_of, dnskey_mend, held, holder_ways, kept_ways, level_over, unvouched_ways}
use Rattle.dnsv_mending.proofs.laws.the_break_is_told.Goals as goal

pub returns-clause-early : goal.returns-clause-early
unfolding level_over chain_of anchor_ways kept_ways dnskey_mend unvouched_ways holder_ways held signature_ways held_ways unheld_ways self_way signing fitting_way voucher_ways
returns-clause-early c = λ heap. refl

pub returns-clause-late : goal.returns-clause-late
unfolding level_over chain_of anchor_ways kept_ways dnskey_mend unvouched_ways holder_ways held signature_ways held_ways unheld_ways self_way signing fitting_way voucher_ways
returns-clause-late c = λ heap. refl

pub returns-clause-standby : goal.returns-clause-standby
unfolding level_over chain_of anchor_ways kept_ways dnskey_mend unvouched_ways holder_ways held signature_ways held_ways unheld_ways self_way signing fitting_way voucher_ways
returns-clause-standby c = λ heap. refl

pub returns-clause-expired : goal.returns-clause-expired
unfolding level_over chain_of anchor_ways kept_ways dnskey_mend unvouched_ways holder_ways held signature_ways held_ways unheld_ways self_way signing fitting_way voucher_ways
returns-clause-expired c = λ heap. refl
