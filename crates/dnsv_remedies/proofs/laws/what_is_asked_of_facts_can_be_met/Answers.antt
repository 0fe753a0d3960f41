use Rattle.std.proofs.Common.{refl}
use Rattle.dnsv_mending.specs.Keys.{fitting_way, self_way, signing, voucher_ways}
use Rattle.dnsv_mending.specs.Rrset.{held_ways, signature_ways, unheld_ways}
use Rattle.dnsv_mending.specs.Within.{own_ways, zone_signature_ways}
use Rattle.dnsv_mending.specs.Zone.{anchor_ways, chain_of, dnskey_mend, held, holder_ways, kept_ways, level_over, unvouched_ways}
use Rattle.dnsv_remedies.specs.Answers.{answer_ways, goal_ways}
use Rattle.dnsv_remedies.specs.Cuts.{cut_source_ways, cut_ways, is_proving, parent_ways}
use Rattle.dnsv_remedies.specs.Denials.{other_ways}
use Rattle.dnsv_remedies.specs.Parts.{within_kept}
use Rattle.dnsv_remedies.specs.Question.{dname_line}
use Rattle.dnsv_remedies.specs.Remedy.{unusable_line}
use Rattle.dnsv_remedies.specs.Sources.{held_line, source_ways}
use Rattle.dnsv_mending.proofs.Standby.{closed, in_place}
use Rattle.dnsv_remedies.proofs.Reasons.{of_another_in_place, of_another_whole}
use Rattle.dnsv_remedies.proofs.laws.what_is_asked_of_facts_can_be_met.Goals as goal

pub returns-clause-closed : goal.returns-clause-closed
returns-clause-closed c = closed

pub returns-clause-zones_in_place : goal.returns-clause-zones_in_place
returns-clause-zones_in_place c = in_place

pub returns-clause-in_place : goal.returns-clause-in_place
returns-clause-in_place c = of_another_in_place

pub returns-clause-is_whole : goal.returns-clause-is_whole
returns-clause-is_whole c = of_another_whole

pub returns-clause-there : goal.returns-clause-there
unfolding level_over chain_of anchor_ways kept_ways dnskey_mend unvouched_ways holder_ways held signature_ways held_ways unheld_ways self_way signing fitting_way voucher_ways own_ways zone_signature_ways within_kept answer_ways goal_ways held_line source_ways other_ways cut_source_ways is_proving cut_ways parent_ways dname_line unusable_line
returns-clause-there c = λ heap. (_, refl)
