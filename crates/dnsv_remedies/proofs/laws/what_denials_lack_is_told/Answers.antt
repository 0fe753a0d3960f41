use Rattle.std.proofs.Common.{refl}
use Rattle.dnsv_mending.specs.Keys.{fitting_way, self_way, signing, voucher_ways}
use Rattle.dnsv_mending.specs.Rrset.{held_ways, signature_ways, unheld_ways}
use Rattle.dnsv_mending.specs.Within.{own_ways, zone_signature_ways}
use Rattle.dnsv_mending.specs.Zone.{anchor_ways, chain_of, dnskey_mend, held, holder_ways, kept_ways, level_over, unvouched_ways}
use Rattle.dnsv_remedies.specs.Answers.{answer_ways, goal_ways}
use Rattle.dnsv_remedies.specs.Cuts.{cut_source_ways, cut_ways, is_proving, parent_ways}
use Rattle.dnsv_remedies.specs.Denials.{other_ways}
use Rattle.dnsv_remedies.specs.Parts.{within_kept}
use Rattle.dnsv_remedies.specs.Question.{dname_line}
use Rattle.dnsv_remedies.specs.Remedy.{unusable_line}
use Rattle.dnsv_remedies.specs.Sources.{held_line, source_ways}
use Rattle.dnsv_remedies.proofs.laws.what_denials_lack_is_told.Goals as goal

pub returns-clause-of_another : goal.returns-clause-of_another
unfolding level_over chain_of anchor_ways kept_ways dnskey_mend unvouched_ways holder_ways held signature_ways held_ways unheld_ways self_way signing fitting_way voucher_ways own_ways zone_signature_ways within_kept answer_ways goal_ways held_line source_ways other_ways cut_source_ways is_proving cut_ways parent_ways dname_line unusable_line
returns-clause-of_another c = λ heap. refl

pub returns-clause-uncovered : goal.returns-clause-uncovered
unfolding level_over chain_of anchor_ways kept_ways dnskey_mend unvouched_ways holder_ways held signature_ways held_ways unheld_ways self_way signing fitting_way voucher_ways own_ways zone_signature_ways within_kept answer_ways goal_ways held_line source_ways other_ways cut_source_ways is_proving cut_ways parent_ways dname_line unusable_line
returns-clause-uncovered c = λ heap. refl

pub returns-clause-delegation : goal.returns-clause-delegation
unfolding level_over chain_of anchor_ways kept_ways dnskey_mend unvouched_ways holder_ways held signature_ways held_ways unheld_ways self_way signing fitting_way voucher_ways own_ways zone_signature_ways within_kept answer_ways goal_ways held_line source_ways other_ways cut_source_ways is_proving cut_ways parent_ways dname_line unusable_line
returns-clause-delegation c = λ heap. refl

pub returns-clause-dname : goal.returns-clause-dname
unfolding level_over chain_of anchor_ways kept_ways dnskey_mend unvouched_ways holder_ways held signature_ways held_ways unheld_ways self_way signing fitting_way voucher_ways own_ways zone_signature_ways within_kept answer_ways goal_ways held_line source_ways other_ways cut_source_ways is_proving cut_ways parent_ways dname_line unusable_line
returns-clause-dname c = λ heap. refl

pub returns-clause-over : goal.returns-clause-over
unfolding level_over chain_of anchor_ways kept_ways dnskey_mend unvouched_ways holder_ways held signature_ways held_ways unheld_ways self_way signing fitting_way voucher_ways own_ways zone_signature_ways within_kept answer_ways goal_ways held_line source_ways other_ways cut_source_ways is_proving cut_ways parent_ways dname_line unusable_line
returns-clause-over c = λ heap. refl

pub returns-clause-elsewhere : goal.returns-clause-elsewhere
unfolding level_over chain_of anchor_ways kept_ways dnskey_mend unvouched_ways holder_ways held signature_ways held_ways unheld_ways self_way signing fitting_way voucher_ways own_ways zone_signature_ways within_kept answer_ways goal_ways held_line source_ways other_ways cut_source_ways is_proving cut_ways parent_ways dname_line unusable_line
returns-clause-elsewhere c = λ heap. refl

pub returns-clause-of_no_use : goal.returns-clause-of_no_use
unfolding level_over chain_of anchor_ways kept_ways dnskey_mend unvouched_ways holder_ways held signature_ways held_ways unheld_ways self_way signing fitting_way voucher_ways own_ways zone_signature_ways within_kept answer_ways goal_ways held_line source_ways other_ways cut_source_ways is_proving cut_ways parent_ways dname_line unusable_line
returns-clause-of_no_use c = λ heap. refl
