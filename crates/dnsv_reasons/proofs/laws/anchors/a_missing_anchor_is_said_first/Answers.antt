use Rattle.dnsv_reasons.proofs.lemmas.AnchorLemmas.{anchored_none, unanchored_begin, unanchored_follows}
use Rattle.dnsv_reasons.proofs.laws.anchors.a_missing_anchor_is_said_first.Goals as goal

pub returns-clause-first : goal.returns-clause-first
returns-clause-first c = λ a lines none failures. unanchored_begin a lines failures none

pub returns-clause-follows : goal.returns-clause-follows
returns-clause-follows c = λ a lines none failures. unanchored_follows a lines failures none

pub returns-clause-anchored : goal.returns-clause-anchored
returns-clause-anchored c = λ a lines has failures. anchored_none a lines failures has
