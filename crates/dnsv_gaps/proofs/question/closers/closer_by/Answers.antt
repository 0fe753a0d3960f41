use Rattle.dnsv_names.specs.Tree.TreeLaws.{at_or_below_length}
use Rattle.dnsv_gaps.proofs.QuestionLemmas.CloserLemmas.{fewer_counted}
use Rattle.dnsv_gaps.proofs.question.closers.closer_by.Goals as goal

pub closer_facts-requires-clause-above : goal.closer_facts-requires-clause-above
closer_facts-requires-clause-above c =
    at_or_below_length c.args.question.now.name.now c.args.rrsig.now.signer (c.is_open.ensures.0 c.if-not-is_open.false).above

pub closer_facts-requires-clause-closer : goal.closer_facts-requires-clause-closer
closer_facts-requires-clause-closer c =
    fewer_counted c.args.question.now.name.now c.args.rrset.now.owner c.args.rrsig.now c.requires.goal.owner
    (c.is_open.ensures.0 c.if-not-is_open.false).expanded
