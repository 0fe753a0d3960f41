use Rattle.std.proofs.Common.{map}
use Rattle.std.specs.Option.{option_map}
use Rattle.dnsv_mending.specs.Level.{seen_level}
use Rattle.dnsv_mending.specs.Mend as mend
use Rattle.dnsv_remedies.specs.Answers.{answer_ways}
use Rattle.dnsv_remedies.proofs.Lists.{offered_next}
use Rattle.dnsv_remedies.proofs.answers.offer_signatures.Goals as goal

pub loop-signature-preserved : goal.loop-signature-preserved
loop-signature-preserved c =
    offered_next (answer_ways (map seen_level c.args.levels.now) (option_map (λ m. mend.seen m.now) c.args.above))
    c.args.signatures.now c.loop-signature.signature-index _ _ _ _ _ c.loop-signature-test.true c.signature-item.is
    c.in_ok-offer_answer.ensures c.loop-signature.invariant
