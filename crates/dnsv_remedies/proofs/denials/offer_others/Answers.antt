use Rattle.std.proofs.Common.{map}
use Rattle.dnsv_mending.specs.Level.{seen_level}
use Rattle.dnsv_remedies.specs.Denials.{other_ways}
use Rattle.dnsv_remedies.proofs.Lists.{offered_next}
use Rattle.dnsv_remedies.proofs.denials.offer_others.Goals as goal

pub loop-speaker-preserved : goal.loop-speaker-preserved
loop-speaker-preserved c =
    offered_next (other_ways (map seen_level c.args.levels.now) c.args.labels)
    c.args.speakers.now c.loop-speaker.speaker-index _ _ _ _ _ c.loop-speaker-test.true c.speaker-item.is
    c.in_ok-offer_other.ensures c.loop-speaker.invariant
