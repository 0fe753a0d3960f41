use Rattle.std.proofs.Common.{subst, sym}
use Rattle.dnsv_timeline.specs.Timeline.{DependsOnWithin, IsTimelineBy}
use Rattle.dnsv_moments.specs.Saying.{AskedThroughout, IsSaidWithin}
use Rattle.dnsv_moments.proofs.SayingLemmas.{said_depends_within, said_stretches}
use Rattle.dnsv_moments.proofs.question.all_said.Goals as goal

pub timeline_of-requires : goal.timeline_of-requires
timeline_of-requires c =
    subst (λ (asked : AskedThroughout). DependsOnWithin c.range.result.from c.range.result.to
    (IsSaidWithin asked.moments asked.format asked.name asked.rtype) c.deref.result.now) (sym c.new-sayer.ensures)
    (said_depends_within c.args.moments.now c.args.format c.args.name.now c.args.rtype.0 c.range.result.from c.range.result.to c.capture.result.now.rrsets
    c.in_ok-times.times.items c.deref.result.now c.range.ensures.from c.range.ensures.to c.capture.ensures c.deref.ensures.value
    c.in_ok-times.ensures)

pub returns : goal.returns
returns c = λ meaning by.
    said_stretches c.args.moments.now c.args.format c.args.name.now c.args.rtype.0 c.range.result.from c.range.result.to c.in_ok-stretches.stretches.items
    c.range.ensures.from c.range.ensures.to
    (subst (λ (asked : AskedThroughout). IsTimelineBy (IsSaidWithin asked.moments asked.format asked.name asked.rtype) c.range.result.from
    c.range.result.to c.in_ok-stretches.stretches.items) c.new-sayer.ensures c.in_ok-stretches.ensures.timeline) meaning by
