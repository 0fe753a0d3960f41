use Rattle.std.proofs.Common.{◌∙◌, get_or, arith, refl, subst}
use Rattle.dnsv_timeline.proofs.JoinLemmas.{inside, joined_end, joined_more, joined_start}
use Rattle.dnsv_timeline.proofs.timeline.joined.Goals as goal

pub loop-point-init : goal.loop-point-init
loop-point-init g c = (
  joined_start (g.J.Judge.says c.args.judge.now) c.args.range.from c.args.range.to c.args.points.now c.new-stretches.result.items
      (record { from = c.from-from.result; to = c.from-from.result; said = c.in_ok-said_at.field-0 })
      c.from-from.ensures.range c.requires c.new-stretches.ensures.items c.from-from.ensures.value c.in_ok-said_at.ensures.says refl,
  c.said_at.ensures.same,
)

pub loop-point-preserved : goal.loop-point-preserved
loop-point-preserved g c = (
  joined_more (g.J.Judge.says c.args.judge.now) c.args.range.from c.args.range.to c.args.points.now c.loop-point.point-index c.loop-point.stretches.items
      c.next.new.stretches.items c.loop-point.last c.in_ok-last.last c.is_same-same.result c.in_ok-said.said c.loop-point-test.true c.requires c.loop-point.invariant.0
      (subst (λ judge. g.J.Judge.says judge (get_or c.args.points.now c.loop-point.point-index 0) c.in_ok-said.said) c.loop-point.invariant.1 c.in_ok-said.ensures.says) c.is_same-same.ensures c.in_ok-last.ensures,
  c.said_at-in-loop-point.ensures.same ∙ c.loop-point.invariant.1,
)

pub next-requires : goal.next-requires
next-requires g c =
    inside (g.J.Judge.says c.args.judge.now) c.args.range.from c.args.range.to c.args.points.now c.loop-point.point-index c.requires c.loop-point-test.true

pub returns-clause-timeline : goal.returns-clause-timeline
returns-clause-timeline g c =
    joined_end (g.J.Judge.says c.args.judge.now) c.args.range.from c.args.range.to c.args.points.now c.loop-point.point-index c.loop-point.stretches.items
    c.loop-point.last c.to.result c.push.new.self.items (omega arith) c.requires c.loop-point.invariant.0 c.to.ensures.value c.in_ok-push.ensures.items

pub returns-clause-same : goal.returns-clause-same
returns-clause-same g c = c.loop-point.invariant.1
