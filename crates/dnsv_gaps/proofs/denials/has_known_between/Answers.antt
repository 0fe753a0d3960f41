use Rattle.std.proofs.Common.{◌+◌, arith, refl, sym, ◌∙◌}
use Rattle.std.proofs.lemmas.Bool.{false≢true}
use Rattle.dnsv_gaps.specs.Asking.{asking}
use Rattle.dnsv_gaps.proofs.DenialLemmas.{none_all, none_next, none_yet}
use Rattle.dnsv_gaps.proofs.denials.has_known_between.Goals as goal

pub loop-count-init : goal.loop-count-init
loop-count-init c = none_yet (asking c.args.question.now) c.args.labels c.args.owner.now (c.args.labels + 1) (omega arith)

pub returns-then-is_known_above : goal.returns-then-is_known_above
returns-then-is_known_above c = (
  λ yes. record {
    count = c.loop-count.count;
    more = omega (arith, c.loop-count.auto.count);
    within = omega (arith, c.loop-count-test.true, c.labels-count-end.ensures.count);
    is = c.is_known_above.ensures.0 c.if-is_known_above.true;
  },
  λ has. refl,
)

pub loop-count-preserved : goal.loop-count-preserved
loop-count-preserved c =
    none_next (asking c.args.question.now) c.args.labels c.args.owner.now c.loop-count.count
    (λ is. false≢true (sym c.if-is_known_above.false ∙ c.is_known_above.ensures.1 is)) c.loop-count.invariant

pub returns : goal.returns
returns c = (
  λ yes. absurd (false≢true yes),
  λ has. absurd (none_all (asking c.args.question.now) c.args.labels c.args.owner.now c.loop-count.count
      (omega (arith, c.loop-count-test.false, c.labels-count-end.ensures.count)) c.loop-count.invariant has),
)
