use Rattle.std.proofs.Common.{◌-◌, arith, sym, ◌∙◌}
use Rattle.std.proofs.lemmas.Bool.{false≢true}
use Rattle.dnsv_gaps.specs.SourceSearch.{said_in}
use Rattle.dnsv_gaps.proofs.CaseLemmas.{longest_is, none_shown_all, none_shown_more, none_shown_yet}
use Rattle.dnsv_gaps.proofs.speakers.cases.encloser.longest_shown.Goals as goal

pub loop-labels-init : goal.loop-labels-init
loop-labels-init c = (
  omega (arith, c.labels-labels.ensures.count),
  none_shown_yet (said_in c.args.question.now c.args.source.now) c.args.question.now.name.now c.labels-labels.result c.labels-labels.ensures.count,
)

pub is_shown-requires-clause-within : goal.is_shown-requires-clause-within
is_shown-requires-clause-within c = omega (arith, c.loop-labels.invariant.0)

pub returns-then-is_shown : goal.returns-then-is_shown
returns-then-is_shown c =
    longest_is (said_in c.args.question.now c.args.source.now) c.args.question.now.name.now c.args.source.now.labels c.loop-labels.labels
    (c.loop-labels.labels - 1) c.requires.within c.loop-labels.invariant.0 (omega (arith, c.loop-labels-test.true))
    (omega (arith, c.loop-labels-test.true)) (c.is_shown.ensures.0 c.if-is_shown.true) c.loop-labels.invariant.1

pub loop-labels-preserved : goal.loop-labels-preserved
loop-labels-preserved c = (
  omega (arith, c.loop-labels.invariant.0),
  none_shown_more (said_in c.args.question.now c.args.source.now) c.args.question.now.name.now c.loop-labels.labels (c.loop-labels.labels - 1)
      (omega (arith, c.loop-labels-test.true)) (λ shown. false≢true (sym c.if-is_shown.false ∙ c.is_shown.ensures.1 shown))
      c.loop-labels.invariant.1,
)

pub returns : goal.returns
returns c =
    none_shown_all (said_in c.args.question.now c.args.source.now) c.args.question.now.name.now c.args.source.now.labels c.loop-labels.labels
    c.requires.within (omega (arith, c.loop-labels-test.false)) c.loop-labels.invariant.1
