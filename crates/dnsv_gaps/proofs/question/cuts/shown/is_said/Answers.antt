use Rattle.std.proofs.Common.{refl, sym, ◌∙◌}
use Rattle.std.proofs.lemmas.Bool.{false≢true}
use Rattle.dnsv_gaps.proofs.QuestionLemmas.SayingLemmas.{none_all, none_more, none_says, one_says, said_as}
use Rattle.dnsv_gaps.proofs.question.cuts.shown.is_said.Goals as goal

pub loop-held-init : goal.loop-held-init
loop-held-init c = none_says c.args.parent.now.question.now c.args.parent.now.labels c.args.asked c.args.word

pub returns-then-branch : goal.returns-then-branch
returns-then-branch c =
    let parent = c.args.parent.now in
    let question = parent.question.now in
    let held = c.held-item.result in
    let source = c.source-source.result in (
      λ yes.
          let one = c.in_ok-has_saying.ensures.0 c.if-branch.true in (
            one.0,
            one_says question parent.labels c.args.asked c.args.word parent.sources.now c.loop-held.held-index held one.0 c.loop-held-test.true
                c.held-item.is ((said_as question parent.labels c.args.asked c.args.word source held one.0 c.source-source.ensures.labels
                c.source-source.ensures.chain).0 one.1),
          ),
      λ is. refl,
    )

pub loop-held-preserved : goal.loop-held-preserved
loop-held-preserved c =
    let parent = c.args.parent.now in
    let question = parent.question.now in
    let held = c.held-item.result in
    let source = c.source-source.result in
    none_more question parent.labels c.args.asked c.args.word parent.sources.now c.loop-held.held-index held c.loop-held-test.true c.held-item.is
    c.loop-held.invariant
    (λ number says. false≢true (sym c.if-branch.false ∙ c.in_ok-has_saying.ensures.1 (
      number,
      (said_as question parent.labels c.args.asked c.args.word source held number c.source-source.ensures.labels c.source-source.ensures.chain).1 says,
    )))

pub returns : goal.returns
returns c =
    let parent = c.args.parent.now in (
      λ yes. absurd (false≢true yes),
      λ is. absurd (none_all parent.question.now parent.labels c.args.asked c.args.word parent.sources.now c.loop-held.held-index
          c.loop-held-test.false c.loop-held.invariant is.0 is.1),
    )
