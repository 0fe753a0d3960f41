use Rattle.std.proofs.Common.{arith}
use Rattle.std.proofs.lemmas.Option.{MatchOption-at_none, MatchOption-at_some}
use Rattle.dnsv_chain.specs.Basis.{basis_by}
use Rattle.dnsv_gaps.specs.SourceSearch.{said_in}
use Rattle.dnsv_gaps.proofs.CaseLemmas.{closed_first, none_closed_all, none_closed_next, none_closed_yet}
use Rattle.dnsv_gaps.proofs.speakers.cases.closed.first_closed.Goals as goal

pub overflow_step-labels : goal.overflow_step-labels
overflow_step-labels c = omega (arith, c.requires.within, c.labels-end.ensures.count, c.labels-end.ensures.at_most_127)

pub loop-labels-init : goal.loop-labels-init
loop-labels-init c = none_closed_yet (said_in c.args.question.now c.args.source.now) c.args.question.now.name.now c.args.source.now.labels

pub returns-in-Some : goal.returns-in-Some
returns-in-Some c =
    closed_first (said_in c.args.question.now c.args.source.now) c.args.question.now.name.now c.args.source.now.labels c.requires.within
    (basis_by c.args.question.now.facts.now) c.loop-labels.labels c.in-Some.closed (omega (arith, c.loop-labels.auto.labels))
    (omega (arith, c.loop-labels-test.true, c.labels-end.ensures.count)) c.loop-labels.invariant
    (MatchOption-at_some _ _ c.in-Some.closed c.in-Some.is c.in_ok-found.ensures)

pub loop-labels-preserved : goal.loop-labels-preserved
loop-labels-preserved c =
    none_closed_next (said_in c.args.question.now c.args.source.now) c.args.question.now.name.now c.args.source.now.labels c.loop-labels.labels
    (MatchOption-at_none _ _ c.in_default.is c.in_ok-found.ensures) c.loop-labels.invariant

pub returns : goal.returns
returns c =
    none_closed_all (said_in c.args.question.now c.args.source.now) c.args.question.now.name.now c.args.source.now.labels c.requires.within
    c.loop-labels.labels (omega (arith, c.loop-labels-test.false, c.labels-end.ensures.count)) c.loop-labels.invariant
