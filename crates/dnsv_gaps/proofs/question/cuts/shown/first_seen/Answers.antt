use Rattle.std.proofs.Common.{arith, sym, ◌∙◌}
use Rattle.std.proofs.lemmas.Bool.{false≢true}
use Rattle.dnsv_gaps.specs.Asking.{asking}
use Rattle.dnsv_gaps.proofs.QuestionLemmas.CutLemmas.{none_seen, none_seen_more}
use Rattle.dnsv_gaps.proofs.question.cuts.shown.first_seen.Goals as goal

pub loop-name-init : goal.loop-name-init
loop-name-init c = none_seen (asking c.args.parent.now.question.now) c.args.parent.now.labels c.args.parent.now.next

pub is_seen-requires-clause-within : goal.is_seen-requires-clause-within
is_seen-requires-clause-within c = let less = c.loop-name-test.true in let within = c.requires.within in omega (arith, less, within)

pub returns-then-branch : goal.returns-then-branch
returns-then-branch c =
    let less = c.loop-name-test.true in let is = c.requires.lowest in let more = c.loop-name.auto.name in (
      omega (arith, more),
      omega (arith, less, is),
      record { seen = c.in_ok-is_seen.ensures.0 c.if-branch.true; first = c.loop-name.invariant },
    )

pub loop-name-preserved : goal.loop-name-preserved
loop-name-preserved c =
    none_seen_more (asking c.args.parent.now.question.now) c.args.parent.now.labels c.args.parent.now.next c.loop-name.name c.loop-name.invariant
    (λ seen. false≢true (sym c.if-branch.false ∙ c.in_ok-is_seen.ensures.1 seen))

pub returns : goal.returns
returns c = λ m below within.
    let past = c.loop-name-test.false in let is = c.requires.lowest in
    c.loop-name.invariant m below (omega (arith, within, past, is))
