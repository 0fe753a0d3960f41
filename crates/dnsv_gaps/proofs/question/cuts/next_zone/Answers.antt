use Rattle.std.proofs.Common.{arith, sym, ◌∙◌}
use Rattle.std.proofs.lemmas.Bool.{false≢true}
use Rattle.dnsv_gaps.specs.Asking.{asking}
use Rattle.dnsv_gaps.proofs.QuestionLemmas.CutLemmas.{none_known, none_known_more}
use Rattle.dnsv_gaps.proofs.question.cuts.next_zone.Goals as goal

pub loop-count-init : goal.loop-count-init
loop-count-init c = none_known (asking c.args.question.now) c.args.labels

pub returns-then-is_known : goal.returns-then-is_known
returns-then-is_known c =
    let more = c.loop-count.auto.count in
    let less = c.loop-count-test.true in
    let size = c.labels-count-end.ensures.count in
    record {
      below = omega (arith, more);
      within = omega (arith, less, size);
      known = c.is_known.ensures.0 c.if-is_known.true;
      fewest = c.loop-count.invariant;
    }

pub loop-count-preserved : goal.loop-count-preserved
loop-count-preserved c =
    none_known_more (asking c.args.question.now) c.args.labels c.loop-count.count c.loop-count.invariant
    (λ is. false≢true (sym c.if-is_known.false ∙ c.is_known.ensures.1 is))

pub returns : goal.returns
returns c = λ m below within known.
    let past = c.loop-count-test.false in
    let size = c.labels-count-end.ensures.count in
    c.loop-count.invariant m below (omega (arith, within, past, size)) known
