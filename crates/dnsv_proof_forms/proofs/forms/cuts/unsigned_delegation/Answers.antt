-- The fewest labels are found, and those with fewer have none.
use Rattle.std.proofs.Common.{◌+◌, arith}
use Rattle.dnsv_proof_forms.proofs.lemmas.forms.CutLemmas.{no_cut_at_all, no_cut_outside, highest_cut, none_up_to}
use Rattle.dnsv_proof_forms.proofs.forms.cuts.unsigned_delegation.Goals as goal

pub returns-then-not-has_unsigned_delegation : goal.returns-then-not-has_unsigned_delegation
returns-then-not-has_unsigned_delegation c = λ cut form.
    let holds = c.has_unsigned_delegation.ensures c.args.apex.now cut form.types in let fails = c.if-not-has_unsigned_delegation.true in cc

pub returns-then-not-is_at_or_below : goal.returns-then-not-is_at_or_below
returns-then-not-is_at_or_below c =
    no_cut_outside c.args.apex.now c.args.name.now c.args.records.now
    (λ within. let holds = c.is_at_or_below.ensures.at_or_below.1 within in let fails = c.if-not-is_at_or_below.true in cc)

pub returns-then-has_types : goal.returns-then-has_types
returns-then-has_types c =
    highest_cut c.args.apex.now c.args.name.now c.args.records.now (c.loop-labels.labels + 1)
    (c.is_at_or_below.ensures.at_or_below.0 c.if-not-is_at_or_below.false)
    (omega (arith, c.loop-labels.invariant.0)) (omega (arith, c.loop-labels-test.true))
    ((c.has_types.ensures c.args.apex.now).0 c.if-has_types.true) c.loop-labels.invariant.1

pub loop-labels-preserved : goal.loop-labels-preserved
loop-labels-preserved c = (
  omega (arith, c.loop-labels.invariant.0),
  none_up_to c.args.apex.now c.args.name.now c.args.records.now (c.loop-labels.labels + 1) c.loop-labels.invariant.1
      (λ some. let holds = (c.has_types.ensures c.args.apex.now).1 some in let fails = c.if-has_types.false in cc),
)

pub returns : goal.returns
returns c =
    no_cut_at_all c.args.apex.now c.args.name.now c.args.records.now c.loop-labels.labels (omega (arith, c.loop-labels-test.false)) c.loop-labels.invariant.1
