use Rattle.std.proofs.Common.{arith}
use Rattle.dnsv_proof_forms.specs.forms.ByWildcard.{StandsAt}
use Rattle.dnsv_proof_forms.specs.words.ChainSaid.{chain_said}
use Rattle.dnsv_proof_forms.proofs.lemmas.forms.WildcardLemmas.{fewer_yet}
use Rattle.dnsv_proof_forms.proofs.forms.by_wildcard.by_wildcard.Goals as goal

pub loop-labels-init : goal.loop-labels-init
loop-labels-init c = λ more stands. (c.end_limits-limits.ensures.limits more stands.ends).1

pub loop-labels-preserved : goal.loop-labels-preserved
loop-labels-preserved c =
    fewer_yet (StandsAt c.args.asked (chain_said c.args.apex.now c.args.records.now) c.args.apex.now c.args.name.now) c.loop-labels.labels
    (omega (arith, c.loop-labels-test.true)) c.loop-labels.invariant c.in_default.ensures

pub returns-in-Some : goal.returns-in-Some
returns-in-Some c = record {
  shows = c.in-Some.ensures.1;
  most_labels = λ more stands. omega (arith, c.loop-labels.invariant more stands, c.loop-labels-test.true, c.in-Some.ensures.0);
}

pub returns : goal.returns
returns c = λ more stands.
    let between = (c.end_limits-limits.ensures.limits more stands.ends).0 in
    let fewer = c.loop-labels.invariant more stands in
    omega (arith, between, fewer, c.loop-labels-test.false)
