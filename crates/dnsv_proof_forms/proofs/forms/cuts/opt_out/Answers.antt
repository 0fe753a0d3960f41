use Rattle.std.proofs.Common.{ℕ, ◌+◌, ⊎_elim, arith}
use Rattle.dnsv_names.specs.Name.{rightmost}
use Rattle.dnsv_names.specs.Tree.{wildcard_of}
use Rattle.dnsv_zones.specs.forms.Parts.{OptsOut}
use Rattle.dnsv_proof_forms.specs.words.ChainSaid.{chain_said}
use Rattle.dnsv_proof_forms.proofs.lemmas.forms.WildcardLemmas.{fewer_yet, no_fewer_labels}
use Rattle.dnsv_proof_forms.proofs.forms.cuts.opt_out.Goals as goal

pub returns-then-not-has_opt_out : goal.returns-then-not-has_opt_out
returns-then-not-has_opt_out c = λ labels out.
    let said = chain_said c.args.apex.now c.args.records.now in
    let next = rightmost c.args.name.now (labels + 1) in
    let star = wildcard_of (rightmost c.args.name.now labels) in
    ⊎_elim
    (λ (told : (place : ℕ) × said.OptedOut next place).
    let holds = c.has_opt_out.ensures c.args.apex.now next told in let fails = c.if-not-has_opt_out.true in cc)
    (λ (told : (place : ℕ) × said.OptedOut star place).
    let holds = c.has_opt_out.ensures c.args.apex.now star told in let fails = c.if-not-has_opt_out.true in cc)
    out.opted_out

pub loop-labels-init : goal.loop-labels-init
loop-labels-init c = λ more out. omega (arith, out.above.proper, c.labels-labels.ensures.count)

pub loop-labels-preserved : goal.loop-labels-preserved
loop-labels-preserved c =
    fewer_yet (OptsOut (chain_said c.args.apex.now c.args.records.now) c.args.apex.now c.args.name.now) c.loop-labels.labels
    (omega (arith, c.loop-labels-test.true)) c.loop-labels.invariant
    (λ out. let holds = c.opts_out.ensures.1 out in let fails = c.if-opts_out.false in cc)

pub returns-then-opts_out : goal.returns-then-opts_out
returns-then-opts_out c = record {
  opts_out = c.opts_out.ensures.0 c.if-opts_out.true;
  most = λ more out. omega (arith, c.loop-labels.invariant more out, c.loop-labels-test.true);
}

pub returns : goal.returns
returns c = λ labels out.
    omega (arith, c.loop-labels.invariant labels out, no_fewer_labels c.args.apex.now c.args.name.now labels out.above, c.loop-labels-test.false)
