use Rattle.std.proofs.Common.{arith}
use Rattle.dnsv_names.specs.Name.{rightmost}
use Rattle.dnsv_names.specs.Tree.AncestorLaws.{rightmost_length}
use Rattle.dnsv_names.specs.Tree.TreeLaws.{at_or_below_trans, below_length}
use Rattle.dnsv_proof_forms.specs.forms.ShownUnsigned.ShowsDelegation.{delegation}
use Rattle.dnsv_proof_forms.proofs.lemmas.forms.CutLemmas.{delegation_shown}
use Rattle.dnsv_proof_forms.proofs.forms.unsigned.delegation_at.Goals as goal

pub returns-then-not-is_at_or_below : goal.returns-then-not-is_at_or_below
returns-then-not-is_at_or_below c = λ shown.
    let within = at_or_below_trans c.args.name.now (rightmost c.args.name.now c.args.labels) c.args.apex.now shown.form.at_or_above shown.form.below_apex.0 in
    let holds = c.is_at_or_below.ensures.at_or_below.1 within in let fails = c.if-not-is_at_or_below.true in cc

pub returns-then-not-lies_below : goal.returns-then-not-lies_below
returns-then-not-lies_below c = λ shown.
    let longer = below_length (rightmost c.args.name.now c.args.labels) c.args.apex.now shown.form.below_apex in
    let count = rightmost_length c.args.name.now c.args.labels shown.fits in
    let holds = c.lies_below.ensures.1 (omega (arith, longer, count), shown.fits) in let fails = c.if-not-lies_below.true in cc

pub returns-in_default : goal.returns-in_default
returns-in_default c = λ shown. c.in_default.ensures c.args.apex.now shown.form.types.0 shown.form.types.1

pub returns : goal.returns
returns c =
    let between = c.lies_below.ensures.0 c.if-not-lies_below.false in
    delegation c.in-Some.delegation
    (delegation_shown c.args.apex.now c.args.name.now c.args.records.now c.args.labels c.in-Some.delegation
    (c.is_at_or_below.ensures.at_or_below.0 c.if-not-is_at_or_below.false) between.0 between.1
    (c.in-Some.ensures c.args.apex.now))
