use Rattle.std.proofs.Common.{◌+◌, subst}
use Rattle.dnsv_derivations.specs.Explained.{setting_in}
use Rattle.dnsv_keys_in_question.specs.KeyLines.{IsLowestOf, IsMatchedByDs}
use Rattle.dnsv_derivations.specs.derivations.Ways.{record_at}
use Rattle.dnsv_derivations.proofs.lemmas.NumberedLemmas.{all_passed, numbered_at}
use Rattle.dnsv_keys_in_question.proofs.lemmas.ShownKeyLemmas.{ds_lowest, no_ds_at_all, no_ds_first, no_ds_next}
use Rattle.dnsv_keys_in_question.proofs.keys.lowest_ds.Goals as goal

pub loop-before-init : goal.loop-before-init
loop-before-init c = no_ds_first (setting_in c.args.evidence.now) c.args.key.now

pub lowest_match-requires : goal.lowest_match-requires
lowest_match-requires c =
    numbered_at c.args.evidence.now.rrsets c.rrsets-ds-items.result.now c.loop-before.before c.ds-item.result c.rrsets-ds-items.ensures
    c.loop-before-test.true c.ds-item.is

pub returns-in-Some : goal.returns-in-Some
returns-in-Some c =
    ds_lowest (setting_in c.args.evidence.now) c.args.key.now c.loop-before.before c.in-Some.place
    (subst (IsLowestOf (λ place. IsMatchedByDs (setting_in c.args.evidence.now) c.args.key.now (record_at (c.loop-before.before + 1) place))) c.in-Some.is c.in_ok-place.ensures)
    c.loop-before.invariant

pub loop-before-preserved : goal.loop-before-preserved
loop-before-preserved c =
    no_ds_next (setting_in c.args.evidence.now) c.args.key.now c.loop-before.before
    (subst (IsLowestOf (λ place. IsMatchedByDs (setting_in c.args.evidence.now) c.args.key.now (record_at (c.loop-before.before + 1) place))) c.in_default.is c.in_ok-place.ensures)
    c.loop-before.invariant

pub returns : goal.returns
returns c =
    no_ds_at_all (setting_in c.args.evidence.now) c.args.key.now c.loop-before.before
    (all_passed c.args.evidence.now.rrsets c.rrsets-ds-items.result.now c.loop-before.before c.rrsets-ds-items.ensures
    c.loop-before-test.false)
    c.loop-before.invariant
