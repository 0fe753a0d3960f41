use Rattle.std.proofs.Common.{◌<◌, List, get_or, length, ap, ◌∙◌, subst}
use Rattle.dnsv_canonical.specs.Rrsets.{ReceivedRrset}
use Rattle.dnsv_derivations.specs.Explained.{setting_in}
use Rattle.dnsv_keys_in_question.specs.KeyLines.{AreLinesOfSet}
use Rattle.dnsv_derivations.proofs.lemmas.NumberedLemmas.{all_passed, numbered_at}
use Rattle.dnsv_keys_in_question.proofs.lemmas.ListingLemmas.{all_added, next_added}
use Rattle.dnsv_keys_in_question.proofs.keys.add_keys_in_question.Goals as goal

pub add_set-requires : goal.add_set-requires
add_set-requires c =
    numbered_at c.args.evidence.now.rrsets c.rrsets-set-items.result.now c.loop-place.place c.set-item.result c.rrsets-set-items.ensures
    c.loop-place-test.true c.set-item.is

pub loop-place-preserved : goal.loop-place-preserved
loop-place-preserved c =
    let Within : List ReceivedRrset → Type 0 = λ each. c.loop-place.place < length each in
    next_added (AreLinesOfSet (setting_in c.args.evidence.now) c.args.reasons.now) c.args.evidence.now.rrsets c.loop-place.place
    c.set-item.result c.set-item.result _ _ _ (subst Within c.rrsets-set-items.ensures c.loop-place-test.true)
    (c.set-item.is ∙ ap (λ (each : List ReceivedRrset). get_or each c.loop-place.place c.set-item.result) c.rrsets-set-items.ensures)
    c.loop-place.invariant c.in_ok-add_set.ensures

pub returns : goal.returns
returns c =
    all_added (AreLinesOfSet (setting_in c.args.evidence.now) c.args.reasons.now) c.args.evidence.now.rrsets c.loop-place.place _ _
    (all_passed c.args.evidence.now.rrsets c.rrsets-set-items.result.now c.loop-place.place c.rrsets-set-items.ensures
    c.loop-place-test.false)
    c.loop-place.invariant
