use Rattle.std.proofs.Common.{sym}
use Rattle.dnsv_derivations.specs.Explained.{setting_in}
use Rattle.dnsv_keys_in_question.specs.KeyLines.{IsKeyLine}
use Rattle.dnsv_keys_in_question.proofs.lemmas.ListingLemmas.{all_added, next_added}
use Rattle.dnsv_keys_in_question.proofs.keys.add_keys.Goals as goal

pub add_key-requires-clause-stands : goal.add_key-requires-clause-stands
add_key-requires-clause-stands c =
    c.requires.in_order.each c.index-keys-place.result (c.loop-place.place, c.loop-place-test.true, sym c.index-keys-place.is)

pub loop-place-preserved : goal.loop-place-preserved
loop-place-preserved c =
    next_added (IsKeyLine (setting_in c.args.evidence.now) c.args.number c.args.set.now) c.args.keys.now c.loop-place.place
    c.index-keys-place.result c.index-keys-place.result _ _ _ c.loop-place-test.true c.index-keys-place.is c.loop-place.invariant c.in_ok-add_key.ensures

pub returns : goal.returns
returns c =
    all_added (IsKeyLine (setting_in c.args.evidence.now) c.args.number c.args.set.now) c.args.keys.now c.loop-place.place _ _
    c.loop-place-test.false c.loop-place.invariant
