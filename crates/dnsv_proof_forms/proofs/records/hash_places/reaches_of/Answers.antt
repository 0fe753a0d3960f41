use Rattle.std.proofs.Common.{refl, length, arith}
use Rattle.std.proofs.lemmas.Option.{slice_get_read}
use Rattle.dnsv_proof_forms.proofs.lemmas.records.HashPlaceLemmas.{all_reaches, no_reaches, reach_more}
use Rattle.dnsv_proof_forms.proofs.records.hash_places.reaches_of.Goals as goal

pub loop-each-init : goal.loop-each-init
loop-each-init c = rw c.new-reaches.ensures.items (no_reaches c.args.places.now c.new-reach.result)

pub loop-each-preserved : goal.loop-each-preserved
loop-each-preserved c = rw c.in_ok-push.ensures.items
    (reach_more c.args.places.now c.loop-each.each-index c.loop-each.reach c.loop-each.reaches.items c.each-item.result c.farther-reach.result
    (slice_get_read c.args.places.now (length c.args.places.now) c.loop-each.each-index c.each-item.result refl c.loop-each-test.true c.each-item.is)
    c.farther-reach.ensures.one c.farther-reach.ensures.other c.loop-each.invariant)

pub returns : goal.returns
returns c = all_reaches c.args.places.now c.loop-each.each-index c.loop-each.reach c.loop-each.reaches.items (omega (arith, c.loop-each-test.false, c.loop-each.auto.each-index-end)) c.loop-each.invariant
