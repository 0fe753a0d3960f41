use Rattle.dnsv_zone_keys.proofs.lemmas.ZoneKeyLemmas.{dnskey_number, stand_next}
use Rattle.dnsv_zone_keys.proofs.keys.standing.standing_keys.Goals as goal

pub add_records-requires : goal.add_records-requires
add_records-requires c =
    dnskey_number c.args.capture.now.rrsets c.args.zone.now c.at-number-items.result.now c.loop-number.number-index 0 c.at-number-items.ensures
    c.loop-number-test.true

pub loop-number-preserved : goal.loop-number-preserved
loop-number-preserved c =
    let adds = c.in_ok-add_records.ensures in (
      stand_next c.args.capture.now.rrsets c.at-number-items.result.now c.loop-number.number-index 0 c.loop-number.standing.items
          c.add_records.new.standing.items c.loop-number-test.true c.loop-number.invariant.0 adds,
      adds.read c.loop-number.invariant.1,
    )
