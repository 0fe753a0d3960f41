use Rattle.dnsv_zone_faults.proofs.lemmas.zones.TrustLemmas.{matched_are}
use Rattle.dnsv_zone_faults.proofs.zone.vouched.vouched_places.Goals as goal

pub returns : goal.returns
returns c =
    matched_are c.args.anchors.now c.args.ds.now c.new-places.result.items c.add_matches.new.places.items c.add_all_of_ds.new.places.items c.of.result
    c.new-places.ensures.items c.in_ok-add_matches.ensures c.in_ok-add_all_of_ds.ensures c.of.ensures.members
