use Rattle.dnsv_zone_keys.proofs.lemmas.IndexLemmas.{all_indexed, as_many, more_indexed, numbered_at}
use Rattle.dnsv_zone_keys.proofs.keys.index.placed_keys.Goals as goal

pub loop-place-preserved : goal.loop-place-preserved
loop-place-preserved c =
    more_indexed c.args.capture.now.rrsets c.loop-place.place c.rrset-item.result _ _
    (numbered_at c.args.capture.now.rrsets c.rrsets-rrset-items.result.now c.loop-place.place c.rrset-item.result c.rrsets-rrset-items.ensures.value
    c.loop-place-test.true c.rrset-item.is)
    c.loop-place.invariant c.in_ok-add_zone.ensures

pub returns : goal.returns
returns c =
    all_indexed c.args.capture.now.rrsets c.loop-place.place c.loop-place.keys.items
    (as_many c.args.capture.now.rrsets c.rrsets-rrset-items.result.now c.loop-place.place c.rrsets-rrset-items.ensures.value c.loop-place-test.false)
    c.loop-place.invariant
