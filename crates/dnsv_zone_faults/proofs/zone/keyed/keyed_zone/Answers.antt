use Rattle.std.proofs.Common.{List, refl, subst}
use Rattle.dnsv_canonical.specs.Rrsets.{ReceivedRrset}
use Rattle.dnsv_chain.specs.Basis.{basis_by}
use Rattle.dnsv_zone_keys.specs.Keys.ZoneSearch.{AreKeysOf}
use Rattle.dnsv_zone_faults.proofs.lemmas.zones.KeyedLemmas.{keyed_is}
use Rattle.dnsv_zone_faults.proofs.lemmas.zones.TrustLemmas.{are_vouched}
use Rattle.dnsv_zone_faults.proofs.zone.keyed.keyed_zone.Goals as goal

pub returns : goal.returns
returns c =
    let are = subst (λ (rrsets : List ReceivedRrset). AreKeysOf rrsets c.args.zone.now c.in_ok-keys.keys.items) c.capture.ensures c.in_ok-keys.ensures in record {
      facts = refl;
      zone = refl;
      are = keyed_is _ c.in_ok-keys.keys.items are c.put_in_order.ensures.moved c.put_in_order.ensures.sorted
          (are_vouched (basis_by c.args.facts.now) c.args.zone.now c.args.anchors.now c.args.ds.now c.in_ok-vouched_places.field-0 c.requires.anchors c.requires.ds
          c.in_ok-vouched_places.ensures);
    }
