use Rattle.std.proofs.Common.{subst}
use Rattle.dnsv_names.specs.Name.{Labels}
use Rattle.dnsv_zone_keys.specs.Keys.ZoneSearch.{AreKeysOf}
use Rattle.dnsv_zone_keys.proofs.lemmas.IndexLemmas.{adds_keys}
use Rattle.dnsv_zone_keys.proofs.keys.index.add_zone.Goals as goal

pub returns : goal.returns
returns c =
    adds_keys c.args.capture.now.rrsets c.args.number c.args.rrset.now c.args.keys.now.items c.in_ok-own.own.items c.append.new.self.items
    (subst (λ (owner : Labels). AreKeysOf c.args.capture.now.rrsets owner c.in_ok-own.own.items) c.owner.ensures c.in_ok-own.ensures)
    c.in_ok-append.ensures.items
