use Rattle.std.proofs.Common.{List, refl, subst}
use Rattle.dnsv_zone_faults.specs.Dnskeys.DnskeySearch.{AreOwn, basis_in}
use Rattle.dnsv_zone_keys.specs.Keys.Index.{Placed}
use Rattle.dnsv_zone_faults.proofs.zone.dnskeys.set.keyed_set.Goals as goal

pub returns : goal.returns
returns c = record {
  keyed = refl;
  number = refl;
  rrset = refl;
  is = record {
    keyed = c.requires.keyed;
    is = c.requires.set;
    keys = c.in_ok-keys.ensures;
    own = subst (λ (keys : List Placed). AreOwn (basis_in c.args.keyed.now) c.args.rrset.now keys c.in_ok-own.own) c.deref.ensures.value c.in_ok-own.ensures;
  };
}
