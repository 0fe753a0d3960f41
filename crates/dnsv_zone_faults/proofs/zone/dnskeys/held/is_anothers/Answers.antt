use Rattle.dnsv_zone_faults.proofs.lemmas.zones.OwnLemmas.{others_are}
use Rattle.dnsv_zone_faults.specs.Dnskeys.DnskeySearch.{basis_of_set}
use Rattle.dnsv_zone_faults.proofs.zone.dnskeys.held.is_anothers.Goals as goal

pub returns : goal.returns
returns c =
    let set = c.args.set.now in
    let are = c.requires.set in
    let same = others_are (basis_of_set set) set.keyed.now.zone.now set.number set.rrset.now set.keys.items are.keys set.own are.own c.args.placed.now
    c.args.own.now c.requires.among c.requires.own in
    (λ yes. same.0 (rw c.place.ensures at (c.has_other.ensures.0 yes)), λ is. c.has_other.ensures.1 (rw c.place.ensures (same.1 is)))
