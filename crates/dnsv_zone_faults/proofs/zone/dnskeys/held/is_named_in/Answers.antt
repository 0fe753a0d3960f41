use Rattle.std.proofs.Common.{ℕ, subst}
use Rattle.dnsv_zone_faults.specs.Dnskeys.DnskeySearch.{basis_of_set}
use Rattle.dnsv_zone_faults.specs.Dnskeys.OwnSearch.{AreTagged}
use Rattle.dnsv_zone_faults.proofs.lemmas.zones.OwnLemmas.{named_in}
use Rattle.dnsv_zone_faults.proofs.zone.dnskeys.held.is_named_in.Goals as goal

pub returns : goal.returns
returns c =
    let set = c.args.set.now in
    let are = c.requires in
    let same = named_in (basis_of_set set) set.keyed.now.zone.now set.number set.rrset.now set.keys.items are.keys set.own are.own c.args.key.now c.tagged.result.now
    (subst (λ (tag : ℕ). AreTagged set.own tag c.tagged.result.now) c.key_tag.ensures c.tagged.ensures) in
    (λ yes. same.0 (c.has_naming.ensures.0 yes), λ is. c.has_naming.ensures.1 (same.1 is))
