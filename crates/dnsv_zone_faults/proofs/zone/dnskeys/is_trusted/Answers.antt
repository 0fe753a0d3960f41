use Rattle.std.proofs.Common.{List, sym, subst}
use Rattle.dnsv_zone_faults.specs.Dnskeys.DnskeySearch.{HasTrusting, basis_of_set}
use Rattle.dnsv_zone_keys.specs.Keys.Index.{Placed}
use Rattle.dnsv_zone_faults.proofs.lemmas.zones.OwnLemmas.{trusted_is}
use Rattle.dnsv_zone_faults.proofs.lemmas.zones.TrustLemmas.{numbered_among}
use Rattle.dnsv_zone_faults.proofs.zone.dnskeys.is_trusted.Goals as goal

pub returns : goal.returns
returns c =
    let set = c.args.set.now in
    let are = c.requires in
    let Has : List Placed → Type 0 = λ keys. HasTrusting set.keyed.now.vouched set.own keys in
    let same = trusted_is (basis_of_set set) set.keyed.now.zone.now set.number set.rrset.now set.keys.items are.keys set.own are.own set.keyed.now.vouched
    are.keyed.vouched (numbered_among set.keyed.now.facts.now.rrsets set.number set.rrset.now are.is.numbered) in
    (λ yes. same.0 (subst Has c.deref.ensures.value (c.has_trusting.ensures.0 yes)), λ is. c.has_trusting.ensures.1 (subst Has (sym c.deref.ensures.value) (same.1 is)))
