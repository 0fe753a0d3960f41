use Rattle.dnsv_zone_faults.proofs.lemmas.zones.HolderLemmas.{key_is}
use Rattle.dnsv_zone_faults.proofs.zone.holders.zone_key.Goals as goal

pub returns : goal.returns
returns c = λ dnskeys are.
    key_is dnskeys c.args.holdings.now c.of_key-own.result.now c.args.place are c.of_key-own.ensures _ c.has_trusted.ensures c.in_ok-holders_of.ensures
