use Rattle.std.proofs.Common.{map}
use Rattle.dnsv_chain.proofs.KeptLemmas.{zones_found}
use Rattle.dnsv_chain.proofs.trust.Trust.of.Goals as goal

pub returns : goal.returns
returns c = record {
  keys_are = λ zone. zones_found c.args.keys.now.entries (map (λ each. (each.zone, each.keys.items)) c.in_ok-keys_of_zones.field-0.items) zone c.in_ok-keys_of_zones.ensures;
  signed_are = c.in_ok-good_numbers_of_each.ensures;
}
