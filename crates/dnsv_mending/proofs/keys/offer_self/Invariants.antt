use Rattle.std.proofs.Common.{◌≡◌, drop, flat_map}
use Rattle.std.specs.Option.{option_map}
use Rattle.dnsv_mending.specs.Keys.{self_way}
use Rattle.dnsv_mending.specs.Mend.{cheapest_from, seen}
use Rattle.dnsv_mending.proofs.keys.offer_self.Given as goal

-- those that are left, after what was offered
abbrev pub invariant-loop-signature : goal.invariant-loop-signature
invariant-loop-signature l = cheapest_from (option_map seen l.best) (flat_map (self_way l.key) (drop l.signature-index l.signatures))
    ≡ cheapest_from (option_map seen l.fn.best) (flat_map (self_way l.key) l.signatures)
