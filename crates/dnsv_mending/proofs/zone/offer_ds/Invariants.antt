use Rattle.std.proofs.Common.{◌≡◌, drop, map}
use Rattle.std.specs.Option.{option_map}
use Rattle.dnsv_mending.specs.Keys.{seen_signing}
use Rattle.dnsv_mending.specs.Mend.{cheapest_from, seen}
use Rattle.dnsv_mending.specs.Zone.{ds_ways}
use Rattle.dnsv_mending.proofs.zone.offer_ds.Given as goal

-- those that are left, after what was offered
abbrev pub invariant-loop-place : goal.invariant-loop-place
invariant-loop-place l = cheapest_from (option_map seen l.best) (ds_ways (map seen_signing l.keys) (map (option_map seen) l.chains) l.place (drop l.place l.ds))
    ≡ cheapest_from (option_map seen l.fn.best) (ds_ways (map seen_signing l.keys) (map (option_map seen) l.chains) 0 l.ds)
