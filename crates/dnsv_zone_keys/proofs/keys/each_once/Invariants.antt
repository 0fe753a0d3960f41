use Rattle.std.proofs.Common.{◌≡◌, ℕ, List, map, take}
use Rattle.std.specs.List.{AllByRecursion, enumerate_from, list_any}
use Rattle.std.specs.Str.{bytes_eq}
use Rattle.dnsv_canonical.specs.Rrsets.{first_appearances}
use Rattle.dnsv_zone_keys.specs.Keys.ZoneSearch.{IsOf}
use Rattle.dnsv_canonical.proofs.ByRrsetLemmas.{is_seen}
use Rattle.dnsv_zone_keys.proofs.lemmas.OnceLemmas.{pair}
use Rattle.dnsv_zone_keys.proofs.keys.each_once.Given as goal

-- those so far, of equal RDATA the first; and that it is what was seen
abbrev pub invariant-loop-each : goal.invariant-loop-each
invariant-loop-each l =
    (map pair l.keys.items ≡ enumerate_from 0 (first_appearances bytes_eq (map (λ each. each.rdata.now) (take l.each-index l.standing))))
    × ((octets : List ℕ) → is_seen l.seen octets ≡ list_any (λ y. bytes_eq y octets) (map (λ each. each.rdata.now) (take l.each-index l.standing)))
    × AllByRecursion (IsOf l.owner) l.keys.items
