use Rattle.std.proofs.Common.{◌≡◌, List, ℕ, take, map}
use Rattle.std.specs.Str.{bytes_eq}
use Rattle.std.specs.List.{list_any}
use Rattle.dnsv_canonical.specs.Rrsets.{first_appearances}
use Rattle.dnsv_canonical.proofs.ByRrsetLemmas.{is_seen}
use Rattle.dnsv_canonical.proofs.by_rrset.each_once.Given as goal

-- what was there so far, of equal RDATA the first; and that it is what was seen
abbrev pub invariant-loop-rdata : goal.invariant-loop-rdata
invariant-loop-rdata l =
    (map (λ r. r.now) l.first_ones.items ≡ first_appearances bytes_eq (map (λ r. r.now) (take l.rdata-index l.rdata-items)))
    × ((octets : List ℕ) → is_seen l.seen octets ≡ list_any (λ y. bytes_eq y octets) (map (λ r. r.now) (take l.rdata-index l.rdata-items)))
