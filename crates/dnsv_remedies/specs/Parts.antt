-- A part of a proof: that one of the RRsets of some records is signed by a zone that is taken as trusted.
use Rattle.std.specs.Prelude.{ℕ, List, [], Option, Some, None, flat_map, slice_get}
use Rattle.dnsv_mending.specs.Level.{Leveled}
use Rattle.dnsv_mending.specs.Mend.{Mended, cheapest, ways_of}
use Rattle.dnsv_mending.specs.Within.{within_ways}
use Rattle.dnsv_mending.specs.declared.facts.signature.RrsetFacts.{RrsetFacts}
use Rattle.dnsv_mending.specs.declared.price.Class.TheVariants as class
use Rattle.dnsv_remedies.specs.Remedy.{Remedied, missing, whole}
use Rattle.dnsv_remedies.specs.declared.said.Said.{Said}

-- that the RRset is signed by the zone with so many labels
unfoldable pub within_kept : List Leveled → ℕ → RrsetFacts → List Mended
within_kept levels zone r = ways_of (cheapest (within_ways levels zone r))

-- what has to be mended, or else what is missing
abbrev pub or_missing : Option Mended → Remedied → Remedied
or_missing None absent = absent
or_missing (Some m) absent = whole m

-- The part that records give by their RRsets: the cheapest of these. Where there are none it is missing, which the lines tell.
abbrev pub part : List Leveled → ℕ → List RrsetFacts → List Said → Remedied
part levels zone rrsets lines = or_missing (cheapest (flat_map (within_kept levels zone) rrsets)) (missing class.Lacking lines)

-- the part that one record gives
abbrev pub part_of_one : List Leveled → ℕ → RrsetFacts → Remedied
part_of_one levels zone r = or_missing (cheapest (within_ways levels zone r)) (missing class.Lacking [])

-- that the zone with so many labels is trusted
abbrev pub zone_of : Option Leveled → Option Mended
zone_of None = None
zone_of (Some level) = level.zone

abbrev pub zone_kept : List Leveled → ℕ → Option Mended
zone_kept levels labels = zone_of (slice_get levels labels)
