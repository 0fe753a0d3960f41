-- The names above the one that is asked for that own DNAME RRsets, of which nothing is made (RFC 6672).
use Rattle.std.specs.Prelude.{ℕ, List, [], ◌∷◌, length}
use Rattle.std.specs.List.{flat_map, range_with_len}
use Rattle.dnsv_names.specs.Name.{Labels, rightmost}
use Rattle.dnsv_zones.specs.zones.TypeNumbers.{dname}
use Rattle.dnsv_canonical.specs.Index.{numbers_at}
use Rattle.dnsv_canonical.specs.Rrsets.{ReceivedRrset}
use Rattle.dnsv_remedies.specs.declared.facts.question.DnameFacts.{DnameFacts}

-- the lowest of the RRsets with these numbers, at the name with so many labels; none, where there is none
abbrev pub lowest : ℕ → List ℕ → List DnameFacts
lowest labels [] = []
lowest labels (number ∷ numbers) = record { labels = labels; rrset = number } ∷ []

-- of the DNAME RRsets of the name's so many rightmost labels
unfoldable pub dname_at : List ReceivedRrset → Labels → ℕ → List DnameFacts
dname_at rrsets name labels = lowest labels (numbers_at rrsets (rightmost name labels) dname)

-- of those of each name above it, from the root down
abbrev pub dnames_above : List ReceivedRrset → Labels → List DnameFacts
dnames_above rrsets name = flat_map (dname_at rrsets name) (range_with_len 0 (length name))
