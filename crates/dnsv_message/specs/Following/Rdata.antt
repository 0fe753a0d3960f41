-- RDATA read by following octets from a place on: how an `RdataRef` is seen. No public clause cites this module.
use Rattle.std.specs.Prelude.{ℕ, zero, suc, ◌+◌, ◌-◌, ◌≤◌, Bool, true, false, nat_lt, List, ◌++◌, length, get_or}
use Rattle.dnsv_names.specs.Name.{wire}
use Rattle.dnsv_names.specs.Octets.{AreOctets}
use Rattle.dnsv_message.specs.declared.rdata.Layout.{Layout}
use Rattle.dnsv_message.specs.Following.{labels_at}
use Rattle.dnsv_message.specs.Grammar.{RdataAt, part_of}

-- what stands behind a label of that size and those after it, or behind the pointer at the place
abbrev pub end_behind : (ℕ → ℕ) → ℕ → ℕ → Bool → ℕ
end_behind rest place size true = rest (place + (1 + size))
end_behind rest place size false = place + 2

abbrev pub end_by_octet : (ℕ → ℕ) → ℕ → ℕ → ℕ
end_by_octet rest place zero = place + 1
end_by_octet rest place (suc more) = end_behind rest place (suc more) (nat_lt (suc more) 64)

-- where the name at a place ends, as far as so many steps find it
unfoldable pub end_from : ℕ → List ℕ → ℕ → ℕ
end_from zero octets place = place
end_from (suc steps) octets place = end_by_octet (end_from steps octets) place (get_or octets place 0)

abbrev pub end_at : List ℕ → ℕ → ℕ
end_at octets place = end_from 160 octets place

-- so many names from the place on, written out, and the octets from there to the limit
abbrev pub written_at : ℕ → List ℕ → ℕ → ℕ → List ℕ
written_at zero octets place limit = part_of octets place (limit - place)
written_at (suc count) octets place limit = wire (labels_at octets place) ++ written_at count octets (end_at octets place) limit

-- the RDATA of that layout at a place, its names written out
unfoldable pub rdata_from : List ℕ → Layout → ℕ → ℕ → List ℕ
rdata_from octets layout start size =
    part_of octets start layout.head ++ written_at layout.names octets (start + layout.head) (start + size)

-- an RDATA of that layout stands at the place
pub record RdataStandsAt (octets : List ℕ) (layout : Layout) (start size : ℕ) : Type 0 where
  pub fit : AreOctets octets
  pub within : start + size ≤ length octets
  pub rdata : RdataAt octets layout start size (rdata_from octets layout start size)
