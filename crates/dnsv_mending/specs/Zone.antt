-- The ways on which a zone is trusted: by a DNSKEY RRset of it, that by an anchor or a DS record at the zone, and a DS record
-- by the zones above.
use Rattle.std.specs.Prelude.{ℕ, ◌+◌, List, [], ◌∷◌, ◌++◌, ◌&&◌, ◌||◌, Option, Some, None, Bool, if◌then◌else◌, map, length, flat_map, slice_get}
use Rattle.std.specs.List.{list_any}
use Rattle.std.specs.Option.{option_map}
use Rattle.dnsv_lines.specs.declared.line.fault.zone.WhyZone.TheVariants as why
use Rattle.dnsv_mending.specs.Keys.{Signing, fits, group_ways, signings}
use Rattle.dnsv_mending.specs.Level.{Held, Leveled, zone_above}
use Rattle.dnsv_mending.specs.Mend.{Mended, after, cheapest, fault, is_none, joined, nothing, seen, ways_of}
use Rattle.dnsv_mending.specs.Rrset.{rrset_ways}
use Rattle.dnsv_mending.specs.declared.facts.keys.DnskeyFacts.{DnskeyFacts}
use Rattle.dnsv_mending.specs.declared.facts.keys.VoucherFacts.{VoucherFacts}
use Rattle.dnsv_mending.specs.declared.facts.zone.DsFacts.{DsFacts}
use Rattle.dnsv_mending.specs.declared.facts.zone.ZoneFacts.{ZoneFacts}
use Rattle.dnsv_mending.specs.declared.facts.zone.ZoneKey.{ZoneKey}
use Rattle.dnsv_mending.specs.declared.told.Told.{Told}
use Rattle.dnsv_mending.specs.declared.zone.ZoneStanding.{ZoneStanding}
use Rattle.dnsv_mending.specs.declared.told.Told.TheVariants as told

-- what a zone stands on: how many labels it has; whether an anchor is at or above the name that is asked for; what leads into
-- the zone; and of each DS RRset of it that it is signed
pub record Standing : Type 0 where
  pub labels : ℕ
  pub is_anchored : Bool
  pub lead : Option Mended
  pub chains : List (Option Mended)

abbrev pub seen_standing : ZoneStanding → Standing
seen_standing s = record { labels = s.labels; is_anchored = s.is_anchored; lead = option_map seen s.lead; chains = map (option_map seen) s.chains.items }

-- No anchor is at or above the zone. Where there is none at or above the name that is asked for either, that is told once.
abbrev pub unanchored : Standing → Mended
unanchored s = if s.is_anchored then fault (told.Zone why.NoAnchor s.labels) else nothing

-- that each DS RRset is signed
unfoldable pub chain_of : List Leveled → DsFacts → Option Mended
chain_of levels ds = cheapest (rrset_ways levels (zone_above levels) ds.rrset)

abbrev pub chains_of : List Leveled → ZoneFacts → List (Option Mended)
chains_of levels z = map (chain_of levels) z.ds.items

abbrev pub has_none : ZoneFacts → Bool
has_none z = is_none z.anchors.items && is_none z.ds.items

unfoldable pub anchor_ways : VoucherFacts → List Mended
anchor_ways v = nothing ∷ []

-- what is kept
unfoldable pub kept_ways : Option Mended → List Mended
kept_ways kept = ways_of kept

-- what leads into the zone: an anchor, or a signed DS RRset; where it has neither, the zone above
abbrev pub lead_ways : ℕ → List Leveled → ZoneFacts → List (Option Mended) → List Mended
lead_ways n levels z chains = if has_none z
    then after (zone_above levels) (fault (told.Zone why.DsMissing n))
    else flat_map anchor_ways z.anchors.items ++ flat_map kept_ways chains

-- an anchor or a DS record fits a key in the RRset
abbrev pub is_fitted : List VoucherFacts → List Signing → Bool
is_fitted vouchers keys = list_any (λ v. list_any (fits v) keys) vouchers

abbrev pub is_vouched : ZoneFacts → List Signing → Bool
is_vouched z keys = is_fitted z.anchors.items keys || list_any (λ ds. is_fitted ds.records.items keys) z.ds.items

-- what is kept at the place
abbrev pub kept_at : Option (Option Mended) → Option Mended
kept_at None = None
kept_at (Some kept) = kept

abbrev pub mend_at : List (Option Mended) → ℕ → Option Mended
mend_at chains place = kept_at (slice_get chains place)

-- by the records of each DS RRset, from the place on: it stands on the chain with its place
abbrev pub ds_ways : List Signing → List (Option Mended) → ℕ → List DsFacts → List Mended
ds_ways keys chains place [] = []
ds_ways keys chains place (ds ∷ dss) = group_ways (mend_at chains place) keys ds.records.items ++ ds_ways keys chains (place + 1) dss

-- by a key in it, where no anchor and no DS record fits one
unfoldable pub unvouched_ways : Option Mended → Option Told → Signing → List Mended
unvouched_ways lead why k = joined lead why k.mend

abbrev pub not_vouched : ZoneFacts → DnskeyFacts → Option Told
not_vouched z r = if has_none z then None else Some (told.NotVouched r.number)

abbrev pub anchored_ways : Standing → ZoneFacts → DnskeyFacts → List Signing → List Mended
anchored_ways s z r keys = if is_vouched z keys
    then group_ways (Some nothing) keys z.anchors.items ++ ds_ways keys s.chains 0 z.ds.items
    else flat_map (unvouched_ways s.lead (not_vouched z r)) keys

-- a DNSKEY RRset of the zone
abbrev pub dnskey_ways : Standing → ZoneFacts → DnskeyFacts → List Mended
dnskey_ways s z r = if r.is_trusted then nothing ∷ []
    else (if z.is_anchored then anchored_ways s z r (signings r) else unanchored s ∷ [])

unfoldable pub dnskey_mend : Standing → ZoneFacts → DnskeyFacts → Option Mended
dnskey_mend s z r = cheapest (dnskey_ways s z r)

-- the zone, by one of its DNSKEY RRsets
abbrev pub is_zone_trusted : ZoneFacts → Bool
is_zone_trusted z = list_any (λ r. r.is_trusted) z.dnskeys.items

abbrev pub anchored_zone_ways : Standing → ZoneFacts → List (Option Mended) → List Mended
anchored_zone_ways s z sets = if is_none z.dnskeys.items then after s.lead (fault (told.Zone why.DnskeyMissing s.labels))
    else flat_map kept_ways sets

abbrev pub zone_ways : Standing → ZoneFacts → List (Option Mended) → List Mended
zone_ways s z sets = if is_zone_trusted z then nothing ∷ []
    else (if z.is_anchored then anchored_zone_ways s z sets else unanchored s ∷ [])

-- a key of the zone, by the RRsets that hold it
unfoldable pub holder_ways : List (Option Mended) → ℕ → List Mended
holder_ways sets place = ways_of (mend_at sets place)

unfoldable pub held : List (Option Mended) → ZoneKey → Held
held sets k = record { is_trusted = k.is_trusted; mend = cheapest (flat_map (holder_ways sets) k.holders.items) }

-- what is kept of the zone, by what is kept of those above it
abbrev pub level_of_sets : Standing → ZoneFacts → List (Option Mended) → Leveled
level_of_sets s z sets = record {
  zone = cheapest (zone_ways s z sets);
  is_trusted = is_zone_trusted z;
  leads = z.is_known && z.is_anchored;
  keys = map (held sets) z.keys.items;
}

abbrev pub level_of : Standing → ZoneFacts → Leveled
level_of s z = level_of_sets s z (map (dnskey_mend s z) z.dnskeys.items)

abbrev pub standing_by : Bool → List Leveled → ZoneFacts → List (Option Mended) → Standing
standing_by is_anchored levels z chains = record {
  labels = length levels;
  is_anchored = is_anchored;
  lead = cheapest (lead_ways (length levels) levels z chains);
  chains = chains;
}

abbrev pub standing_of : Bool → List Leveled → ZoneFacts → Standing
standing_of is_anchored levels z = standing_by is_anchored levels z (chains_of levels z)

unfoldable pub level_over : Bool → List Leveled → ZoneFacts → Leveled
level_over is_anchored levels z = level_of (standing_of is_anchored levels z) z

-- the zones from the root down, each over those above it
abbrev pub levels_from : Bool → List Leveled → List ZoneFacts → List Leveled
levels_from is_anchored levels [] = levels
levels_from is_anchored levels (z ∷ zs) = levels_from is_anchored (levels ++ level_over is_anchored levels z ∷ []) zs

-- those of the zones
abbrev pub levels_of : Bool → List ZoneFacts → List Leveled
levels_of is_anchored zones = levels_from is_anchored [] zones
