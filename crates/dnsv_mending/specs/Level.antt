-- What is kept of a zone, for all that stands on it.
use Rattle.std.specs.Prelude.{List, [], ◌∷◌, Option, Some, Bool, if◌then◌else◌, map}
use Rattle.std.specs.Option.{option_map}
use Rattle.dnsv_mending.specs.Mend.{Mended, nothing, seen}
use Rattle.dnsv_mending.specs.declared.level.HeldMend.{HeldMend}
use Rattle.dnsv_mending.specs.declared.level.Level.{Level}

-- of a key: whether a trusted RRset holds it, and the least that has to be mended so that one is trusted
pub record Held : Type 0 where
  pub is_trusted : Bool
  pub mend : Option Mended

-- of a zone: the least that has to be mended so that a DNSKEY RRset of it is trusted; whether one is; whether it is a known
-- zone with an anchor at or above it; and its keys
pub record Leveled : Type 0 where
  pub zone : Option Mended
  pub is_trusted : Bool
  pub leads : Bool
  pub keys : List Held

abbrev pub seen_key : HeldMend → Held
seen_key k = record { is_trusted = k.is_trusted; mend = option_map seen k.mend }

abbrev pub seen_level : Level → Leveled
seen_level l = record { zone = option_map seen l.zone; is_trusted = l.is_trusted; leads = l.leads; keys = map seen_key l.keys.items }

-- the zone above, of those from the root down: the last known one that has an anchor at or above it, or else nothing
abbrev pub above_from : Option Mended → List Leveled → Option Mended
above_from above [] = above
above_from above (level ∷ levels) = above_from (if level.leads then level.zone else above) levels

abbrev pub zone_above : List Leveled → Option Mended
zone_above levels = above_from (Some nothing) levels
