-- When what is said of a zone is so.
use Rattle.dnsv_names.specs.Name.{Labels}
use Rattle.dnsv_faults.specs.KnownZones.{HasOwnAnchor, HasRrset}
use Rattle.dnsv_lines.specs.declared.line.fault.zone.WhyZone.{WhyZone}
use Rattle.dnsv_lines.specs.declared.line.fault.zone.WhyZone.TheVariants as why
use Rattle.dnsv_chain.specs.Basis.{Basis, HasAnchor}

-- true exactly where
abbrev pub IsZoneTrue : Basis → Labels → WhyZone → Type 0
-- no trust anchor is at or above it
IsZoneTrue basis zone why.NoAnchor = ¬ HasAnchor basis.anchors zone
-- no DNSKEY RRset is at it
IsZoneTrue basis zone why.DnskeyMissing = ¬ HasRrset basis.rrsets zone 48
-- neither a trust anchor nor a DS RRset is at it
IsZoneTrue basis zone why.DsMissing = (¬ HasOwnAnchor basis.anchors zone) × (¬ HasRrset basis.rrsets zone 43)
