-- The ways on which a name at or above the one that is asked for is an unsigned delegation (RFC 4035 5.2, RFC 5155 8.9).
use Rattle.std.specs.Prelude.{ℕ, List, [], ◌∷◌, ◌||◌, Option, Some, None, Bool, false, not, if◌then◌else◌, flat_map}
use Rattle.std.specs.List.{list_any}
use Rattle.dnsv_lines.specs.declared.line.denial.Role.TheVariants as role
use Rattle.dnsv_lines.specs.declared.line.fault.denial.WhySource.TheVariants as why
use Rattle.dnsv_mending.specs.Level.{Leveled}
use Rattle.dnsv_mending.specs.Mend.{Mended, is_none}
use Rattle.dnsv_mending.specs.declared.price.Class.TheVariants as class
use Rattle.dnsv_remedies.specs.Parts.{part, part_of_one, zone_kept}
use Rattle.dnsv_remedies.specs.Remedy.{Remedied, after, both, ended, gap, least, missing, ways_of, with_unusable}
use Rattle.dnsv_remedies.specs.declared.facts.cut.CutCase.{CutCase}
use Rattle.dnsv_remedies.specs.declared.facts.cut.CutCase.TheVariants as case
use Rattle.dnsv_remedies.specs.declared.facts.cut.CutFacts.{CutFacts}
use Rattle.dnsv_remedies.specs.declared.facts.cut.CutSource.{CutSource}
use Rattle.dnsv_remedies.specs.declared.facts.cut.OptOutFacts.{OptOutFacts}
use Rattle.dnsv_remedies.specs.declared.facts.cut.ParentFacts.{ParentFacts}
use Rattle.dnsv_remedies.specs.declared.facts.cut.SignedCutFacts.{SignedCutFacts}
use Rattle.dnsv_remedies.specs.declared.facts.name.AskedName.TheVariants as name
use Rattle.dnsv_remedies.specs.declared.facts.name.SourceNumber.{SourceNumber}
use Rattle.dnsv_remedies.specs.declared.said.Said.TheVariants as said

-- a record at the name that has DS or SOA
abbrev pub signed_remedy : List Leveled → SourceNumber → ℕ → SignedCutFacts → Remedied
signed_remedy levels n c s =
    both (part_of_one levels n.zone s.rrset) (missing class.Lacking (said.Source (why.TypeHeld s.number s.held) n (name.At c) ∷ []))

-- opt-out at the name, and that its parent is there
abbrev pub opt_out_remedy : List Leveled → SourceNumber → ℕ → OptOutFacts → Remedied
opt_out_remedy levels n c o =
    both (part levels n.zone o.shown.items (said.Source why.EncloserMissing n (name.At c) ∷ [])) (part levels n.zone o.covers.items [])

-- What a source lacks of the name with c labels; none where it says that there is no delegation.
abbrev pub cut_remedy : List Leveled → SourceNumber → ℕ → CutCase → Option Remedied
cut_remedy levels n c (case.Delegation rrsets) = Some (part levels n.zone rrsets.items [])
cut_remedy levels n c case.NoCut = None
cut_remedy levels n c (case.Signed s) = Some (signed_remedy levels n c s)
cut_remedy levels n c (case.OptOut o) = Some (opt_out_remedy levels n c o)
cut_remedy levels n c case.Uncovered = Some (missing class.Lacking (said.Source (why.CoverMissing role.Cut) n (name.At c) ∷ []))
cut_remedy levels n c case.Unmatched = Some (missing class.Lacking (said.Source why.MatchMissing n (name.At c) ∷ []))

abbrev pub number_of : ℕ → CutSource → SourceNumber
number_of zone s = record { zone = zone; place = s.place }

abbrev pub source_remedy : List Leveled → ℕ → ℕ → CutSource → Option Remedied
source_remedy levels zone c s = cut_remedy levels (number_of zone s) c s.case

unfoldable pub cut_source_ways : List Leveled → ℕ → ℕ → CutSource → List Remedied
cut_source_ways levels zone c s = ways_of (source_remedy levels zone c s)

-- a source lacks nothing of it
abbrev pub lacks_nothing : Option Remedied → Bool
lacks_nothing None = false
lacks_nothing (Some m) = not m.lacks

unfoldable pub is_proving : List Leveled → ℕ → ℕ → CutSource → Bool
is_proving levels zone c s = lacks_nothing (source_remedy levels zone c s)

-- the name is a way: a source lacks nothing of it, or the evidence shows a delegation there
abbrev pub is_way : List Leveled → ℕ → CutFacts → Bool
is_way levels zone c = c.is_shown || list_any (is_proving levels zone c.name) c.sources.items

-- the least that a source lacks; without a source all is missing
abbrev pub cut_least : List Leveled → ℕ → CutFacts → Option Remedied
cut_least levels zone c = if is_none c.sources.items then Some gap else least (flat_map (cut_source_ways levels zone c.name) c.sources.items)

-- by the zone, where not each source says that there is no delegation
abbrev pub cut_after : Option Mended → ParentFacts → ℕ → Option Remedied → List Remedied
cut_after above z c None = []
cut_after above z c (Some m) = after above (ended (said.DsUnproved (record { zone = z.labels; name = c })) (with_unusable z.unusable.items m))

unfoldable pub cut_ways : List Leveled → ParentFacts → CutFacts → List Remedied
cut_ways levels z c = if is_way levels z.labels c then cut_after (zone_kept levels z.labels) z c.name (cut_least levels z.labels c) else []

-- each name below the zone
unfoldable pub parent_ways : List Leveled → ParentFacts → List Remedied
parent_ways levels z = flat_map (cut_ways levels z) z.cuts.items
