-- A derivation as it is worked out, from the bottom up. No public clause cites this module.
use Rattle.std.specs.Prelude.{◌≡◌, ◌<◌, ◌-◌, ℕ, List, ◌++◌, Option, Some, None, length, reverse, slice_get}
use Rattle.std.specs.Option.{option_map_or}
use Rattle.dnsv_canonical.specs.Rrsets.{ReceivedRrset}
use Rattle.dnsv_derivations.specs.Explained.{Setting}
use Rattle.dnsv_derivations.specs.derivations.Derivations.{IsDerivation}
use Rattle.dnsv_derivations.specs.derivations.Derivations.Subject.{keys}
use Rattle.dnsv_derivations.specs.derivations.Ways.{IsTrustedSet}
use Rattle.dnsv_lines.specs.declared.line.Line.{Line}

-- how many labels the owner of RRset k has
abbrev pub labels_at : List ReceivedRrset → ℕ → ℕ
labels_at rrsets k = option_map_or (λ (rrset : ReceivedRrset). length rrset.owner) (slice_get rrsets (k - 1)) 0

-- the lines derive DNSKEY RRset k, the last one first
abbrev pub IsClimbed : Setting → List Line → ℕ → List Line → Type 0
IsClimbed setting before k lines = IsDerivation setting before (keys k) (reverse lines)

-- whatever derives DNSKEY RRset `next` derives with these lines behind it, the last one first, DNSKEY RRset k
pub record LeadsUp (setting : Setting) (before : List Line) (k : ℕ) (lines : List Line) (next : ℕ) : Type 0 where
  pub derives : (above : List Line) → IsDerivation setting before (keys next) above
      → IsDerivation setting before (keys k) (above ++ reverse lines)
  pub trusted : IsTrustedSet setting next

-- lines are added: those that are left, or those that lead up to another DNSKEY RRset, which has fewer labels
abbrev pub Climbs : Setting → List Line → ℕ → List Line → List Line → Option ℕ → Type 0
Climbs setting before k old new None = (more : List Line) × (new ≡ old ++ more) × IsClimbed setting before k more
Climbs setting before k old new (Some next) =
    (more : List Line) × (new ≡ old ++ more) × LeadsUp setting before k more next
    × (labels_at setting.rrsets next < labels_at setting.rrsets k)

-- the lines derive DNSKEY RRset k, or lead up from it to another one
abbrev pub IsUpTo : Setting → List Line → ℕ → List Line → Option ℕ → Type 0
IsUpTo setting before k lines None = IsClimbed setting before k lines
IsUpTo setting before k lines (Some next) = LeadsUp setting before k lines next
