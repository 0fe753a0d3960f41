-- Where the RRsets stand that lines name.
use Rattle.std.specs.Prelude.{◌≡◌, ◌⊎◌, ◌&&◌, ℕ, Bool, nat_le, nat_lt, List, [], ◌∷◌, ◌++◌, Contains, filter, length, map}
use Rattle.std.specs.List.Sorted.{IsStrictlyIncreasing}
use Rattle.dnsv_canonical.specs.Rrsets.{IsNumbered, ReceivedRrset}
use Rattle.dnsv_lines.specs.Rows.{named_rrsets}
use Rattle.dnsv_derivations.specs.Following.{IsPlaceOf}
use Rattle.dnsv_lines.specs.declared.line.Line.{Line}
use Rattle.dnsv_lines.specs.declared.line.Line.TheVariants as line
use Rattle.dnsv_lines.specs.declared.line.place.RrsetPlace.{RrsetPlace}

-- one of the lines has the number
pub record NamesRrset (lines : List Line) (number : ℕ) : Type 0 where
  pub line : Line
  pub among : Contains lines line
  pub named : Contains (named_rrsets line) number

-- the numbers of RRsets that stand at the places
abbrev pub place_numbers : List RrsetPlace → List ℕ
place_numbers places = map (λ place. place.rrset) places

-- for each number that the lines have, each once and rising, where the RRset stands
pub record ArePlacesOf (rrsets : List ReceivedRrset) (lines : List Line) (places : List RrsetPlace) : Type 0 where
  pub rising : IsStrictlyIncreasing (place_numbers places)
  pub each : (place : RrsetPlace) → Contains places place → IsPlaceOf rrsets place
  pub named : (number : ℕ) → Contains (place_numbers places) number → NamesRrset lines number
  pub every : (number : ℕ) (rrset : ReceivedRrset) → NamesRrset lines number → IsNumbered rrsets number rrset
      → Contains (place_numbers places) number

-- they are told
pub record ArePlacesTold (rrsets : List ReceivedRrset) (told lines : List Line) : Type 0 where
  pub places : List RrsetPlace
  pub stand : ArePlacesOf rrsets told places
  pub are : lines ≡ map (λ place. line.Rrset place) places

-- ---- one after another: no public clause cites what follows

-- the place of the RRset with the number is added, if there is one
abbrev pub AddsPlace : List ReceivedRrset → ℕ → List RrsetPlace → List RrsetPlace → Type 0
AddsPlace rrsets number old new =
    (((rrset : ReceivedRrset) → ¬ IsNumbered rrsets number rrset) × (new ≡ old))
    ⊎ ((place : RrsetPlace) × IsPlaceOf rrsets place × (place.rrset ≡ number) × (new ≡ old ++ place ∷ []))

-- whether an element has the number, from 1 on
abbrev pub has_number : {X : Type 0} → List X → ℕ → Bool
has_number xs number = nat_lt 0 number && nat_le number (length xs)

-- the places are those of the RRsets with these numbers, in order
pub record ArePlacedBy (rrsets : List ReceivedRrset) (numbers : List ℕ) (places : List RrsetPlace) : Type 0 where
  pub each : (place : RrsetPlace) → Contains places place → IsPlaceOf rrsets place
  pub are : place_numbers places ≡ filter (has_number rrsets) numbers
