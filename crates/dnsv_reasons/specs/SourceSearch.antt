-- How sources are kept for the lines that name them. No public clause cites this module.
use Rattle.std.specs.Prelude.{◌≡◌, ◌+◌, ℕ, List, [], ◌∷◌, length, map}
use Rattle.dnsv_names.specs.Name.{rightmost}
use Rattle.dnsv_zones.specs.chains.Rdata.{parameters_of}
use Rattle.dnsv_denial.specs.gathering.EvidenceWords.{Chain}
use Rattle.dnsv_denial.specs.gathering.EvidenceWords.Chain.{ByNsec, ByNsec3}
use Rattle.dnsv_gaps.specs.Asking.{Asking}
use Rattle.dnsv_gaps.specs.SourceSearch.{AreZoneDenials}
use Rattle.dnsv_gaps.specs.Sources.{AreSources}
use Rattle.dnsv_gaps.specs.declared.asked.AskedQuestion.{AskedQuestion}
use Rattle.dnsv_gaps.specs.declared.sources.ZoneDenials.{ZoneDenials}
use Rattle.dnsv_reasons.specs.declared.sources.NamedSource.{NamedSource}
use Rattle.dnsv_reasons.specs.declared.sources.NamedSource.TheVariants.{Nsec, Nsec3}
use Rattle.dnsv_reasons.specs.declared.sources.NamedSources.{NamedSources}

-- each of the list, which are numbered from n on
abbrev pub EachFrom : {X : Type 0} → (ℕ → X → Type 0) → ℕ → List X → Type 0
EachFrom {X} P n [] = Unit {0}
EachFrom {X} P n (x ∷ xs) = P n x × EachFrom P (n + 1) xs

-- ---- denials

-- those of the zone with so many labels
abbrev pub AreDenialsAt : AskedQuestion → ℕ → ZoneDenials → Type 0
AreDenialsAt question n zone = (zone.labels ≡ n) × AreZoneDenials question zone

-- of each zone at or above the name, from the root down
pub record AreAllDenials (question : AskedQuestion) (zones : List ZoneDenials) : Type 0 where
  pub count : length zones ≡ length question.name.now + 1
  pub each : EachFrom (AreDenialsAt question) 0 zones

-- ---- sources

-- which one it is
abbrev pub chain_named : NamedSource → Chain
chain_named Nsec = ByNsec
chain_named (Nsec3 parameters) = ByNsec3 (parameters_of parameters.now)

-- those of the zone with so many labels
pub record AreNamed (a : Asking) (n : ℕ) (named : NamedSources) : Type 0 where
  pub are : AreSources a (rightmost a.name n) (map chain_named named.sources.items)

-- of each zone at or above the name, from the root down
pub record AreAllNamed (a : Asking) (all : List NamedSources) : Type 0 where
  pub count : length all ≡ length a.name + 1
  pub each : EachFrom (AreNamed a) 0 all
