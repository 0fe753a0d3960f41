-- What the known zones have that may deny a question.
use Rattle.std.specs.Prelude.{◌≡◌, ◌↔◌, ◌≤◌, ℕ, IsTrue, List, Contains, length, map}
use Rattle.std.specs.List.{AllByRecursion, AllZip, enumerate_from}
use Rattle.std.specs.List.Sorted.{IsStrictlySortedBy}
use Rattle.std.specs.Ordering.{nat_cmp}
use Rattle.dnsv_names.specs.Name.{Labels, rightmost}
use Rattle.dnsv_denial.specs.gathering.EvidenceWords.{Chain}
use Rattle.dnsv_remedies.specs.declared.facts.denial.SourceFacts.{SourceFacts}
use Rattle.dnsv_remedies.specs.declared.facts.denial.SpeakerFacts.{SpeakerFacts}
use Rattle.dnsv_faults.specs.KnownZones.{IsKnownZone}
use Rattle.dnsv_gaps.specs.Asking.{Asking}
use Rattle.dnsv_gaps.specs.Cases.{IsSourceCase}
use Rattle.dnsv_gaps.specs.Denials.{IsDenialNumber}
use Rattle.dnsv_gaps.specs.Sources.{AreSources, source_said}
use Rattle.dnsv_gaps.specs.Unusable.{AreUnusable}

-- what the source says, which has the place among those of the zone
pub record AreSourceFacts (a : Asking) (zone : Labels) (placed : ℕ × Chain) (facts : SourceFacts) : Type 0 where
  pub place : facts.place ≡ placed.0
  pub its_case : IsSourceCase a.basis (source_said a zone placed.1) zone a.name a.rtype facts.case

-- what the zone has that may deny
pub record AreSpeakerFacts (a : Asking) (facts : SpeakerFacts) : Type 0 where
  pub within : facts.labels ≤ length a.name
  pub denials : IsTrue facts.has_denials ↔ ((k : ℕ) × IsDenialNumber a (rightmost a.name facts.labels) k)
  pub chains : List Chain
  pub are_sources : AreSources a (rightmost a.name facts.labels) chains
  pub sources : AllZip (AreSourceFacts a (rightmost a.name facts.labels)) (enumerate_from 0 chains) facts.sources.items
  pub unusable : AreUnusable a (rightmost a.name facts.labels) facts.unusable.items

-- the known zones, from many labels to few
pub record AreSpeakers (a : Asking) (speakers : List SpeakerFacts) : Type 0 where
  pub falling : IsStrictlySortedBy (λ one other. nat_cmp other one) (map (λ each. each.labels) speakers)
  pub each : AllByRecursion (AreSpeakerFacts a) speakers
  pub known : (n : ℕ) → n ≤ length a.name
      → Contains (map (λ each. each.labels) speakers) n ↔ IsKnownZone a.basis a.name a.rtype (rightmost a.name n)
