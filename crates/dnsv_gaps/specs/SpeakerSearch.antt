-- How the facts of known zones are looked for. No public clause cites this module.
use Rattle.std.specs.Prelude.{ℕ, List}
use Rattle.std.specs.List.{AllZip, enumerate_from}
use Rattle.dnsv_denial.specs.gathering.EvidenceWords.{Chain}
use Rattle.dnsv_remedies.specs.declared.facts.denial.SourceFacts.{SourceFacts}
use Rattle.dnsv_gaps.specs.Asking.{asking}
use Rattle.dnsv_gaps.specs.SourceSearch.{zone_in}
use Rattle.dnsv_gaps.specs.Sources.{AreSources}
use Rattle.dnsv_gaps.specs.Speakers.{AreSourceFacts}
use Rattle.dnsv_gaps.specs.declared.asked.AskedQuestion.{AskedQuestion}

-- what the sources of the zone say, in their order
pub record AreSaidBySources (question : AskedQuestion) (labels : ℕ) (facts : List SourceFacts) : Type 0 where
  pub chains : List Chain
  pub are_sources : AreSources (asking question) (zone_in question labels) chains
  pub each : AllZip (AreSourceFacts (asking question) (zone_in question labels)) (enumerate_from 0 chains) facts
