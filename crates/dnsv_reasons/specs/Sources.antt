-- Sources, as lines name them.
use Rattle.std.specs.Prelude.{◌≡◌, ◌<◌, List, Option, Some, None, length, slice_get}
use Rattle.dnsv_names.specs.Name.{Labels, rightmost}
use Rattle.dnsv_names.specs.Tree.{wildcard_of}
use Rattle.dnsv_records.specs.declared.nsec3.Nsec3Parameters.{Nsec3Parameters}
use Rattle.dnsv_zones.specs.chains.Rdata.{parameters_of}
use Rattle.dnsv_denial.specs.gathering.EvidenceWords.{Chain}
use Rattle.dnsv_denial.specs.gathering.EvidenceWords.Chain.{ByNsec, ByNsec3}
use Rattle.dnsv_gaps.specs.Asking.{Asking}
use Rattle.dnsv_gaps.specs.Sources.{AreSources}
use Rattle.dnsv_lines.specs.declared.line.fault.denial.Source.{Source}
use Rattle.dnsv_remedies.specs.declared.facts.name.AskedName.{AskedName}
use Rattle.dnsv_remedies.specs.declared.facts.name.AskedName.TheVariants.{At, Wildcard}
use Rattle.dnsv_remedies.specs.declared.facts.name.SourceNumber.{SourceNumber}
use Rattle.dnsv_trust_reasons.specs.Places.{IsAbove}

-- those of NSEC have no parameters, those of NSEC3 the chain's
abbrev pub IsParametersOf : Chain → Option Nsec3Parameters → Type 0
IsParametersOf ByNsec parameters = parameters ≡ None
IsParametersOf (ByNsec3 shared) None = ⊥
IsParametersOf (ByNsec3 shared) (Some parameters) = parameters_of parameters ≡ shared

-- the source that has the place among those of the zone
pub record IsSource (a : Asking) (number : SourceNumber) (source : Source) : Type 0 where
  pub zone : Labels
  pub above : IsAbove a.name number.zone zone
  pub chains : List Chain
  pub are : AreSources a zone chains
  pub chain : Chain
  pub placed : slice_get chains number.place ≡ Some chain
  pub its_zone : source.zone ≡ zone
  pub its_chain : IsParametersOf chain source.parameters

-- the name that a record is to be at, or to cover
abbrev pub IsAskedName : Labels → AskedName → Labels → Type 0
IsAskedName name (At n) asked = IsAbove name n asked
IsAskedName name (Wildcard n) asked = (n < length name) × (asked ≡ wildcard_of (rightmost name n))
