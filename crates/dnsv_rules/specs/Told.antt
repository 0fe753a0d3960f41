-- What the part lines of a text tell of names, by records whose signatures its lines show to be good.
use Rattle.std.specs.Prelude.{◌≡◌, ◌⊎◌, ℕ, List, Option, Some, None, Contains}
use Rattle.dnsv_names.specs.Name.{Labels, SameName}
use Rattle.dnsv_zones.specs.forms.RecordWords.{RecordWords}
use Rattle.dnsv_canonical.specs.Rrsets.{ReceivedRrset}
use Rattle.dnsv_canonical.specs.declared.number.RecordNumber.{RecordNumber}
use Rattle.dnsv_denial.specs.gathering.EvidenceWords.{Chain, evidence_said}
use Rattle.dnsv_derivations.specs.Denials.{number_told}
use Rattle.dnsv_derivations.specs.Following.{IsSignatureSaid}
use Rattle.dnsv_lines.specs.declared.line.Line.{Line}
use Rattle.dnsv_lines.specs.declared.line.Line.TheVariants as line
use Rattle.dnsv_lines.specs.declared.line.denial.Part.{Part}
use Rattle.dnsv_lines.specs.declared.line.denial.Relation.{Relation}
use Rattle.dnsv_lines.specs.declared.line.denial.Relation.TheVariants as relation

-- a line shows signature s of RRset k to be good
abbrev pub IsShownGood : List Line → ℕ → ℕ → Type 0
IsShownGood lines k s = IsSignatureSaid lines (record { rrset = k; signature = s })

-- what the records of the zone's chain say, of which lines show a signature to be good
abbrev pub shown_said : List ReceivedRrset → List Line → Labels → Chain → RecordWords RecordNumber
shown_said rrsets lines zone chain = evidence_said (IsShownGood lines) rrsets zone chain

-- a part line tells of the name that it is related so to the record with the number, or to none
pub record IsTold (lines : List Line) (related : Relation) (name : Labels) (by : Option RecordNumber) : Type 0 where
  pub part : Part
  pub among : Contains lines (line.Part part)
  pub is_relation : part.relation ≡ related
  pub is_name : SameName part.name name
  pub is_by : number_told part.by ≡ by

-- of what records say, that which part lines tell: an encloser is matched, or exists by an owner below it
abbrev pub told_words : RecordWords RecordNumber → List Line → RecordWords RecordNumber
told_words said lines = record {
  NeedsNone = λ name. said.NeedsNone name × IsTold lines relation.Apex name None;
  Encloser = λ name number. said.Encloser name number
      × (IsTold lines relation.Exists name (Some number) ⊎ IsTold lines relation.Matched name (Some number));
  Absent = λ name number. said.Absent name number × IsTold lines relation.Covered name (Some number);
  EmptyNonTerminal = λ name number. said.EmptyNonTerminal name number
      × IsTold lines relation.NonTerminal name (Some number);
  TypesAt = λ name Says number. said.TypesAt name Says number × IsTold lines relation.Matched name (Some number);
  OptedOut = λ name number. said.OptedOut name number × IsTold lines relation.OptOut name (Some number);
}
