-- When a text checks for a question: each line follows from the evidence and the lines before it, and what it says of the
-- question is so by the others. A reader can check that line by line, and what has checked is true.
--
-- Of the lines `hope`, `holds`, `reason`, `follows` and `key` no rule speaks.
use Rattle.std.specs.Prelude.{◌≡◌, ◌⊎◌, ℕ, List, [], Option, Some, None, Contains}
use Rattle.dnsv_names.specs.Name.{Labels, SameName, IsAtOrBelow, rightmost}
use Rattle.dnsv_names.specs.Order.{IsBelow}
use Rattle.dnsv_names.specs.Tree.{wildcard_of}
use Rattle.dnsv_zones.specs.forms.Forms.{EmptyForm, EmptyWildcardForm, NoCloserForm, NoDataForm, NoNameForm, NoWildcardDataForm}
use Rattle.dnsv_zones.specs.forms.Parts.{OptsOut, OptsOutNextCloser}
use Rattle.dnsv_zones.specs.forms.RecordWords.{RecordWords, words}
use Rattle.dnsv_zones.specs.zones.Types.{Denies}
use Rattle.dnsv_canonical.specs.Rrsets.{ReceivedRrset}
use Rattle.dnsv_canonical.specs.declared.number.RecordNumber.{RecordNumber}
use Rattle.dnsv_denial.specs.gathering.EvidenceWords.{Chain}
use Rattle.dnsv_derivations.specs.Denials.{SameEncloser, number_told}
use Rattle.dnsv_derivations.specs.Explained.{Setting}
use Rattle.dnsv_derivations.specs.Following.{EachFollows}
use Rattle.dnsv_derivations.specs.Following.Parts.{IsOfKind}
use Rattle.dnsv_lines.specs.declared.line.Line.{Line}
use Rattle.dnsv_lines.specs.declared.line.Line.TheVariants as line
use Rattle.dnsv_lines.specs.declared.line.denial.Form.{Form}
use Rattle.dnsv_lines.specs.declared.line.denial.Form.TheVariants as form
use Rattle.dnsv_lines.specs.declared.line.denial.Part.{Part}
use Rattle.dnsv_lines.specs.declared.line.denial.Proof.{Proof}
use Rattle.dnsv_lines.specs.declared.line.denial.Relation.{Relation}
use Rattle.dnsv_lines.specs.declared.line.denial.Relation.TheVariants as relation
use Rattle.dnsv_lines.specs.declared.line.denial.Role.{Role}
use Rattle.dnsv_lines.specs.declared.line.denial.Role.TheVariants as role
use Rattle.dnsv_rules.specs.Told.{shown_said, told_words}

-- ---- the question

-- the names of the aliases on its way, the name at the way's end, and the type
pub record Asked : Type 0 where
  pub aliases : List Labels
  pub name : Labels
  pub rtype : ℕ

-- a name of the way
abbrev pub IsOnWay : Asked → Labels → Type 0
IsOnWay asked name = (name ≡ asked.name) ⊎ Contains asked.aliases name

-- ---- proofs

-- The form stands for the name at the way's end over what is told, by the closest encloser that the proof names: that
-- there is no such name (RFC 4035 5.4, RFC 5155 8.4); that the type isn't there, at the name (RFC 5155 8.5), at an empty
-- non-terminal, at the wildcard (RFC 5155 8.7), or at one that is an empty non-terminal; or that Opt-Out may leave the
-- name out (RFC 5155 8.6, 8.8). That no closer name than a wildcard is there is proved of any name of the way
-- (RFC 4035 5.3.4, RFC 5155 8.8).
abbrev pub StandsFor : Form → Asked → Labels → Option Labels → RecordWords RecordNumber → Type 0
StandsFor form.NoName asked zone encloser told =
    (stands : NoNameForm (words told) zone asked.name)
    × SameEncloser encloser (Some (rightmost asked.name stands.labels))
StandsFor form.NoData1 asked zone encloser told =
    NoDataForm (words told) zone asked.name asked.rtype × SameEncloser encloser None
StandsFor form.NoData2 asked zone encloser told =
    EmptyForm (words told) zone asked.name × SameEncloser encloser None
StandsFor form.NoData3 asked zone encloser told =
    (stands : NoWildcardDataForm (words told) zone asked.name asked.rtype)
    × SameEncloser encloser (Some (rightmost asked.name stands.labels))
StandsFor form.NoData4 asked zone encloser told =
    (stands : EmptyWildcardForm (words told) zone asked.name)
    × SameEncloser encloser (Some (rightmost asked.name stands.labels))
StandsFor form.NoCloser asked zone encloser told =
    (name : Labels) × IsOnWay asked name × (labels : ℕ) × NoCloserForm (words told) zone name labels
    × SameEncloser encloser (Some (rightmost name labels))
StandsFor form.OptOut asked zone encloser told =
    (labels : ℕ) × (OptsOut told zone asked.name labels ⊎ OptsOutNextCloser told zone asked.name labels)
    × SameEncloser encloser (Some (rightmost asked.name labels))

-- It stands by what part lines tell of records of one chain of the proof's zone, of which lines show signatures of the
-- zone to be good.
pub record IsProvedBy (rrsets : List ReceivedRrset) (asked : Asked) (lines : List Line) (proof : Proof) : Type 0 where
  pub chain : Chain
  pub kind : IsOfKind proof.chain chain
  pub stands : StandsFor proof.form asked proof.zone proof.encloser
      (told_words (shown_said rrsets lines proof.zone chain) lines)

-- ---- lines

-- the name of a part is what its role says, for a question of the name
abbrev pub IsNameFor : Labels → Role → Labels → Type 0
IsNameFor question role.ClosestEncloser name = IsAtOrBelow question name
IsNameFor question role.NextCloser name = IsAtOrBelow question name
IsNameFor question role.Wildcard name =
    (above : Labels) × IsBelow question above × SameName name (wildcard_of above)
IsNameFor question role.Name name = SameName name question
IsNameFor question role.Cut name = IsAtOrBelow question name

-- The record of the part denies the type asked at the part's name. It is one of a chain of some zone, of which lines show
-- a signature of the zone to be good.
pub record DeniesAsked (rrsets : List ReceivedRrset) (asked : Asked) (lines : List Line) (part : Part) : Type 0 where
  pub zone : Labels
  pub chain : Chain
  pub number : RecordNumber
  pub is_by : number_told part.by ≡ Some number
  pub denies : (shown_said rrsets lines zone chain).TypesAt part.name (λ has. Denies has asked.rtype) number

-- What is asked of a record that is matched with the name itself or with the wildcard (RFC 4035 5.4, RFC 5155 8.5, 8.7).
-- One that is matched with a closest encloser or a delegation says nothing of the type.
abbrev pub DeniesIf : Role → Relation → Type 0 → Type 0
DeniesIf role.Name relation.Matched Denied = Denied
DeniesIf role.Wildcard relation.Matched Denied = Denied
DeniesIf _ _ Denied = Unit {0}

-- What the line says of the question is so by the lines of the text: a proof stands, a part is of a name of the way and
-- denies the type asked where it says so, and from the name of a case on the name at the way's end may be unsigned.
abbrev pub IsSoFor : List ReceivedRrset → Asked → List Line → Line → Type 0
IsSoFor rrsets asked lines (line.Proof proof) = IsProvedBy rrsets asked lines proof
IsSoFor rrsets asked lines (line.Part part) =
    (name : Labels) × IsOnWay asked name × IsNameFor name part.role part.name
    × DeniesIf part.role part.relation (DeniesAsked rrsets asked lines part)
IsSoFor rrsets asked lines (line.Case cut) = IsAtOrBelow asked.name cut.name
IsSoFor rrsets asked lines _ = Unit {0}

-- the text checks
pub record Checks (setting : Setting) (asked : Asked) (lines : List Line) : Type 0 where
  pub follows : EachFollows setting [] lines
  pub is_so : (each : Line) → Contains lines each → IsSoFor setting.rrsets asked lines each
