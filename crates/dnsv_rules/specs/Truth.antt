-- When what a proof line says is true of each zone that has its records in its chain.
use Rattle.std.specs.Prelude.{◌≡◌, ◌⊎◌, ◌+◌, ℕ, List, Option, Some, None, Contains}
use Rattle.dnsv_names.specs.Name.{Labels, rightmost}
use Rattle.dnsv_names.specs.Tree.{wildcard_of}
use Rattle.dnsv_zones.specs.chains.Nsec3Chain.{IsUnsignedEnd, Nsec3Record}
use Rattle.dnsv_zones.specs.chains.NsecChain.{NsecRecord}
use Rattle.dnsv_zones.specs.zones.Lookup.{IsClosestEncloser, IsLookup}
use Rattle.dnsv_zones.specs.zones.Lookup.Answer.{Held, NoData, NoName}
use Rattle.dnsv_zones.specs.zones.Zone.{Holds, IsNode, Zone}
use Rattle.dnsv_canonical.specs.Rrsets.{ReceivedRrset}
use Rattle.dnsv_canonical.specs.declared.number.RecordNumber.{RecordNumber}
use Rattle.dnsv_chain.specs.Trusted.{IsSecured}
use Rattle.dnsv_denial.specs.gathering.Evidence.{IsNsecAt, IsNsec3At}
use Rattle.dnsv_denial.specs.proving.FirstProof.{ProofRecords}
use Rattle.dnsv_denial.specs.proving.ProofMeaning.{HasProofRecords, HasProofWithoutCollision}
use Rattle.dnsv_denial.specs.gathering.EvidenceWords.{Chain}
use Rattle.dnsv_denial.specs.gathering.EvidenceWords.Chain.{ByNsec, ByNsec3}
use Rattle.dnsv_derivations.specs.Denials.{SameEncloser, number_told}
use Rattle.dnsv_derivations.specs.Explained.{Setting}
use Rattle.dnsv_derivations.specs.Following.Parts.{IsOfKind}
use Rattle.dnsv_lines.specs.declared.line.Line.{Line}
use Rattle.dnsv_lines.specs.declared.line.Line.TheVariants as line
use Rattle.dnsv_lines.specs.declared.line.denial.Form.{Form}
use Rattle.dnsv_lines.specs.declared.line.denial.Form.TheVariants as form
use Rattle.dnsv_lines.specs.declared.line.denial.Part.{Part}
use Rattle.dnsv_lines.specs.declared.line.denial.Proof.{Proof}
use Rattle.dnsv_rules.specs.Checked.{Asked, IsOnWay}
use Rattle.dnsv_rules.specs.Told.{IsShownGood, shown_said, told_words}

-- ---- the records

-- a line shows the signature to be good, and it is good under a trusted key
abbrev pub IsShownSecured : Setting → List Line → ℕ → ℕ → Type 0
IsShownSecured setting lines k s =
    IsShownGood lines k s × IsSecured setting.meaning setting.moment setting.rrsets setting.anchors k s

-- the record with the number is one of the zone's chain, which signed it
abbrev pub IsOfChain : (ℕ → ℕ → Type 0) → List ReceivedRrset → Labels → Chain → RecordNumber → Type 0
IsOfChain Secured rrsets zone ByNsec number = (nsec : NsecRecord) × IsNsecAt Secured rrsets zone number nsec
IsOfChain Secured rrsets zone (ByNsec3 parameters) number =
    (nsec3 : Nsec3Record) × IsNsec3At Secured rrsets zone number nsec3 × (nsec3.parameters ≡ parameters)

-- a part line tells what the record says
pub record IsPartsRecord (lines : List Line) (number : RecordNumber) : Type 0 where
  pub part : Part
  pub among : Contains lines (line.Part part)
  pub by : number_told part.by ≡ Some number

-- ---- what the proof says

-- of which name: no closer name is denied of any name of the way, all else of the name at its end
abbrev pub IsDenied : Form → Asked → Labels → Type 0
IsDenied form.NoCloser asked name = IsOnWay asked name
IsDenied _ asked name = name ≡ asked.name

-- which closest encloser, where the form has one
abbrev pub IsItsEncloser : Form → Option Labels → Labels → Type 0
IsItsEncloser form.NoData1 encloser name = SameEncloser encloser None
IsItsEncloser form.NoData2 encloser name = SameEncloser encloser None
IsItsEncloser _ encloser name = SameEncloser encloser (Some name)

-- The zones of which it says so: those that have its records in a chain. What rests on a record that matches a name
-- needs besides that no other name which a question asks for has its hash.
abbrev pub HasIts : Form → List ReceivedRrset → Labels → ProofRecords → Zone → Type 0
HasIts form.NoCloser rrsets name records zone = HasProofRecords rrsets records zone
HasIts form.OptOut rrsets name records zone = HasProofRecords rrsets records zone
HasIts _ rrsets name records zone = HasProofWithoutCollision rrsets name records zone

-- a part line tells that a record with the Opt-Out flag covers the name, one of these of the zone's chain
abbrev pub IsToldOptedOut : List ReceivedRrset → List Line → Labels → Chain → List RecordNumber → Labels → Type 0
IsToldOptedOut rrsets lines zone chain records name =
    (number : RecordNumber) × Contains records number
    × (told_words (shown_said rrsets lines zone chain) lines).OptedOut name number

-- such a record covers the name, which is unsigned, if it is a node at all (RFC 5155 6)
abbrev pub IsLeftOpen : (Labels → Type 0) → Zone → Labels → Type 0
IsLeftOpen OptedOut zone name = OptedOut name × (IsNode zone name → IsUnsignedEnd zone name)

-- What the zone answers for the name and the type, where the name's closest encloser has so many labels. Opt-Out leaves
-- the next closer name open; or that is no node, and it leaves the wildcard open (RFC 5155 8.6, 9.2).
abbrev pub SaysOf : Form → Labels → ℕ → ℕ → (Labels → Type 0) → Zone → Type 0
SaysOf form.NoName name t labels OptedOut zone =
    IsClosestEncloser zone name labels × ((any : ℕ) → IsLookup zone name any NoName)
SaysOf form.NoData1 name t labels OptedOut zone = IsLookup zone name t (NoData name)
SaysOf form.NoData2 name t labels OptedOut zone = IsLookup zone name t (NoData name)
SaysOf form.NoData3 name t labels OptedOut zone =
    IsClosestEncloser zone name labels × IsLookup zone name t (NoData (wildcard_of (rightmost name labels)))
SaysOf form.NoData4 name t labels OptedOut zone =
    IsClosestEncloser zone name labels × IsLookup zone name t (NoData (wildcard_of (rightmost name labels)))
SaysOf form.NoCloser name t labels OptedOut zone =
    (any : ℕ) → Holds zone (wildcard_of (rightmost name labels)) any
    → IsLookup zone name any (Held (wildcard_of (rightmost name labels)))
SaysOf form.OptOut name t labels OptedOut zone =
    IsLeftOpen OptedOut zone (rightmost name (labels + 1))
    ⊎ ((¬ IsNode zone (rightmost name (labels + 1))) × IsLeftOpen OptedOut zone (wildcard_of (rightmost name labels)))

-- ---- the proof

-- There are records of one chain of its zone, each told by a part line and shown to be signed by the zone; and what the
-- proof says of a name of the way is so of each zone that has them.
pub record IsTrueProof (setting : Setting) (asked : Asked) (lines : List Line) (proof : Proof) : Type 0 where
  pub name : Labels
  pub denied : IsDenied proof.form asked name
  pub labels : ℕ
  pub encloser : IsItsEncloser proof.form proof.encloser (rightmost name labels)
  pub chain : Chain
  pub kind : IsOfKind proof.chain chain
  pub records : List RecordNumber
  pub of_chain : (number : RecordNumber) → Contains records number
      → IsOfChain (IsShownSecured setting lines) setting.rrsets proof.zone chain number
  pub told : (number : RecordNumber) → Contains records number → IsPartsRecord lines number
  pub means : (zone : Zone) → HasIts proof.form setting.rrsets name (record { zone = proof.zone; records = records }) zone
      → SaysOf proof.form name asked.rtype labels (IsToldOptedOut setting.rrsets lines proof.zone chain records) zone
