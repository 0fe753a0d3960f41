-- When a question is answered, denied, or shown to be below an unsigned delegation, and which facts are whole, for laws.
use Rattle.std.specs.Prelude.{◌≡◌, ◌⊎◌, ◌&&◌, ⊤, ℕ, List, ◌∷◌, Option, Some, None, true, slice_get}
use Rattle.std.specs.List.{list_any}
use Rattle.dnsv_mending.specs.Mend.{is_none}
use Rattle.dnsv_mending.specs.Reasons.{IsClosedSignature}
use Rattle.dnsv_mending.specs.Within.{is_by}
use Rattle.dnsv_mending.specs.Ways.{IsAmong}
use Rattle.dnsv_mending.specs.Zone.{is_zone_trusted}
use Rattle.dnsv_mending.specs.declared.facts.signature.RrsetFacts.{RrsetFacts}
use Rattle.dnsv_mending.specs.declared.facts.signature.SignatureFacts.{SignatureFacts}
use Rattle.dnsv_mending.specs.declared.facts.zone.ZoneFacts.{ZoneFacts}
use Rattle.dnsv_remedies.specs.Remedy.{Remedied}
use Rattle.dnsv_remedies.specs.Said.{is_reason}
use Rattle.dnsv_remedies.specs.declared.facts.answer.AnswerSignature.{AnswerSignature}
use Rattle.dnsv_remedies.specs.declared.facts.answer.CloserFacts.{CloserFacts}
use Rattle.dnsv_remedies.specs.declared.facts.answer.GoalFacts.{GoalFacts}
use Rattle.dnsv_remedies.specs.declared.facts.cut.CutCase.{CutCase}
use Rattle.dnsv_remedies.specs.declared.facts.cut.CutCase.TheVariants as cut
use Rattle.dnsv_remedies.specs.declared.facts.cut.CutFacts.{CutFacts}
use Rattle.dnsv_remedies.specs.declared.facts.cut.CutSource.{CutSource}
use Rattle.dnsv_remedies.specs.declared.facts.cut.ParentFacts.{ParentFacts}
use Rattle.dnsv_remedies.specs.declared.facts.denial.RecordsAt.{RecordsAt}
use Rattle.dnsv_remedies.specs.declared.facts.denial.RecordsAt.TheVariants as records
use Rattle.dnsv_remedies.specs.declared.facts.denial.SourceCase.{SourceCase}
use Rattle.dnsv_remedies.specs.declared.facts.denial.SourceCase.TheVariants as case
use Rattle.dnsv_remedies.specs.declared.facts.denial.SourceFacts.{SourceFacts}
use Rattle.dnsv_remedies.specs.declared.facts.denial.SpeakerFacts.{SpeakerFacts}
use Rattle.dnsv_remedies.specs.declared.facts.denial.WildcardFacts.{WildcardFacts}
use Rattle.dnsv_remedies.specs.declared.facts.denial.WildcardFacts.TheVariants as wildcard
use Rattle.dnsv_remedies.specs.declared.facts.question.QuestionFacts.{QuestionFacts}
use Rattle.dnsv_remedies.specs.declared.said.Said.{Said}

-- ---- what proves something

-- one of the RRsets is signed by the zone with so many labels
pub record IsPart (zone : ℕ) (rrsets : List RrsetFacts) : Type 0 where
  pub r : RrsetFacts
  pub among : IsAmong r rrsets
  pub signed : list_any (λ (s : SignatureFacts). is_by zone s && s.is_signed) r.signatures.items ≡ true

-- the zone with so many labels is trusted
pub record IsTrusted (zones : List ZoneFacts) (n : ℕ) : Type 0 where
  pub z : ZoneFacts
  pub is : slice_get zones n ≡ Some z
  pub trusted : is_zone_trusted z ≡ true

abbrev pub IsCloserProved : SignatureFacts → Option CloserFacts → Type 0
IsCloserProved s None = ⊤
IsCloserProved s (Some c) = IsPart s.signer c.covers.items

-- a signature of an RRset that may answer is good, and what it asks for beside it is proved
pub record IsAnswered (q : QuestionFacts) : Type 0 where
  pub g : GoalFacts
  pub s : AnswerSignature
  pub goal : IsAmong g q.goals.items
  pub by : IsAmong s g.signatures.items
  pub signed : s.signature.is_signed ≡ true
  pub closer : IsCloserProved s.signature s.closer

abbrev pub IsDeniedAt : ℕ → RecordsAt → Type 0
IsDeniedAt zone (records.Denying rrsets) = IsPart zone rrsets.items
IsDeniedAt zone (records.Holding h) = ⊥

abbrev pub IsWildcardDenied : ℕ → WildcardFacts → Type 0
IsWildcardDenied zone wildcard.OptedOut = ⊤
IsWildcardDenied zone (wildcard.At r) = IsDeniedAt zone r
IsWildcardDenied zone (wildcard.Covered rrsets) = IsPart zone rrsets.items

-- what a source says denies the question, the zone being trusted
abbrev pub IsCaseDenial : ℕ → SourceCase → Type 0
IsCaseDenial zone (case.Closed c) = ⊥
IsCaseDenial zone (case.At r) = IsDeniedAt zone r
IsCaseDenial zone case.Apex = ⊥
IsCaseDenial zone (case.NonTerminal rrsets) = IsPart zone rrsets.items
IsCaseDenial zone case.NoEncloser = ⊥
IsCaseDenial zone (case.Encloser e) = ((is_none e.shown.items ≡ true) ⊎ IsPart zone e.shown.items)
    × (IsPart zone e.covers.items × IsWildcardDenied zone e.wildcard)

pub record IsDenied (zones : List ZoneFacts) (q : QuestionFacts) : Type 0 where
  pub z : SpeakerFacts
  pub s : SourceFacts
  pub speaker : IsAmong z q.speakers.items
  pub trusted : IsTrusted zones z.labels
  pub source : IsAmong s z.sources.items
  pub denies : IsCaseDenial z.labels s.case

-- what a source says proves an unsigned delegation, the zone being trusted
abbrev pub IsCaseCut : ℕ → CutCase → Type 0
IsCaseCut zone (cut.Delegation rrsets) = IsPart zone rrsets.items
IsCaseCut zone cut.NoCut = ⊥
IsCaseCut zone (cut.Signed s) = ⊥
IsCaseCut zone (cut.OptOut o) = IsPart zone o.shown.items × IsPart zone o.covers.items
IsCaseCut zone cut.Uncovered = ⊥
IsCaseCut zone cut.Unmatched = ⊥

pub record IsCut (zones : List ZoneFacts) (q : QuestionFacts) : Type 0 where
  pub z : ParentFacts
  pub c : CutFacts
  pub s : CutSource
  pub parent : IsAmong z q.parents.items
  pub trusted : IsTrusted zones z.labels
  pub name : IsAmong c z.cuts.items
  pub source : IsAmong s c.sources.items
  pub proves : IsCaseCut z.labels s.case

abbrev pub IsProved : List ZoneFacts → QuestionFacts → Type 0
IsProved zones q = IsAnswered q ⊎ (IsDenied zones q ⊎ IsCut zones q)

-- ---- which facts are whole

-- The RRset is one of the zone's: a signature of it is by the zone, or none of its signatures is by a zone at or above its
-- owner.
abbrev pub IsOf : ℕ → RrsetFacts → Type 0
IsOf zone r = (list_any (is_by zone) r.signatures.items ≡ true)
    ⊎ ((s : SignatureFacts) → IsAmong s r.signatures.items → s.faults.signer ≡ true)

abbrev pub AreOf : ℕ → List RrsetFacts → Type 0
AreOf zone rrsets = (r : RrsetFacts) → IsAmong r rrsets → IsOf zone r

-- what follows from a signature is kept, and what is kept as signed is by a trusted zone
pub record IsWhole (zones : List ZoneFacts) (s : AnswerSignature) : Type 0 where
  pub closed : IsClosedSignature zones s.signature
  pub sound : s.signature.is_signed ≡ true → IsTrusted zones s.signature.signer
  pub closer : (c : CloserFacts) → s.closer ≡ Some c → AreOf s.signature.signer c.covers.items

abbrev pub AreAtOf : ℕ → RecordsAt → Type 0
AreAtOf zone (records.Denying rrsets) = AreOf zone rrsets.items
AreAtOf zone (records.Holding h) = ⊤

abbrev pub IsWildcardOf : ℕ → WildcardFacts → Type 0
IsWildcardOf zone wildcard.OptedOut = ⊤
IsWildcardOf zone (wildcard.At r) = AreAtOf zone r
IsWildcardOf zone (wildcard.Covered rrsets) = AreOf zone rrsets.items

abbrev pub IsCaseOf : ℕ → SourceCase → Type 0
IsCaseOf zone (case.Closed c) = ⊤
IsCaseOf zone (case.At r) = AreAtOf zone r
IsCaseOf zone case.Apex = ⊤
IsCaseOf zone (case.NonTerminal rrsets) = AreOf zone rrsets.items
IsCaseOf zone case.NoEncloser = ⊤
IsCaseOf zone (case.Encloser e) = AreOf zone e.shown.items × (AreOf zone e.covers.items × IsWildcardOf zone e.wildcard)

abbrev pub IsCutCaseOf : ℕ → CutCase → Type 0
IsCutCaseOf zone (cut.Delegation rrsets) = AreOf zone rrsets.items
IsCutCaseOf zone cut.NoCut = ⊤
IsCutCaseOf zone (cut.Signed s) = ⊤
IsCutCaseOf zone (cut.OptOut o) = AreOf zone o.shown.items × AreOf zone o.covers.items
IsCutCaseOf zone cut.Uncovered = ⊤
IsCutCaseOf zone cut.Unmatched = ⊤

-- the records that are named are those of the zones that they are named for
pub record IsWholeQuestion (zones : List ZoneFacts) (q : QuestionFacts) : Type 0 where
  pub answers : (g : GoalFacts) (s : AnswerSignature) → IsAmong g q.goals.items → IsAmong s g.signatures.items → IsWhole zones s
  pub denials : (z : SpeakerFacts) (s : SourceFacts) → IsAmong z q.speakers.items → IsAmong s z.sources.items → IsCaseOf z.labels s.case
  pub cuts : (z : ParentFacts) (c : CutFacts) (s : CutSource) → IsAmong z q.parents.items → IsAmong c z.cuts.items
      → IsAmong s c.sources.items → IsCutCaseOf z.labels s.case

-- ---- what is told

-- one of the lines says what fails
abbrev pub HasReason : Remedied → Type 0
HasReason m = (list_any is_reason m.chain ≡ true) ⊎ (list_any is_reason m.own ≡ true)

-- no line stands at two places
abbrev pub IsNowhereTwice : List Said → Type 0
IsNowhereTwice lines = (i j : ℕ) (line : Said) → slice_get lines i ≡ Some line → slice_get lines j ≡ Some line → i ≡ j

-- it is the first of them
pub record BeginsWith (line : Said) (lines : List Said) : Type 0 where
  pub rest : List Said
  pub is : lines ≡ line ∷ rest
