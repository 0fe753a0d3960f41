-- What facts of a question have told.
use Rattle.std.proofs.Common.{◌≡◌, ◌⊎◌, ◌∷◌, ℕ, true, false, List, [], Some, None}
use Rattle.dnsv_lines.specs.declared.line.denial.Role.TheVariants as role
use Rattle.dnsv_lines.specs.declared.line.fault.denial.WhySource.TheVariants as why
use Rattle.dnsv_lines.specs.declared.line.fault.denial.WhySource.{WhySource}
use Rattle.dnsv_lines.specs.declared.line.fault.zone.WhyZone.TheVariants as zone_why
use Rattle.dnsv_mending.specs.Mend.{is_none}
use Rattle.dnsv_mending.specs.Ways.{IsAmong}
use Rattle.dnsv_mending.specs.declared.facts.signature.RrsetFacts.{RrsetFacts}
use Rattle.dnsv_mending.specs.declared.facts.zone.ZoneFacts.{ZoneFacts}
use Rattle.dnsv_mending.specs.declared.told.Told.{Told}
use Rattle.dnsv_mending.specs.declared.told.Told.TheVariants as told
use Rattle.dnsv_remedies.specs.Cuts as cuts
use Rattle.dnsv_remedies.specs.Sources as sources
use Rattle.dnsv_remedies.specs.Sources.{closed_line}
use Rattle.dnsv_remedies.specs.declared.facts.answer.AnswerSignature.{AnswerSignature}
use Rattle.dnsv_remedies.specs.declared.facts.answer.CloserFacts.{CloserFacts}
use Rattle.dnsv_remedies.specs.declared.facts.answer.GoalFacts.{GoalFacts}
use Rattle.dnsv_remedies.specs.declared.facts.cut.CutCase.{CutCase}
use Rattle.dnsv_remedies.specs.declared.facts.cut.CutCase.TheVariants as cut
use Rattle.dnsv_remedies.specs.declared.facts.cut.CutFacts.{CutFacts}
use Rattle.dnsv_remedies.specs.declared.facts.cut.CutSource.{CutSource}
use Rattle.dnsv_remedies.specs.declared.facts.cut.ParentFacts.{ParentFacts}
use Rattle.dnsv_remedies.specs.declared.facts.denial.RecordsAt.{RecordsAt}
use Rattle.dnsv_remedies.specs.declared.facts.denial.RecordsAt.TheVariants as records
use Rattle.dnsv_remedies.specs.declared.facts.denial.SourceCase.{SourceCase}
use Rattle.dnsv_remedies.specs.declared.facts.denial.SourceCase.TheVariants as case
use Rattle.dnsv_remedies.specs.declared.facts.denial.SourceFacts.{SourceFacts}
use Rattle.dnsv_remedies.specs.declared.facts.denial.SpeakerFacts.{SpeakerFacts}
use Rattle.dnsv_remedies.specs.declared.facts.denial.WildcardFacts.{WildcardFacts}
use Rattle.dnsv_remedies.specs.declared.facts.denial.WildcardFacts.TheVariants as wildcard
use Rattle.dnsv_remedies.specs.declared.facts.name.AskedName.{AskedName}
use Rattle.dnsv_remedies.specs.declared.facts.name.AskedName.TheVariants as name
use Rattle.dnsv_remedies.specs.declared.facts.name.SourceNumber.{SourceNumber}
use Rattle.dnsv_remedies.specs.declared.facts.name.UnusableFacts.{UnusableFacts}
use Rattle.dnsv_remedies.specs.declared.facts.question.DnameFacts.{DnameFacts}
use Rattle.dnsv_remedies.specs.declared.facts.question.QuestionFacts.{QuestionFacts}
use Rattle.dnsv_remedies.specs.declared.said.Said.{Said}
use Rattle.dnsv_remedies.specs.declared.said.Said.TheVariants as said
use Rattle.dnsv_true_reasons.proofs.truths.ways.PartTold.{IsOfPart, IsPartOf}
use Rattle.dnsv_true_reasons.proofs.truths.ways.Told.{IsOfSignature, IsOfZones}

-- ---- what a source says

-- of records at a name
abbrev pub IsOfRecordsAt : SourceNumber → AskedName → RecordsAt → Said → Type 0
IsOfRecordsAt n x (records.Denying rrsets) line = ⊥
IsOfRecordsAt n x (records.Holding h) line = (w : WhySource) × IsAmong w h.held.items × (line ≡ said.Source w n x)

abbrev pub IsOfWildcard : SourceNumber → ℕ → WildcardFacts → Said → Type 0
IsOfWildcard n ce wildcard.OptedOut line = ⊥
IsOfWildcard n ce (wildcard.At found) line = IsOfRecordsAt n (name.Wildcard ce) found line
IsOfWildcard n ce (wildcard.Covered rrsets) line = (rrsets.items ≡ [])
    × (line ≡ said.Source (why.CoverMissing role.Wildcard) n (name.Wildcard ce))

-- of a question about a name with so many labels
abbrev pub IsOfCase : ℕ → SourceNumber → SourceCase → Said → Type 0
IsOfCase labels n (case.Closed c) line = line ≡ closed_line n c
IsOfCase labels n (case.At found) line = IsOfRecordsAt n (name.At labels) found line
IsOfCase labels n case.Apex line = line ≡ said.Source why.MatchMissing n (name.At labels)
IsOfCase labels n (case.NonTerminal rrsets) line = ⊥
IsOfCase labels n case.NoEncloser line =
    (line ≡ said.Source why.EncloserMissing n (name.At labels)) ⊎ (line ≡ said.Source why.MatchMissing n (name.At labels))
IsOfCase labels n (case.Encloser e) line =
    ((e.covers.items ≡ []) × ((line ≡ said.Source (why.CoverMissing role.NextCloser) n (name.At e.next))
    ⊎ (line ≡ said.Source why.MatchMissing n (name.At labels)))) ⊎ IsOfWildcard n e.name e.wildcard line

-- of a name that may be an unsigned delegation
abbrev pub IsOfCut : SourceNumber → ℕ → CutCase → Said → Type 0
IsOfCut n c (cut.Signed s) line = line ≡ said.Source (why.TypeHeld s.number s.held) n (name.At c)
IsOfCut n c (cut.OptOut o) line = (o.shown.items ≡ []) × (line ≡ said.Source why.EncloserMissing n (name.At c))
IsOfCut n c cut.Uncovered line = line ≡ said.Source (why.CoverMissing role.Cut) n (name.At c)
IsOfCut n c cut.Unmatched line = line ≡ said.Source why.MatchMissing n (name.At c)
IsOfCut n c other line = ⊥

-- the source proves an unsigned delegation, if its records are signed
abbrev pub IsProvingCase : CutCase → Type 0
IsProvingCase (cut.Delegation rrsets) = is_none rrsets.items ≡ false
IsProvingCase (cut.OptOut o) = (is_none o.shown.items ≡ false) × (is_none o.covers.items ≡ false)
IsProvingCase other = ⊥

-- the name is a way: it is shown, or some source proves it
abbrev pub IsWayBy : CutFacts → Type 0
IsWayBy c = (c.is_shown ≡ true) ⊎ ((s : CutSource) × IsAmong s c.sources.items × IsProvingCase s.case)

-- ---- the question

pub data IsSaidOf (zones : List ZoneFacts) (q : QuestionFacts) : Said → Type 0 where
  of_zones : (t : Told) → IsOfZones zones t → IsSaidOf zones q (said.Trust t)
  not_anchored : q.is_anchored ≡ false → IsSaidOf zones q (said.Trust (told.Zone zone_why.NoAnchor q.labels))
  of_goal : (g : GoalFacts) → IsAmong g q.goals.items → is_none g.signatures.items ≡ true
      → IsSaidOf zones q (said.Trust (told.Unsigned g.number))
  of_answer : (g : GoalFacts) (s : AnswerSignature) (t : Told) → IsAmong g q.goals.items → IsAmong s g.signatures.items
      → IsOfSignature zones s.signature t → IsSaidOf zones q (said.Trust t)
  of_part : (zone : ℕ) (r : RrsetFacts) (t : Told) → IsPartOf q zone r → IsOfPart zones zone r t → IsSaidOf zones q (said.Trust t)
  no_closer : (g : GoalFacts) (s : AnswerSignature) (c : CloserFacts) → IsAmong g q.goals.items → IsAmong s g.signatures.items
      → s.closer ≡ Some c → IsSaidOf zones q (said.NoCloser s.signature.number c.name)
  of_dname : (d : DnameFacts) → IsAmong d q.dnames.items → IsSaidOf zones q (said.Dname d)
  closer_unusable : (g : GoalFacts) (s : AnswerSignature) (c : CloserFacts) (u : UnusableFacts) → IsAmong g q.goals.items
      → IsAmong s g.signatures.items → s.closer ≡ Some c → IsAmong u c.unusable.items → IsSaidOf zones q (said.Nsec3 u.why u.number)
  speaker_unusable : (z : SpeakerFacts) (u : UnusableFacts) → IsAmong z q.speakers.items → IsAmong u z.unusable.items
      → IsSaidOf zones q (said.Nsec3 u.why u.number)
  parent_unusable : (z : ParentFacts) (u : UnusableFacts) → IsAmong z q.parents.items → IsAmong u z.unusable.items
      → IsSaidOf zones q (said.Nsec3 u.why u.number)
  of_case : (z : SpeakerFacts) (s : SourceFacts) (line : Said) → is_none q.goals.items ≡ true → IsAmong z q.speakers.items
      → IsAmong s z.sources.items
      → IsOfCase q.labels (sources.number_of z.labels s) s.case line → IsSaidOf zones q line
  of_cut_case : (z : ParentFacts) (c : CutFacts) (s : CutSource) (line : Said) → IsAmong z q.parents.items → IsAmong c z.cuts.items
      → IsAmong s c.sources.items → IsOfCut (cuts.number_of z.labels s) c.name s.case line → IsSaidOf zones q line
  no_speaker : is_none q.goals.items ≡ true → q.speakers.items ≡ [] → IsSaidOf zones q (said.AnswerMissing None)
  no_denial : (z : SpeakerFacts) (others : List SpeakerFacts) → is_none q.goals.items ≡ true → q.speakers.items ≡ z ∷ others
      → z.has_denials ≡ false
      → IsSaidOf zones q (said.AnswerMissing (Some z.labels))
  no_denial_but_source : (z : SpeakerFacts) → IsAmong z q.speakers.items → z.has_denials ≡ false → is_none z.sources.items ≡ false
      → IsSaidOf zones q (said.AnswerMissing (Some z.labels))
  denial_unproved : (z : SpeakerFacts) → is_none q.goals.items ≡ true → IsAmong z q.speakers.items → z.has_denials ≡ true
      → IsSaidOf zones q (said.DenialUnproved z.labels)
  ds_unproved : (z : ParentFacts) (c : CutFacts) → IsAmong z q.parents.items → IsAmong c z.cuts.items → IsWayBy c
      → IsSaidOf zones q (said.DsUnproved (record { zone = z.labels; name = c.name }))
