-- When the facts of two questions are alike: all that they say is equal. Only where their lists lie in memory may differ.
use Rattle.std.specs.Prelude.{◌≡◌, ℕ, Option, Some, None}
use Rattle.std.specs.Global.{Vec}
use Rattle.std.specs.List.{AllZip}
use Rattle.dnsv_mending.specs.declared.facts.signature.RrsetFacts.{RrsetFacts}
use Rattle.dnsv_remedies.specs.declared.facts.answer.AnswerSignature.{AnswerSignature}
use Rattle.dnsv_remedies.specs.declared.facts.answer.CloserFacts.{CloserFacts}
use Rattle.dnsv_remedies.specs.declared.facts.answer.GoalFacts.{GoalFacts}
use Rattle.dnsv_remedies.specs.declared.facts.cut.CutCase.{CutCase}
use Rattle.dnsv_remedies.specs.declared.facts.cut.CutCase.TheVariants as cut
use Rattle.dnsv_remedies.specs.declared.facts.cut.CutFacts.{CutFacts}
use Rattle.dnsv_remedies.specs.declared.facts.cut.CutSource.{CutSource}
use Rattle.dnsv_remedies.specs.declared.facts.cut.OptOutFacts.{OptOutFacts}
use Rattle.dnsv_remedies.specs.declared.facts.cut.ParentFacts.{ParentFacts}
use Rattle.dnsv_remedies.specs.declared.facts.cut.SignedCutFacts.{SignedCutFacts}
use Rattle.dnsv_remedies.specs.declared.facts.denial.ClosedFacts.{ClosedFacts}
use Rattle.dnsv_remedies.specs.declared.facts.denial.EncloserFacts.{EncloserFacts}
use Rattle.dnsv_remedies.specs.declared.facts.denial.HoldingFacts.{HoldingFacts}
use Rattle.dnsv_remedies.specs.declared.facts.denial.RecordsAt.{RecordsAt}
use Rattle.dnsv_remedies.specs.declared.facts.denial.RecordsAt.TheVariants as records
use Rattle.dnsv_remedies.specs.declared.facts.denial.SourceCase.{SourceCase}
use Rattle.dnsv_remedies.specs.declared.facts.denial.SourceCase.TheVariants as case
use Rattle.dnsv_remedies.specs.declared.facts.denial.SourceFacts.{SourceFacts}
use Rattle.dnsv_remedies.specs.declared.facts.denial.SpeakerFacts.{SpeakerFacts}
use Rattle.dnsv_remedies.specs.declared.facts.denial.WildcardFacts.{WildcardFacts}
use Rattle.dnsv_remedies.specs.declared.facts.denial.WildcardFacts.TheVariants as wildcard
use Rattle.dnsv_remedies.specs.declared.facts.question.QuestionFacts.{QuestionFacts}
use Rattle.dnsv_remedy_laws.specs.AlikeZones.{AreAlikeRrsets, AreAlikeSignatures}

-- the RRsets of a part
abbrev pub AreAlikeParts : Vec RrsetFacts → Vec RrsetFacts → Type 0
AreAlikeParts a b = AllZip AreAlikeRrsets a.items b.items

-- ---- answers

pub record AreAlikeClosers (a b : CloserFacts) : Type 0 where
  pub name : a.name ≡ b.name
  pub covers : AreAlikeParts a.covers b.covers
  pub unusable : a.unusable.items ≡ b.unusable.items

pub data MayBeAlikeClosers : Option CloserFacts → Option CloserFacts → Type 0 where
  without : MayBeAlikeClosers None None
  with_one : (a b : CloserFacts) → AreAlikeClosers a b → MayBeAlikeClosers (Some a) (Some b)

pub record AreAlikeAnswers (a b : AnswerSignature) : Type 0 where
  pub signature : AreAlikeSignatures a.signature b.signature
  pub closer : MayBeAlikeClosers a.closer b.closer

pub record AreAlikeGoals (a b : GoalFacts) : Type 0 where
  pub number : a.number ≡ b.number
  pub is_cname : a.is_cname ≡ b.is_cname
  pub signatures : AllZip AreAlikeAnswers a.signatures.items b.signatures.items

-- ---- denials

pub record AreAlikeHoldings (a b : HoldingFacts) : Type 0 where
  pub rrsets : AreAlikeParts a.rrsets b.rrsets
  pub held : a.held.items ≡ b.held.items

pub data AreAlikeRecords : RecordsAt → RecordsAt → Type 0 where
  denying : (a b : Vec RrsetFacts) → AreAlikeParts a b → AreAlikeRecords (records.Denying a) (records.Denying b)
  holding : (a b : HoldingFacts) → AreAlikeHoldings a b → AreAlikeRecords (records.Holding a) (records.Holding b)

pub record AreAlikeClosed (a b : ClosedFacts) : Type 0 where
  pub name : a.name ≡ b.name
  pub number : a.number ≡ b.number
  pub is_dname : a.is_dname ≡ b.is_dname
  pub rrset : AreAlikeRrsets a.rrset b.rrset

pub data AreAlikeWildcards : WildcardFacts → WildcardFacts → Type 0 where
  opted_out : AreAlikeWildcards wildcard.OptedOut wildcard.OptedOut
  at : (a b : RecordsAt) → AreAlikeRecords a b → AreAlikeWildcards (wildcard.At a) (wildcard.At b)
  covered : (a b : Vec RrsetFacts) → AreAlikeParts a b → AreAlikeWildcards (wildcard.Covered a) (wildcard.Covered b)

pub record AreAlikeEnclosers (a b : EncloserFacts) : Type 0 where
  pub name : a.name ≡ b.name
  pub next : a.next ≡ b.next
  pub shown : AreAlikeParts a.shown b.shown
  pub covers : AreAlikeParts a.covers b.covers
  pub wildcard : AreAlikeWildcards a.wildcard b.wildcard

pub data AreAlikeCases : SourceCase → SourceCase → Type 0 where
  closed : (a b : ClosedFacts) → AreAlikeClosed a b → AreAlikeCases (case.Closed a) (case.Closed b)
  at : (a b : RecordsAt) → AreAlikeRecords a b → AreAlikeCases (case.At a) (case.At b)
  apex : AreAlikeCases case.Apex case.Apex
  non_terminal : (a b : Vec RrsetFacts) → AreAlikeParts a b → AreAlikeCases (case.NonTerminal a) (case.NonTerminal b)
  no_encloser : AreAlikeCases case.NoEncloser case.NoEncloser
  encloser : (a b : EncloserFacts) → AreAlikeEnclosers a b → AreAlikeCases (case.Encloser a) (case.Encloser b)

pub record AreAlikeSources (a b : SourceFacts) : Type 0 where
  pub place : a.place ≡ b.place
  pub its_case : AreAlikeCases a.case b.case

pub record AreAlikeSpeakers (a b : SpeakerFacts) : Type 0 where
  pub labels : a.labels ≡ b.labels
  pub has_denials : a.has_denials ≡ b.has_denials
  pub sources : AllZip AreAlikeSources a.sources.items b.sources.items
  pub unusable : a.unusable.items ≡ b.unusable.items

-- ---- unsigned delegations

pub record AreAlikeSignedCuts (a b : SignedCutFacts) : Type 0 where
  pub number : a.number ≡ b.number
  pub held : a.held ≡ b.held
  pub rrset : AreAlikeRrsets a.rrset b.rrset

pub record AreAlikeOptOuts (a b : OptOutFacts) : Type 0 where
  pub shown : AreAlikeParts a.shown b.shown
  pub covers : AreAlikeParts a.covers b.covers

pub data AreAlikeCutCases : CutCase → CutCase → Type 0 where
  delegation : (a b : Vec RrsetFacts) → AreAlikeParts a b → AreAlikeCutCases (cut.Delegation a) (cut.Delegation b)
  no_cut : AreAlikeCutCases cut.NoCut cut.NoCut
  signed : (a b : SignedCutFacts) → AreAlikeSignedCuts a b → AreAlikeCutCases (cut.Signed a) (cut.Signed b)
  opt_out : (a b : OptOutFacts) → AreAlikeOptOuts a b → AreAlikeCutCases (cut.OptOut a) (cut.OptOut b)
  uncovered : AreAlikeCutCases cut.Uncovered cut.Uncovered
  unmatched : AreAlikeCutCases cut.Unmatched cut.Unmatched

pub record AreAlikeCutSources (a b : CutSource) : Type 0 where
  pub place : a.place ≡ b.place
  pub its_case : AreAlikeCutCases a.case b.case

pub record AreAlikeCuts (a b : CutFacts) : Type 0 where
  pub name : a.name ≡ b.name
  pub is_shown : a.is_shown ≡ b.is_shown
  pub sources : AllZip AreAlikeCutSources a.sources.items b.sources.items

pub record AreAlikeParents (a b : ParentFacts) : Type 0 where
  pub labels : a.labels ≡ b.labels
  pub cuts : AllZip AreAlikeCuts a.cuts.items b.cuts.items
  pub unusable : a.unusable.items ≡ b.unusable.items

-- ---- questions

pub record AreAlikeQuestions (a b : QuestionFacts) : Type 0 where
  pub labels : a.labels ≡ b.labels
  pub is_anchored : a.is_anchored ≡ b.is_anchored
  pub goals : AllZip AreAlikeGoals a.goals.items b.goals.items
  pub dnames : a.dnames.items ≡ b.dnames.items
  pub speakers : AllZip AreAlikeSpeakers a.speakers.items b.speakers.items
  pub parents : AllZip AreAlikeParents a.parents.items b.parents.items
