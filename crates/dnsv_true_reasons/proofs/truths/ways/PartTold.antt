-- What facts of the RRsets of a part have told, and which RRsets the facts of a question have.
use Rattle.std.proofs.Common.{◌≡◌, ◌⊎◌, ℕ, true, false, List, [], Some}
use Rattle.std.specs.List.{list_any}
use Rattle.dnsv_lines.specs.declared.line.fault.signature.WhySignature.TheVariants as signature_why
use Rattle.dnsv_mending.specs.Faults.{signature_lines}
use Rattle.dnsv_mending.specs.Mend.{is_none}
use Rattle.dnsv_mending.specs.Ways.{IsAmong}
use Rattle.dnsv_mending.specs.Within.{is_by}
use Rattle.dnsv_mending.specs.declared.facts.signature.RrsetFacts.{RrsetFacts}
use Rattle.dnsv_mending.specs.declared.facts.signature.SignatureFacts.{SignatureFacts}
use Rattle.dnsv_mending.specs.declared.facts.zone.ZoneFacts.{ZoneFacts}
use Rattle.dnsv_mending.specs.declared.told.Told.{Told}
use Rattle.dnsv_mending.specs.declared.told.Told.TheVariants as told
use Rattle.dnsv_remedies.specs.declared.facts.answer.AnswerSignature.{AnswerSignature}
use Rattle.dnsv_remedies.specs.declared.facts.answer.CloserFacts.{CloserFacts}
use Rattle.dnsv_remedies.specs.declared.facts.answer.GoalFacts.{GoalFacts}
use Rattle.dnsv_remedies.specs.declared.facts.cut.CutCase.{CutCase}
use Rattle.dnsv_remedies.specs.declared.facts.cut.CutCase.TheVariants as cut
use Rattle.dnsv_remedies.specs.declared.facts.cut.CutFacts.{CutFacts}
use Rattle.dnsv_remedies.specs.declared.facts.cut.CutSource.{CutSource}
use Rattle.dnsv_remedies.specs.declared.facts.cut.ParentFacts.{ParentFacts}
use Rattle.dnsv_remedies.specs.declared.facts.denial.RecordsAt.{RecordsAt}
use Rattle.dnsv_remedies.specs.declared.facts.denial.RecordsAt.TheVariants as records
use Rattle.dnsv_remedies.specs.declared.facts.denial.SourceCase.{SourceCase}
use Rattle.dnsv_remedies.specs.declared.facts.denial.SourceCase.TheVariants as case
use Rattle.dnsv_remedies.specs.declared.facts.denial.SourceFacts.{SourceFacts}
use Rattle.dnsv_remedies.specs.declared.facts.denial.SpeakerFacts.{SpeakerFacts}
use Rattle.dnsv_remedies.specs.declared.facts.denial.WildcardFacts.{WildcardFacts}
use Rattle.dnsv_remedies.specs.declared.facts.denial.WildcardFacts.TheVariants as wildcard
use Rattle.dnsv_remedies.specs.declared.facts.question.QuestionFacts.{QuestionFacts}
use Rattle.dnsv_true_reasons.proofs.truths.ways.Told.{IsOfSignature}

-- ---- an RRset, within the zone with so many labels: by its signatures, those by the zone alone where there are such

pub data IsOfPart (zones : List ZoneFacts) (zone : ℕ) (r : RrsetFacts) : Told → Type 0 where
  part_unsigned : is_none r.signatures.items ≡ true → IsOfPart zones zone r (told.Unsigned r.number)
  by_zone : (s : SignatureFacts) (t : Told) → IsAmong s r.signatures.items → is_by zone s ≡ true → IsOfSignature zones s t
      → IsOfPart zones zone r t
  by_another : (s : SignatureFacts) (t : Told) → IsAmong s r.signatures.items → list_any (is_by zone) r.signatures.items ≡ false
      → IsOfSignature zones s t → IsOfPart zones zone r t
  unfounded : (s : SignatureFacts) → IsAmong s r.signatures.items → list_any (is_by zone) r.signatures.items ≡ false
      → signature_lines s ≡ []
      → IsOfPart zones zone r (told.Signature signature_why.KeyUntrusted s.number)

-- ---- the RRsets of parts

abbrev pub IsOneAt : RecordsAt → RrsetFacts → Type 0
IsOneAt (records.Denying rrsets) r = IsAmong r rrsets.items
IsOneAt (records.Holding h) r = IsAmong r h.rrsets.items

abbrev pub IsOneOfWildcard : WildcardFacts → RrsetFacts → Type 0
IsOneOfWildcard wildcard.OptedOut r = ⊥
IsOneOfWildcard (wildcard.At found) r = IsOneAt found r
IsOneOfWildcard (wildcard.Covered rrsets) r = IsAmong r rrsets.items

abbrev pub IsOneOfCase : SourceCase → RrsetFacts → Type 0
IsOneOfCase (case.Closed c) r = r ≡ c.rrset
IsOneOfCase (case.At found) r = IsOneAt found r
IsOneOfCase (case.NonTerminal rrsets) r = IsAmong r rrsets.items
IsOneOfCase (case.Encloser e) r = IsAmong r e.shown.items ⊎ (IsAmong r e.covers.items ⊎ IsOneOfWildcard e.wildcard r)
IsOneOfCase other r = ⊥

abbrev pub IsOneOfCut : CutCase → RrsetFacts → Type 0
IsOneOfCut (cut.Delegation rrsets) r = IsAmong r rrsets.items
IsOneOfCut (cut.Signed s) r = r ≡ s.rrset
IsOneOfCut (cut.OptOut o) r = IsAmong r o.shown.items ⊎ IsAmong r o.covers.items
IsOneOfCut other r = ⊥

-- the RRset is one of a part by the zone with so many labels
pub data IsPartOf (q : QuestionFacts) : ℕ → RrsetFacts → Type 0 where
  of_closer : (g : GoalFacts) (s : AnswerSignature) (c : CloserFacts) (r : RrsetFacts) → IsAmong g q.goals.items
      → IsAmong s g.signatures.items
      → s.closer ≡ Some c → IsAmong r c.covers.items → IsPartOf q s.signature.signer r
  of_source : (z : SpeakerFacts) (s : SourceFacts) (r : RrsetFacts) → IsAmong z q.speakers.items → IsAmong s z.sources.items
      → IsOneOfCase s.case r
      → IsPartOf q z.labels r
  of_cut : (z : ParentFacts) (c : CutFacts) (s : CutSource) (r : RrsetFacts) → IsAmong z q.parents.items → IsAmong c z.cuts.items
      → IsAmong s c.sources.items → IsOneOfCut s.case r → IsPartOf q z.labels r
