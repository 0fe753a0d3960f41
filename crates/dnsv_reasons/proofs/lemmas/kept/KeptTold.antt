-- What is told of a question, of which all is known.
use Rattle.std.proofs.Common.{◌≡◌, inl, inr, ℕ, zero, suc, ◌+◌, ◌<◌, ◌-◌, ◌++◌, Bool, true, false, if◌then◌else◌, List, [], ◌∷◌, Option, Some, None, length, drop, map, refl, sym, ap, ◌∙◌, subst, slice_get, arith}
use Rattle.std.proofs.lemmas.Bool.{false≢true}
use Rattle.std.specs.List.{AllByRecursion, AllZip, enumerate_from}
use Rattle.std.specs.Prelude.{IsTrue}
use Rattle.dnsv_names.specs.Name.{Labels, IsAtOrBelow, rightmost}
use Rattle.dnsv_names.specs.Tree.{wildcard_of}
use Rattle.dnsv_canonical.specs.declared.number.RecordNumber.{RecordNumber}
use Rattle.dnsv_canonical.proofs.OrderLemmas.{zip_at}
use Rattle.dnsv_anchors.specs.Anchor.{anchor_owner}
use Rattle.dnsv_anchors.specs.declared.anchor.Anchor.{Anchor}
use Rattle.dnsv_zone_faults.specs.Zones.{AreZoneFacts, IsAnchored}
use Rattle.dnsv_gaps.specs.Asking.{Asking}
use Rattle.dnsv_gaps.specs.Cases.{AreRecordsAt, AreWildcardFacts, IsHeldAt, IsSourceCase, why_held}
use Rattle.dnsv_gaps.specs.Sources.{source_said}
use Rattle.dnsv_gaps.specs.Speakers.{AreSourceFacts, AreSpeakerFacts}
use Rattle.dnsv_gaps.specs.questions.Questions.{AreQuestionFacts}
use Rattle.dnsv_zones.specs.forms.RecordWords.{RecordWords}
use Rattle.dnsv_chain.specs.Basis.{Basis, HasAnchor}
use Rattle.dnsv_lines.specs.declared.line.fault.denial.WhySource.{WhySource}
use Rattle.dnsv_names.specs.declared.number.RecordType.{RecordType}
use Rattle.dnsv_mending.specs.Ways.{IsAmong}
use Rattle.dnsv_mending.specs.Zone.{levels_of}
use Rattle.dnsv_mending.specs.declared.facts.zone.ZoneFacts.{ZoneFacts}
use Rattle.dnsv_mending.proofs.AllWays.{all_append}
use Rattle.dnsv_remedies.specs.Question.{all_lines, dname_line, is_said, lines_told, no_anchor, once_from, question_remedy, reasons_from, with_line, with_reason}
use Rattle.dnsv_remedies.specs.Remedy.{Remedied}
use Rattle.dnsv_remedies.specs.Said.{is_reason}
use Rattle.dnsv_remedies.specs.declared.facts.denial.RecordsAt.{RecordsAt}
use Rattle.dnsv_remedies.specs.declared.facts.denial.RecordsAt.TheVariants as records
use Rattle.dnsv_remedies.specs.declared.facts.denial.SourceCase.{SourceCase}
use Rattle.dnsv_remedies.specs.declared.facts.denial.SourceCase.TheVariants as case
use Rattle.dnsv_remedies.specs.declared.facts.denial.SourceFacts.{SourceFacts}
use Rattle.dnsv_remedies.specs.declared.facts.denial.SpeakerFacts.{SpeakerFacts}
use Rattle.dnsv_remedies.specs.declared.facts.denial.WildcardFacts.{WildcardFacts}
use Rattle.dnsv_remedies.specs.declared.facts.denial.WildcardFacts.TheVariants as wildcard
use Rattle.dnsv_remedies.specs.declared.facts.question.DnameFacts.{DnameFacts}
use Rattle.dnsv_remedies.specs.declared.facts.question.QuestionFacts.{QuestionFacts}
use Rattle.dnsv_remedies.specs.declared.said.Said.{Said}
use Rattle.dnsv_reasons.proofs.lemmas.kept.KeptOnce.{place_of}
use Rattle.dnsv_reasons.proofs.lemmas.kept.KeptRemedies.{Fits, is_of_wildcard}
use Rattle.dnsv_reasons.proofs.lemmas.kept.KeptWays.{AreCaseWords, AreHeldWords, AreWildcardWords, found_fits}
use Rattle.dnsv_reasons.proofs.lemmas.kept.KeptZones.{IsChosen, levels_good}

-- ---- the words of records at a wildcard

word_of : (number : RecordNumber) (held : Option RecordType) → is_of_wildcard (why_held number held) ≡ true
word_of number None = refl
word_of number (Some rtype) = refl

words_of : (said : RecordWords RecordNumber) (name : Labels) (t : ℕ) (numbers : List RecordNumber) (words : List WhySource)
    → AllZip (IsHeldAt said name t) numbers words → AllByRecursion (λ w. is_of_wildcard w ≡ true) words
words_of said name t [] [] are = tt
words_of said name t [] (w ∷ words) are = absurd are
words_of said name t (n ∷ numbers) [] are = absurd are
words_of said name t (n ∷ numbers) (w ∷ words) are =
    (ap is_of_wildcard are.0.is_told ∙ word_of n are.0.held, words_of said name t numbers words are.1)

module _ (basis : Basis) (said : RecordWords RecordNumber) where
  records_words : (name : Labels) (t : ℕ) (r : RecordsAt) → AreRecordsAt basis said name t r → AreHeldWords r
  records_words name t (records.Denying rrsets) are = tt
  records_words name t (records.Holding h) are = words_of said name t are.2.numbers h.held.items are.2.each

  wildcard_words : (next below : Labels) (t : ℕ) (w : WildcardFacts) → AreWildcardFacts basis said next below t w → AreWildcardWords w
  wildcard_words next below t (wildcard.At r) are = records_words below t r are.2
  wildcard_words next below t w are = tt

  case_words : (zone name : Labels) (t : ℕ) (c : SourceCase) → IsSourceCase basis said zone name t c → AreCaseWords c
  case_words zone name t (case.Encloser e) is = wildcard_words (rightmost name e.next) (wildcard_of (rightmost name e.name)) t e.wildcard is.1.wildcard
  case_words zone name t c is = tt

pub all_among : {X : Type 0} (P : X → Type 0) (xs : List X) (x : X) → AllByRecursion P xs → IsAmong x xs → P x
all_among {X} P [] x all among = absurd among
all_among {X} P (y ∷ ys) x all (inl is) = subst P (sym is) all.0
all_among {X} P (y ∷ ys) x all (inr among) = all_among P ys x all.1 among

question_words : (a : Asking) (q : QuestionFacts) → AreQuestionFacts a q → (z : SpeakerFacts) (s : SourceFacts) → IsAmong z q.speakers.items
    → IsAmong s z.sources.items → AreCaseWords s.case
question_words a q facts z s among its =
    let speaker : AreSpeakerFacts a z = all_among (AreSpeakerFacts a) q.speakers.items z facts.speakers.each among in
    let zone = rightmost a.name z.labels in
    let place = place_of z.sources.items s its in
    let found = zip_at (AreSourceFacts a zone) (enumerate_from 0 speaker.chains) z.sources.items place.0 s speaker.sources place.1 in
    case_words a.basis (source_said a zone found.0.1) zone a.name a.rtype s.case found.2.its_case

-- ---- lines, each once

module _ (P : Said → Type 0) where
  all_line : (before : List Said) (line : Said) (t : Bool) → AllByRecursion P before → P line
      → AllByRecursion P (if t then before else before ++ line ∷ [])
  all_line before line true all is = all
  all_line before line false all is = all_append P before (line ∷ []) all (is, tt)

  pub all_once : (lines before : List Said) → AllByRecursion P before → AllByRecursion P lines → AllByRecursion P (once_from before lines)
  all_once [] before first second = first
  all_once (line ∷ lines) before first second =
      all_once lines (with_line before line) (all_line before line (is_said before line) first second.0) second.1

  all_reason : (before : List Said) (line : Said) (t : Bool) → AllByRecursion P before → P line
      → AllByRecursion P (if t then with_line before line else before)
  all_reason before line true all is = all_line before line (is_said before line) all is
  all_reason before line false all is = all

  pub all_reasons : (lines before : List Said) → AllByRecursion P before → AllByRecursion P lines
      → AllByRecursion P (reasons_from before lines)
  all_reasons [] before first second = first
  all_reasons (line ∷ lines) before first second =
      all_reasons lines (with_reason before line) (all_reason before line (is_reason line) first second.0) second.1

-- ---- anchors

pub whole_name : (name : Labels) → rightmost name (length name) ≡ name
whole_name name = let none : length name - length name ≡ 0 = omega arith in ap (λ k. drop k name) none

pub anchored_whole : (anchors : List Anchor) (name : Labels) → HasAnchor anchors name → IsAnchored anchors (rightmost name (length name))
anchored_whole anchors name has = record {
  anchor = has.0;
  among = has.1;
  above = subst (λ (each : Labels). IsAtOrBelow each (anchor_owner has.0)) (sym (whole_name name)) has.2;
}

pub has_anchor : (anchors : List Anchor) (name : Labels) → IsAnchored anchors (rightmost name (length name)) → HasAnchor anchors name
has_anchor anchors name is =
    (is.anchor, is.among, subst (λ (each : Labels). IsAtOrBelow each (anchor_owner is.anchor)) (whole_name name) is.above)

there : {X : Type 0} (xs : List X) (n : ℕ) → n < length xs → (x : X) × (slice_get xs n ≡ Some x)
there {X} [] n less = absurd (omega (arith, less))
there {X} (x ∷ xs) zero less = (x, refl)
there {X} (x ∷ xs) (suc n) less = there xs n (omega (arith, less))

not_true : (b : Bool) → ¬ IsTrue b → b ≡ false
not_true true h = absurd (h refl)
not_true false h = refl

-- ---- what is told

module _ (a : Asking) (zones : List ZoneFacts) (of_zones : AreZoneFacts a.basis a.name a.rtype zones) (q : QuestionFacts)
    (of_question : AreQuestionFacts a q) where
  abbrev FitsHere : Bool → Said → Type 0
  FitsHere wild = Fits zones (IsChosen q.is_anchored zones) wild

  dnames_fit : (wild : Bool) (ds : List DnameFacts) → AllByRecursion (FitsHere wild) (map dname_line ds)
  unfolding dname_line
  dnames_fit wild [] = tt
  dnames_fit wild (d ∷ ds) = (tt, dnames_fit wild ds)

  all_fit : (o : Option Remedied) → question_remedy (levels_of q.is_anchored zones) q ≡ o
      → (wild : Bool) × AllByRecursion (FitsHere wild) (all_lines q o)
  all_fit None is = (false, dnames_fit false q.dnames.items)
  all_fit (Some m) is =
      let fit =
      found_fits zones (IsChosen q.is_anchored zones) (levels_of q.is_anchored zones) (levels_good q.is_anchored zones) q
      (question_words a q of_question) m is in
      let dnames = map dname_line q.dnames.items in (
        fit.0,
        all_append (FitsHere fit.0) (m.chain ++ dnames) m.own
            (all_append (FitsHere fit.0) m.chain dnames fit.1.chain (dnames_fit fit.0 q.dnames.items)) fit.1.own,
      )

  -- that nothing is anchored is so of the name's zone
  unanchored_fits : (wild : Bool) → q.is_anchored ≡ false → FitsHere wild (no_anchor q)
  unanchored_fits wild none =
      let count = of_zones.count in
      let labels = of_question.labels in
      let zone = there zones (length a.name) (omega (arith, count)) in
      let of_zone = of_zones.each (length a.name) zone.0 zone.1 in
      let bare : zone.0.is_anchored ≡ false = not_true zone.0.is_anchored (λ is.
      let has = has_anchor a.basis.anchors a.name (of_zone.anchored.0 is) in
      false≢true (sym none ∙ of_question.is_anchored.1 has)) in
      (zone.0, ap (slice_get zones) labels ∙ zone.1, bare)

  told_case : (wild : Bool) (lines : List Said) (t : Bool) → q.is_anchored ≡ t → AllByRecursion (FitsHere wild) lines
      → AllByRecursion (FitsHere wild) (if t then once_from [] lines else reasons_from (no_anchor q ∷ []) lines)
  told_case wild lines true is all = all_once (FitsHere wild) lines [] tt all
  told_case wild lines false is all = all_reasons (FitsHere wild) lines (no_anchor q ∷ []) (unanchored_fits wild is, tt) all

  pub told_fits : (wild : Bool) × AllByRecursion (FitsHere wild) (lines_told q (question_remedy (levels_of q.is_anchored zones) q))
  told_fits =
      let o = question_remedy (levels_of q.is_anchored zones) q in
      let fit = all_fit o refl in
      (fit.0, told_case fit.0 (all_lines q o) q.is_anchored refl fit.1)
