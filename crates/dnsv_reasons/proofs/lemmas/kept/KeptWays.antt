-- What is told on each way of a question, and on the one that is found.
use Rattle.std.proofs.Common.{◌≡◌, inl, inr, ℕ, ◌&&◌, Bool, true, false, if◌then◌else◌, List, [], ◌∷◌, Option, Some, None, flat_map, map, refl, subst}
use Rattle.std.specs.List.{AllByRecursion}
use Rattle.std.specs.Prelude.{⊤}
use Rattle.dnsv_canonical.specs.declared.number.RecordNumber.{RecordNumber}
use Rattle.dnsv_lines.specs.declared.line.denial.Role.TheVariants as role
use Rattle.dnsv_lines.specs.declared.line.fault.denial.WhySource.{WhySource}
use Rattle.dnsv_lines.specs.declared.line.fault.denial.WhySource.TheVariants as why
use Rattle.dnsv_mending.specs.Level.{Leveled, zone_above}
use Rattle.dnsv_mending.specs.Mend.{Mended, cheapest, is_none}
use Rattle.dnsv_mending.specs.Rrset.{signature_ways}
use Rattle.dnsv_mending.specs.Ways.{IsAmong}
use Rattle.dnsv_mending.specs.declared.facts.signature.RrsetFacts.{RrsetFacts}
use Rattle.dnsv_mending.specs.declared.facts.signature.SignatureFacts.{SignatureFacts}
use Rattle.dnsv_mending.specs.declared.facts.zone.ZoneFacts.{ZoneFacts}
use Rattle.dnsv_mending.specs.declared.price.Class.TheVariants as class
use Rattle.dnsv_mending.specs.declared.told.Told.TheVariants as told
use Rattle.dnsv_mending.proofs.AllWays.{all_append, all_flat, all_if}
use Rattle.dnsv_remedies.specs.Answers.{answer_ways, closer_remedy, goal_ways, stripped}
use Rattle.dnsv_remedies.specs.Cuts as cuts
use Rattle.dnsv_remedies.specs.Cuts.{cut_after, cut_least, cut_remedy, cut_source_ways, cut_ways, is_way, opt_out_remedy, parent_ways, signed_remedy, source_remedy}
use Rattle.dnsv_remedies.specs.Denials.{denial, denial_ways, lacking, other_ways, speaker_ways}
use Rattle.dnsv_remedies.specs.Parts.{part, part_of_one, zone_kept}
use Rattle.dnsv_remedies.specs.Question.{answer_or_denial, is_below_dname, question_ways}
use Rattle.dnsv_remedies.specs.Remedy.{Remedied, after, both, ended, fault, gap, least, missing, nothing, or_gap, untold, unusable_lines, ways_of, with_unusable}
use Rattle.dnsv_remedies.specs.Sources.{at_remedy, case_remedy, closed_line, closed_remedy, encloser_remedy, held_line, next_remedy, number_of, shown_remedy, source_ways, wildcard_remedy}
use Rattle.dnsv_remedies.specs.declared.facts.answer.AnswerSignature.{AnswerSignature}
use Rattle.dnsv_remedies.specs.declared.facts.answer.CloserFacts.{CloserFacts}
use Rattle.dnsv_remedies.specs.declared.facts.answer.GoalFacts.{GoalFacts}
use Rattle.dnsv_remedies.specs.declared.facts.cut.CutCase.{CutCase}
use Rattle.dnsv_remedies.specs.declared.facts.cut.CutCase.TheVariants as cut
use Rattle.dnsv_remedies.specs.declared.facts.cut.CutFacts.{CutFacts}
use Rattle.dnsv_remedies.specs.declared.facts.cut.CutSource.{CutSource}
use Rattle.dnsv_remedies.specs.declared.facts.cut.ParentFacts.{ParentFacts}
use Rattle.dnsv_remedies.specs.declared.facts.denial.ClosedFacts.{ClosedFacts}
use Rattle.dnsv_remedies.specs.declared.facts.denial.EncloserFacts.{EncloserFacts}
use Rattle.dnsv_remedies.specs.declared.facts.denial.RecordsAt.{RecordsAt}
use Rattle.dnsv_remedies.specs.declared.facts.denial.RecordsAt.TheVariants as records
use Rattle.dnsv_remedies.specs.declared.facts.denial.SourceCase.{SourceCase}
use Rattle.dnsv_remedies.specs.declared.facts.denial.SourceCase.TheVariants as case
use Rattle.dnsv_remedies.specs.declared.facts.denial.SourceFacts.{SourceFacts}
use Rattle.dnsv_remedies.specs.declared.facts.denial.SpeakerFacts.{SpeakerFacts}
use Rattle.dnsv_remedies.specs.declared.facts.denial.WildcardFacts.{WildcardFacts}
use Rattle.dnsv_remedies.specs.declared.facts.denial.WildcardFacts.TheVariants as wildcard
use Rattle.dnsv_remedies.specs.declared.facts.name.AskedName.TheVariants as name
use Rattle.dnsv_remedies.specs.declared.facts.name.SourceNumber.{SourceNumber}
use Rattle.dnsv_remedies.specs.declared.facts.question.QuestionFacts.{QuestionFacts}
use Rattle.dnsv_remedies.specs.declared.said.Said.{Said}
use Rattle.dnsv_remedies.specs.declared.said.Said.TheVariants as said
use Rattle.dnsv_remedies.proofs.Told.{of_least, of_least_or_gap}
use Rattle.dnsv_reasons.proofs.lemmas.kept.KeptLines.{GoodLevel, MayBeHere, here_above, here_cheapest, signature_here}
use Rattle.dnsv_reasons.proofs.lemmas.kept.KeptRemedies.{AllFit, AllFitOne, Fits, after_fits, beside_fits, both_fit, ended_fits, fault_fits, is_of_wildcard, missing_fits, nothing_fits, part_fits, part_of_one_fits, untold_fits, unusable_fit, with_unusable_fits, zone_kept_here}

-- ---- what is in the way in records at a wildcard

abbrev pub AreHeldWords : RecordsAt → Type 0
AreHeldWords (records.Denying rrsets) = ⊤
AreHeldWords (records.Holding h) = AllByRecursion (λ w. is_of_wildcard w ≡ true) h.held.items

abbrev pub AreWildcardWords : WildcardFacts → Type 0
AreWildcardWords (wildcard.At r) = AreHeldWords r
AreWildcardWords facts = ⊤

abbrev pub AreCaseWords : SourceCase → Type 0
AreCaseWords (case.Encloser e) = AreWildcardWords e.wildcard
AreCaseWords other = ⊤

module _ (zones : List ZoneFacts) (Chosen : RecordNumber → Type 0) (levels : List Leveled)
    (good : AllByRecursion (GoodLevel zones Chosen) levels) where
  -- ---- sources

  held_at : (n : SourceNumber) (x : ℕ) (held : List WhySource)
      → AllByRecursion (Fits zones Chosen false) (map (held_line n (name.At x)) held)
  unfolding held_line
  held_at n x [] = tt
  held_at n x (w ∷ held) = (inl refl, held_at n x held)

  held_wild : (n : SourceNumber) (x : ℕ) (held : List WhySource) → AllByRecursion (λ w. is_of_wildcard w ≡ true) held
      → AllByRecursion (Fits zones Chosen true) (map (held_line n (name.Wildcard x)) held)
  unfolding held_line
  held_wild n x [] all = tt
  held_wild n x (w ∷ held) all = ((refl, all.0), held_wild n x held all.1)

  at_fits : (n : SourceNumber) (x : ℕ) (r : RecordsAt) → AllFit zones Chosen false (at_remedy levels n (name.At x) r)
  at_fits n x (records.Denying rrsets) = part_fits zones Chosen false levels n.zone rrsets.items [] tt
  at_fits n x (records.Holding h) =
      let lines = map (held_line n (name.At x)) h.held.items in
      both_fit zones Chosen false (part levels n.zone h.rrsets.items []) (missing class.Lacking lines)
      (part_fits zones Chosen false levels n.zone h.rrsets.items [] tt)
      (missing_fits zones Chosen false class.Lacking lines (held_at n x h.held.items))

  wild_fits : (n : SourceNumber) (x : ℕ) (r : RecordsAt) → AreHeldWords r
      → AllFit zones Chosen true (at_remedy levels n (name.Wildcard x) r)
  wild_fits n x (records.Denying rrsets) words = part_fits zones Chosen true levels n.zone rrsets.items [] tt
  wild_fits n x (records.Holding h) words =
      let lines = map (held_line n (name.Wildcard x)) h.held.items in
      both_fit zones Chosen true (part levels n.zone h.rrsets.items []) (missing class.Lacking lines)
      (part_fits zones Chosen true levels n.zone h.rrsets.items [] tt)
      (missing_fits zones Chosen true class.Lacking lines (held_wild n x h.held.items words))

  closed_case : (n : SourceNumber) (c : ClosedFacts) (t : Bool)
      → Fits zones Chosen false (if t then said.DnameHeld c.name c.number else said.Source (why.Delegation c.number) n (name.At c.name))
  closed_case n c true = tt
  closed_case n c false = inl refl

  closed_fits : (n : SourceNumber) (c : ClosedFacts) → AllFit zones Chosen false (closed_remedy levels n c)
  closed_fits n c =
      both_fit zones Chosen false (part_of_one levels n.zone c.rrset) (missing class.Missing (closed_line n c ∷ []))
      (part_of_one_fits zones Chosen false levels n.zone c.rrset)
      (missing_fits zones Chosen false class.Missing (closed_line n c ∷ []) (closed_case n c c.is_dname, tt))

  wildcard_fits : (n : SourceNumber) (ce : ℕ) (w : WildcardFacts) → AreWildcardWords w
      → AllFit zones Chosen true (wildcard_remedy levels n ce w)
  wildcard_fits n ce wildcard.OptedOut words = nothing_fits zones Chosen true
  wildcard_fits n ce (wildcard.At r) words = wild_fits n ce r words
  wildcard_fits n ce (wildcard.Covered rrsets) words =
      part_fits zones Chosen true levels n.zone rrsets.items (said.Source (why.CoverMissing role.Wildcard) n (name.Wildcard ce) ∷ [])
      ((refl, refl), tt)

  shown_case : (n : SourceNumber) (rrsets : List RrsetFacts) (t : Bool)
      → AllFit zones Chosen true (if t then nothing else part levels n.zone rrsets [])
  shown_case n rrsets true = nothing_fits zones Chosen true
  shown_case n rrsets false = part_fits zones Chosen true levels n.zone rrsets [] tt

  next_fits : (labels : ℕ) (n : SourceNumber) (e : EncloserFacts) → AllFit zones Chosen true (next_remedy levels labels n e)
  next_fits labels n e =
      part_fits zones Chosen true levels n.zone e.covers.items
      (said.Source (why.CoverMissing role.NextCloser) n (name.At e.next) ∷ said.Source why.MatchMissing n (name.At labels) ∷ [])
      (inr refl, (inr refl, tt))

  encloser_fits : (labels : ℕ) (n : SourceNumber) (e : EncloserFacts) → AreWildcardWords e.wildcard
      → AllFit zones Chosen true (encloser_remedy levels labels n e)
  encloser_fits labels n e words =
      let later = both (next_remedy levels labels n e) (wildcard_remedy levels n e.name e.wildcard) in
      both_fit zones Chosen true (shown_remedy levels n e.shown.items) later (shown_case n e.shown.items (is_none e.shown.items))
      (both_fit zones Chosen true (next_remedy levels labels n e) (wildcard_remedy levels n e.name e.wildcard) (next_fits labels n e)
      (wildcard_fits n e.name e.wildcard words))

  case_fits : (labels : ℕ) (n : SourceNumber) (c : SourceCase) → AreCaseWords c → AllFitOne zones Chosen (case_remedy levels labels n c)
  case_fits labels n (case.Closed c) words = (false, closed_fits n c)
  case_fits labels n (case.At r) words = (false, at_fits n labels r)
  case_fits labels n case.Apex words =
      (false, missing_fits zones Chosen false class.Lacking (said.Source why.MatchMissing n (name.At labels) ∷ []) (inl refl, tt))
  case_fits labels n (case.NonTerminal rrsets) words = (false, part_fits zones Chosen false levels n.zone rrsets.items [] tt)
  case_fits labels n case.NoEncloser words = (
    false,
    missing_fits zones Chosen false class.Lacking
        (said.Source why.EncloserMissing n (name.At labels) ∷ said.Source why.MatchMissing n (name.At labels) ∷ [])
        (inl refl, (inl refl, tt)),
  )
  case_fits labels n (case.Encloser e) words = (true, encloser_fits labels n e words)

  source_fits : (labels zone : ℕ) (s : SourceFacts) → AreCaseWords s.case
      → AllByRecursion (AllFitOne zones Chosen) (source_ways levels labels zone s)
  unfolding source_ways
  source_fits labels zone s words = (case_fits labels (number_of zone s) s.case words, tt)

  -- ---- denials

  gap_fits : AllFitOne zones Chosen gap
  gap_fits = (false, missing_fits zones Chosen false class.Lacking [] tt)

  lacking_fits : (labels : ℕ) (z : SpeakerFacts) → ((s : SourceFacts) → IsAmong s z.sources.items → AreCaseWords s.case)
      → AllFitOne zones Chosen (lacking levels labels z)
  lacking_fits labels z words =
      let found = or_gap (least (flat_map (source_ways levels labels z.labels) z.sources.items)) in
      let fit : AllFitOne zones Chosen found =
      of_least_or_gap (AllFitOne zones Chosen) (flat_map (source_ways levels labels z.labels) z.sources.items) gap_fits
      (all_flat (AllFitOne zones Chosen) (source_ways levels labels z.labels) z.sources.items
      (λ s among. source_fits labels z.labels s (words s among))) in
      (fit.0, with_unusable_fits zones Chosen fit.0 z.unusable.items found fit.1)

  lacking_case : (m : Remedied) → AllFitOne zones Chosen m → (t : Bool) → AllFitOne zones Chosen (if t then gap else m)
  lacking_case m fit true = gap_fits
  lacking_case m fit false = fit

  ended_one : (line : Said) (m : Remedied) → ((wild : Bool) → Fits zones Chosen wild line) → AllFitOne zones Chosen m
      → AllFitOne zones Chosen (ended line m)
  ended_one line m fit all = (all.0, ended_fits zones Chosen all.0 line m (fit all.0) all.1)

  denial_case : (labels : ℕ) (is_dname : Bool) (z : SpeakerFacts) → ((s : SourceFacts) → IsAmong s z.sources.items → AreCaseWords s.case)
      → (t : Bool)
      → AllFitOne zones Chosen (if t then ended (said.DenialUnproved z.labels) (if is_dname then gap else lacking levels labels z)
      else fault class.Missing (said.AnswerMissing (Some z.labels)))
  denial_case labels is_dname z words true =
      ended_one (said.DenialUnproved z.labels) (if is_dname then gap else lacking levels labels z) (λ wild. tt)
      (lacking_case (lacking levels labels z) (lacking_fits labels z words) is_dname)
  denial_case labels is_dname z words false = (false, fault_fits zones Chosen false class.Missing (said.AnswerMissing (Some z.labels)) tt)

  speaker_fits : (labels : ℕ) (is_dname : Bool) (z : SpeakerFacts) → ((s : SourceFacts) → IsAmong s z.sources.items → AreCaseWords s.case)
      → AllByRecursion (AllFitOne zones Chosen) (speaker_ways levels labels is_dname z)
  speaker_fits labels is_dname z words =
      let fit = denial_case labels is_dname z words z.has_denials in
      after_fits zones Chosen fit.0 (zone_kept levels z.labels) (denial levels labels is_dname z)
      (zone_kept_here zones Chosen levels good z.labels) fit.1

  other_fits : (labels : ℕ) (z : SpeakerFacts) → ((s : SourceFacts) → IsAmong s z.sources.items → AreCaseWords s.case)
      → AllByRecursion (AllFitOne zones Chosen) (other_ways levels labels z)
  unfolding other_ways
  other_fits labels z words =
      all_if (AllFitOne zones Chosen) (lacking levels labels z).lacks [] (speaker_ways levels labels false z) (λ e. tt)
      (λ e. speaker_fits labels false z words)

  denials_fit : (labels : ℕ) (is_dname : Bool) (zs : List SpeakerFacts)
      → ((z : SpeakerFacts) (s : SourceFacts) → IsAmong z zs → IsAmong s z.sources.items → AreCaseWords s.case)
      → AllByRecursion (AllFitOne zones Chosen) (denial_ways levels labels is_dname zs)
  denials_fit labels is_dname [] words = ((false, fault_fits zones Chosen false class.Missing (said.AnswerMissing None) tt), tt)
  denials_fit labels is_dname (z ∷ zs) words =
      let others = if is_dname then [] else flat_map (other_ways levels labels) zs in
      all_append (AllFitOne zones Chosen) (speaker_ways levels labels is_dname z) others
      (speaker_fits labels is_dname z (λ s among. words z s (inl refl) among))
      (all_if (AllFitOne zones Chosen) is_dname [] (flat_map (other_ways levels labels) zs) (λ e. tt)
      (λ e. all_flat (AllFitOne zones Chosen) (other_ways levels labels) zs
      (λ other among. other_fits labels other (λ s its. words other s (inr among) its))))

  -- ---- answers

  closer_fits : (s : SignatureFacts) (o : Option CloserFacts) → AllFit zones Chosen false (closer_remedy levels s o)
  closer_fits s None = nothing_fits zones Chosen false
  closer_fits s (Some c) =
      let lines = unusable_lines c.unusable.items in
      ended_fits zones Chosen false (said.NoCloser s.number c.name) (part levels s.signer c.covers.items lines) tt
      (part_fits zones Chosen false levels s.signer c.covers.items lines (unusable_fit zones Chosen false c.unusable.items))

  answer_fits : (above : Option Mended) → MayBeHere zones Chosen above → (s : AnswerSignature)
      → AllByRecursion (AllFitOne zones Chosen) (answer_ways levels above s)
  unfolding answer_ways
  answer_fits above first s =
      beside_fits zones Chosen false (cheapest (signature_ways levels above s.signature)) (closer_remedy levels s.signature s.closer)
      (here_cheapest zones Chosen (signature_ways levels above s.signature)
      (signature_here zones Chosen levels good above s.signature first))
      (closer_fits s.signature s.closer)

  stripped_case : (g : GoalFacts) (t : Bool)
      → AllFit zones Chosen false (if t then untold class.Missing else fault class.Missing (said.Trust (told.Unsigned g.number)))
  stripped_case g true = untold_fits zones Chosen false class.Missing
  stripped_case g false = fault_fits zones Chosen false class.Missing (said.Trust (told.Unsigned g.number)) tt

  goal_fits : (above : Option Mended) → MayBeHere zones Chosen above → (is_dname : Bool) (g : GoalFacts)
      → AllByRecursion (AllFitOne zones Chosen) (goal_ways levels above is_dname g)
  unfolding goal_ways
  goal_fits above first is_dname g =
      all_if (AllFitOne zones Chosen) (is_none g.signatures.items) (after above (stripped is_dname g))
      (flat_map (answer_ways levels above) g.signatures.items)
      (λ none. after_fits zones Chosen false above (stripped is_dname g) first (stripped_case g (is_dname && g.is_cname)))
      (λ some. all_flat (AllFitOne zones Chosen) (answer_ways levels above) g.signatures.items (λ s among. answer_fits above first s))

  -- ---- unsigned delegations

  cut_fits : (n : SourceNumber) (c : ℕ) (one : CutCase) (m : Remedied) → cut_remedy levels n c one ≡ Some m → AllFit zones Chosen false m
  cut_fits n c (cut.Delegation rrsets) m is =
      let same : part levels n.zone rrsets.items [] ≡ m = cc in
      subst (AllFit zones Chosen false) same (part_fits zones Chosen false levels n.zone rrsets.items [] tt)
  cut_fits n c cut.NoCut m is = cc
  cut_fits n c (cut.Signed s) m is =
      let line = said.Source (why.TypeHeld s.number s.held) n (name.At c) in
      let same : signed_remedy levels n c s ≡ m = cc in
      subst (AllFit zones Chosen false) same
      (both_fit zones Chosen false (part_of_one levels n.zone s.rrset) (missing class.Lacking (line ∷ []))
      (part_of_one_fits zones Chosen false levels n.zone s.rrset)
      (missing_fits zones Chosen false class.Lacking (line ∷ []) (inl refl, tt)))
  cut_fits n c (cut.OptOut o) m is =
      let shown = said.Source why.EncloserMissing n (name.At c) ∷ [] in
      let same : opt_out_remedy levels n c o ≡ m = cc in
      subst (AllFit zones Chosen false) same
      (both_fit zones Chosen false (part levels n.zone o.shown.items shown) (part levels n.zone o.covers.items [])
      (part_fits zones Chosen false levels n.zone o.shown.items shown (inl refl, tt))
      (part_fits zones Chosen false levels n.zone o.covers.items [] tt))
  cut_fits n c cut.Uncovered m is =
      let lines = said.Source (why.CoverMissing role.Cut) n (name.At c) ∷ [] in
      let same : missing class.Lacking lines ≡ m = cc in
      subst (AllFit zones Chosen false) same (missing_fits zones Chosen false class.Lacking lines (inl refl, tt))
  cut_fits n c cut.Unmatched m is =
      let lines = said.Source why.MatchMissing n (name.At c) ∷ [] in
      let same : missing class.Lacking lines ≡ m = cc in
      subst (AllFit zones Chosen false) same (missing_fits zones Chosen false class.Lacking lines (inl refl, tt))

  all_ways : (o : Option Remedied) → ((m : Remedied) → o ≡ Some m → AllFit zones Chosen false m)
      → AllByRecursion (AllFit zones Chosen false) (ways_of o)
  all_ways None each = tt
  all_ways (Some m) each = (each m refl, tt)

  cut_source_fits : (zone c : ℕ) (s : CutSource) → AllByRecursion (AllFit zones Chosen false) (cut_source_ways levels zone c s)
  unfolding cut_source_ways
  cut_source_fits zone c s = all_ways (source_remedy levels zone c s) (cut_fits (cuts.number_of zone s) c s.case)

  least_case : (zone : ℕ) (c : CutFacts) (t : Bool) (m : Remedied)
      → (if t then Some gap else least (flat_map (cut_source_ways levels zone c.name) c.sources.items)) ≡ Some m
      → AllFit zones Chosen false m
  least_case zone c true m is =
      let same : gap ≡ m = cc in subst (AllFit zones Chosen false) same (missing_fits zones Chosen false class.Lacking [] tt)
  least_case zone c false m is =
      of_least (AllFit zones Chosen false) (flat_map (cut_source_ways levels zone c.name) c.sources.items) m
      (all_flat (AllFit zones Chosen false) (cut_source_ways levels zone c.name) c.sources.items
      (λ s among. cut_source_fits zone c.name s)) is

  cut_after_fits : (above : Option Mended) → MayBeHere zones Chosen above → (z : ParentFacts) (c : ℕ) (o : Option Remedied)
      → ((m : Remedied) → o ≡ Some m → AllFit zones Chosen false m) → AllByRecursion (AllFitOne zones Chosen) (cut_after above z c o)
  cut_after_fits above first z c None each = tt
  cut_after_fits above first z c (Some m) each =
      let line = said.DsUnproved (record { zone = z.labels; name = c }) in
      after_fits zones Chosen false above (ended line (with_unusable z.unusable.items m)) first
      (ended_fits zones Chosen false line (with_unusable z.unusable.items m) tt
      (with_unusable_fits zones Chosen false z.unusable.items m (each m refl)))

  cut_each : (z : ParentFacts) (c : CutFacts) → AllByRecursion (AllFitOne zones Chosen) (cut_ways levels z c)
  unfolding cut_ways
  cut_each z c =
      let found = cut_least levels z.labels c in
      all_if (AllFitOne zones Chosen) (is_way levels z.labels c) (cut_after (zone_kept levels z.labels) z c.name found) []
      (λ e. cut_after_fits (zone_kept levels z.labels) (zone_kept_here zones Chosen levels good z.labels) z c.name found
      (least_case z.labels c (is_none c.sources.items)))
      (λ e. tt)

  parent_fits : (z : ParentFacts) → AllByRecursion (AllFitOne zones Chosen) (parent_ways levels z)
  unfolding parent_ways
  parent_fits z = all_flat (AllFitOne zones Chosen) (cut_ways levels z) z.cuts.items (λ c among. cut_each z c)

  -- ---- the question

  module _ (q : QuestionFacts)
      (words : (z : SpeakerFacts) (s : SourceFacts) → IsAmong z q.speakers.items → IsAmong s z.sources.items → AreCaseWords s.case) where
    question_fits : AllByRecursion (AllFitOne zones Chosen) (question_ways levels q)
    question_fits =
        let above = zone_above levels in
        all_append (AllFitOne zones Chosen) (answer_or_denial levels q) (flat_map (parent_ways levels) q.parents.items)
        (all_if (AllFitOne zones Chosen) (is_none q.goals.items) (denial_ways levels q.labels (is_below_dname q) q.speakers.items)
        (flat_map (goal_ways levels above (is_below_dname q)) q.goals.items)
        (λ none. denials_fit q.labels (is_below_dname q) q.speakers.items words)
        (λ some. all_flat (AllFitOne zones Chosen) (goal_ways levels above (is_below_dname q)) q.goals.items
        (λ g among. goal_fits above (here_above zones Chosen levels good) (is_below_dname q) g)))
        (all_flat (AllFitOne zones Chosen) (parent_ways levels) q.parents.items (λ z among. parent_fits z))

    -- what is found
    pub found_fits : (m : Remedied) → least (question_ways levels q) ≡ Some m → AllFitOne zones Chosen m
    found_fits m is = of_least (AllFitOne zones Chosen) (question_ways levels q) m question_fits is
