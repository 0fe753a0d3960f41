-- What is told of a question is what its facts have told.
use Rattle.std.proofs.Common.{◌≡◌, inl, inr, ℕ, ◌++◌, ◌&&◌, ◌||◌, Bool, true, false, if◌then◌else◌, List, [], ◌∷◌, Option, Some, None, map, flat_map, refl, sym, ◌∙◌, subst, slice_get}
use Rattle.std.proofs.lemmas.Bool.{false≢true}
use Rattle.std.specs.List.{AllByRecursion, list_any}
use Rattle.dnsv_mending.specs.Level.{Leveled, zone_above}
use Rattle.dnsv_mending.specs.Mend.{Mended, cheapest, is_none}
use Rattle.dnsv_mending.specs.Rrset.{signature_ways}
use Rattle.dnsv_mending.specs.Ways.{IsAmong}
use Rattle.dnsv_mending.specs.Zone.{levels_of}
use Rattle.dnsv_mending.specs.declared.facts.zone.ZoneFacts.{ZoneFacts}
use Rattle.dnsv_mending.specs.declared.price.Class.TheVariants as class
use Rattle.dnsv_mending.specs.declared.told.Told.{Told}
use Rattle.dnsv_mending.specs.declared.told.Told.TheVariants as told
use Rattle.dnsv_mending.proofs.AllWays.{all_append, all_flat, all_if, all_map, none_some}
use Rattle.dnsv_mending.proofs.SomeWays.{passing}
use Rattle.dnsv_remedies.specs.Answers.{answer_ways, closer_remedy, goal_ways, stripped}
use Rattle.dnsv_remedies.specs.Cuts.{cut_after, cut_least, cut_source_ways, cut_ways, is_proving, is_way, number_of, parent_ways, source_remedy}
use Rattle.dnsv_remedies.specs.Denials.{denial, denial_ways, lacking, other_ways, speaker_ways}
use Rattle.dnsv_remedies.specs.Parts.{part, zone_kept, zone_of}
use Rattle.dnsv_remedies.specs.Question.{all_lines, answer_or_denial, dname_line, is_below_dname, lines_told, no_anchor, once_from, question_remedy, question_ways, reasons_from, is_said}
use Rattle.dnsv_remedies.specs.Remedy.{Remedied, after, ended, fault, gap, least, or_gap, unusable_lines, untold, ways_of, whole, with_unusable}
use Rattle.dnsv_remedies.specs.Said.{is_reason}
use Rattle.dnsv_remedies.specs.Sources as sources
use Rattle.dnsv_remedies.specs.Sources.{source_ways}
use Rattle.dnsv_remedies.specs.declared.facts.answer.AnswerSignature.{AnswerSignature}
use Rattle.dnsv_remedies.specs.declared.facts.answer.CloserFacts.{CloserFacts}
use Rattle.dnsv_remedies.specs.declared.facts.answer.GoalFacts.{GoalFacts}
use Rattle.dnsv_remedies.specs.declared.facts.cut.CutFacts.{CutFacts}
use Rattle.dnsv_remedies.specs.declared.facts.cut.CutSource.{CutSource}
use Rattle.dnsv_remedies.specs.declared.facts.cut.ParentFacts.{ParentFacts}
use Rattle.dnsv_remedies.specs.declared.facts.denial.SourceFacts.{SourceFacts}
use Rattle.dnsv_remedies.specs.declared.facts.denial.SpeakerFacts.{SpeakerFacts}
use Rattle.dnsv_remedies.specs.declared.facts.question.DnameFacts.{DnameFacts}
use Rattle.dnsv_remedies.specs.declared.facts.question.QuestionFacts.{QuestionFacts}
use Rattle.dnsv_remedies.specs.declared.said.Said.{Said}
use Rattle.dnsv_remedies.specs.declared.said.Said.TheVariants as said
use Rattle.dnsv_remedies.proofs.Told.{all_after, all_beside, of_least, of_least_or_gap}
use Rattle.dnsv_true_reasons.proofs.truths.ways.MendLines.{Kept, of_least as cheapest_kept}
use Rattle.dnsv_true_reasons.proofs.truths.ways.PartTold.IsPartOf.{of_closer, of_cut, of_source}
use Rattle.dnsv_true_reasons.proofs.truths.ways.PartWays.{part_says}
use Rattle.dnsv_true_reasons.proofs.truths.ways.RemedyLines.{Says, all_unusable, says_both, says_ended, says_fault, says_following, says_gap, says_nothing, says_untold, says_unusable, says_whole}
use Rattle.dnsv_true_reasons.proofs.truths.ways.SaidOf.{IsProvingCase, IsSaidOf, IsWayBy}
use Rattle.dnsv_true_reasons.proofs.truths.ways.SaidOf.IsSaidOf.{closer_unusable, denial_unproved, ds_unproved, no_closer, no_denial, no_denial_but_source, no_speaker, not_anchored, of_answer, of_case, of_cut_case, of_dname, of_goal, of_part, of_zones, parent_unusable, speaker_unusable}
use Rattle.dnsv_true_reasons.proofs.truths.ways.SignatureWays.{LevelsOf, signature_each}
use Rattle.dnsv_true_reasons.proofs.truths.ways.SourceWays.{case_says, cut_says, proving}
use Rattle.dnsv_true_reasons.proofs.truths.ways.ZoneWays.{levels_told, zone_above_kept}

-- ---- zones

kept_map : (P R : Told → Type 0) → ((t : Told) → P t → R t) → (o : Option Mended) → Kept P o → Kept R o
kept_map P R leads o kept m is =
    let lines = kept m is in record { chain = all_map P R leads m.chain lines.chain; own = all_map P R leads m.own lines.own }

levels_map : (P R : Told → Type 0) → ((t : Told) → P t → R t) → (zones : List ZoneFacts) (levels : List Leveled) → LevelsOf P zones levels
    → LevelsOf R zones levels
levels_map P R leads zones levels are n level at = let l = are n level at in record {
  z = l.z;
  is = l.is;
  trusted = l.trusted;
  zone = kept_map P R leads level.zone l.zone;
  keys = λ i k is. kept_map P R leads k.mend (l.keys i k is);
}

zone_there : (P : Told → Type 0) (zones : List ZoneFacts) (levels : List Leveled) (n : ℕ) → LevelsOf P zones levels → (o : Option Leveled)
    → slice_get levels n ≡ o → Kept P (zone_of o)
zone_there P zones levels n are None at m is = absurd (none_some m is)
zone_there P zones levels n are (Some level) at m is = (are n level at).zone m is

module _ (zones : List ZoneFacts) (q : QuestionFacts) (levels : List Leveled)
    (are : LevelsOf (λ t. IsSaidOf zones q (said.Trust t)) zones levels) where
  after_zone : (n : ℕ) (m : Remedied) → Says (IsSaidOf zones q) m → AllByRecursion (Says (IsSaidOf zones q)) (after (zone_kept levels n) m)
  after_zone n m says =
      all_after (Says (IsSaidOf zones q)) (zone_kept levels n) m (λ z is. says_following (IsSaidOf zones q) (whole z) m
      (says_whole (IsSaidOf zones q) z (zone_there (λ t. IsSaidOf zones q (said.Trust t)) zones levels n are (slice_get levels n) refl z
      is)) says)

  -- ---- answers

  module _ (g : GoalFacts) (goal : IsAmong g q.goals.items) where
    closer_says : (s : AnswerSignature) → IsAmong s g.signatures.items → (o : Option CloserFacts) → s.closer ≡ o
        → Says (IsSaidOf zones q) (closer_remedy levels s.signature o)
    closer_says s by None is = says_nothing (IsSaidOf zones q)
    closer_says s by (Some c) is =
        let lines = unusable_lines c.unusable.items in
        says_ended (IsSaidOf zones q) (said.NoCloser s.signature.number c.name) (part levels s.signature.signer c.covers.items lines)
        (no_closer g s c goal by is)
        (part_says (IsSaidOf zones q) zones levels are s.signature.signer c.covers.items lines
        (λ r t among of. of_part s.signature.signer r t (of_closer g s c r goal by is among) of)
        (λ none. all_unusable (IsSaidOf zones q) c.unusable.items (λ u among. closer_unusable g s c u goal by is among)))

    answer_each : (above : Option Mended) → Kept (λ t. IsSaidOf zones q (said.Trust t)) above → (s : AnswerSignature)
        → IsAmong s g.signatures.items
        → AllByRecursion (Says (IsSaidOf zones q)) (answer_ways levels above s)
    unfolding answer_ways
    answer_each above kept s by =
        let ways = signature_ways levels above s.signature in
        let closer = closer_remedy levels s.signature s.closer in
        all_beside (Says (IsSaidOf zones q)) (cheapest ways) closer (λ m is. says_both (IsSaidOf zones q) (whole m) closer
        (says_whole (IsSaidOf zones q) m (cheapest_kept (λ t. IsSaidOf zones q (said.Trust t)) ways
        (signature_each (λ t. IsSaidOf zones q (said.Trust t)) zones s.signature (λ t of. of_answer g s t goal by of) levels are above
        kept) m is))
        (closer_says s by s.closer refl))

    stripped_says : (b : Bool) → is_none g.signatures.items ≡ true
        → Says (IsSaidOf zones q) (if b then untold class.Missing else fault class.Missing (said.Trust (told.Unsigned g.number)))
    stripped_says true none = says_untold (IsSaidOf zones q) class.Missing
    stripped_says false none = says_fault (IsSaidOf zones q) class.Missing (said.Trust (told.Unsigned g.number)) (of_goal g goal none)

    goal_each : (above : Option Mended) → Kept (λ t. IsSaidOf zones q (said.Trust t)) above → (is_dname : Bool)
        → AllByRecursion (Says (IsSaidOf zones q)) (goal_ways levels above is_dname g)
    unfolding goal_ways
    goal_each above kept is_dname =
        all_if (Says (IsSaidOf zones q)) (is_none g.signatures.items) (after above (stripped is_dname g))
        (flat_map (answer_ways levels above) g.signatures.items)
        (λ none. all_after (Says (IsSaidOf zones q)) above (stripped is_dname g)
        (λ m is. says_following (IsSaidOf zones q) (whole m) (stripped is_dname g)
        (says_whole (IsSaidOf zones q) m (kept m is)) (stripped_says (is_dname && g.is_cname) none)))
        (λ some. all_flat (Says (IsSaidOf zones q)) (answer_ways levels above) g.signatures.items (answer_each above kept))

  -- ---- denials

  module _ (unanswered : is_none q.goals.items ≡ true) (z : SpeakerFacts) (speaker : IsAmong z q.speakers.items) where
    source_each : (s : SourceFacts) → IsAmong s z.sources.items
        → AllByRecursion (Says (IsSaidOf zones q)) (source_ways levels q.labels z.labels s)
    unfolding source_ways
    source_each s source = (
      case_says (IsSaidOf zones q) zones levels are (sources.number_of z.labels s) q.labels s.case
          (λ r t one of. of_part z.labels r t (of_source z s r speaker source one) of)
          (λ line of. of_case z s line unanswered speaker source of),
      tt,
    )

    lacking_says : Says (IsSaidOf zones q) (lacking levels q.labels z)
    lacking_says =
        let ways = flat_map (source_ways levels q.labels z.labels) z.sources.items in
        says_unusable (IsSaidOf zones q) z.unusable.items (or_gap (least ways)) (λ u among. speaker_unusable z u speaker among)
        (of_least_or_gap (Says (IsSaidOf zones q)) ways (says_gap (IsSaidOf zones q))
        (all_flat (Says (IsSaidOf zones q)) (source_ways levels q.labels z.labels) z.sources.items source_each))

    gap_or : (b : Bool) → Says (IsSaidOf zones q) (if b then gap else lacking levels q.labels z)
    gap_or true = says_gap (IsSaidOf zones q)
    gap_or false = lacking_says

    denial_says : (is_dname : Bool) (b : Bool) → z.has_denials ≡ b → (b ≡ false → IsSaidOf zones q (said.AnswerMissing (Some z.labels)))
        → Says (IsSaidOf zones q) (if b then ended (said.DenialUnproved z.labels) (if is_dname then gap else lacking levels q.labels z)
        else fault class.Missing (said.AnswerMissing (Some z.labels)))
    denial_says is_dname true has missed =
        says_ended (IsSaidOf zones q) (said.DenialUnproved z.labels) (if is_dname then gap else lacking levels q.labels z)
        (denial_unproved z unanswered speaker has) (gap_or is_dname)
    denial_says is_dname false none missed = says_fault (IsSaidOf zones q) class.Missing (said.AnswerMissing (Some z.labels)) (missed refl)

    speaker_each : (is_dname : Bool) → (z.has_denials ≡ false → IsSaidOf zones q (said.AnswerMissing (Some z.labels)))
        → AllByRecursion (Says (IsSaidOf zones q)) (speaker_ways levels q.labels is_dname z)
    speaker_each is_dname missed = after_zone z.labels (denial levels q.labels is_dname z) (denial_says is_dname z.has_denials refl missed)

    sources_there : (ss : List SourceFacts)
        → (with_unusable z.unusable.items (or_gap (least (flat_map (source_ways levels q.labels z.labels) ss)))).lacks ≡ false
        → is_none ss ≡ false
    sources_there [] whole = absurd (false≢true (sym whole))
    sources_there (s ∷ ss) whole = refl

    other_each : AllByRecursion (Says (IsSaidOf zones q)) (other_ways levels q.labels z)
    unfolding other_ways
    other_each = all_if (Says (IsSaidOf zones q)) (lacking levels q.labels z).lacks [] (speaker_ways levels q.labels false z) (λ e. tt)
        (λ whole. speaker_each false (λ none. no_denial_but_source z speaker none (sources_there z.sources.items whole)))

  denials_each : is_none q.goals.items ≡ true → (is_dname : Bool) (zs : List SpeakerFacts) → q.speakers.items ≡ zs
      → AllByRecursion (Says (IsSaidOf zones q)) (denial_ways levels q.labels is_dname zs)
  denials_each unanswered is_dname [] is = (
    says_fault (IsSaidOf zones q) class.Missing (said.AnswerMissing None)
        (no_speaker unanswered is),
    tt,
  )
  denials_each unanswered is_dname (z ∷ zs) is =
      let others = flat_map (other_ways levels q.labels) zs in
      all_append (Says (IsSaidOf zones q)) (speaker_ways levels q.labels is_dname z) (if is_dname then [] else others)
      (speaker_each unanswered z (among z (inl refl)) is_dname (λ none. no_denial z zs unanswered is none))
      (all_if (Says (IsSaidOf zones q)) is_dname [] others (λ e. tt)
      (λ e. all_flat (Says (IsSaidOf zones q)) (other_ways levels q.labels) zs (λ y later. other_each unanswered y (among y (inr later)))))
    where
      among : (y : SpeakerFacts) → IsAmong y (z ∷ zs) → IsAmong y q.speakers.items
      among y there = subst (IsAmong y) (sym is) there

  -- ---- unsigned delegations

  module _ (z : ParentFacts) (parent : IsAmong z q.parents.items) (c : CutFacts) (cut : IsAmong c z.cuts.items) where
    each_way : (o : Option Remedied) → ((m : Remedied) → o ≡ Some m → Says (IsSaidOf zones q) m)
        → AllByRecursion (Says (IsSaidOf zones q)) (ways_of o)
    each_way None each = tt
    each_way (Some m) each = (each m refl, tt)

    cut_source_each : (s : CutSource) → IsAmong s c.sources.items
        → AllByRecursion (Says (IsSaidOf zones q)) (cut_source_ways levels z.labels c.name s)
    unfolding cut_source_ways
    cut_source_each s source =
        each_way (source_remedy levels z.labels c.name s)
        (λ m is. cut_says (IsSaidOf zones q) zones levels are (number_of z.labels s) c.name s.case m is
        (λ r t one of. of_part z.labels r t (of_cut z c s r parent cut source one) of)
        (λ line of. of_cut_case z c s line parent cut source of))

    cut_least_says : (b : Bool) (m : Remedied)
        → (if b then Some gap else least (flat_map (cut_source_ways levels z.labels c.name) c.sources.items)) ≡ Some m
        → Says (IsSaidOf zones q) m
    cut_least_says true m is = subst (Says (IsSaidOf zones q)) (let same : gap ≡ m = cc is in same) (says_gap (IsSaidOf zones q))
    cut_least_says false m is =
        let ways = flat_map (cut_source_ways levels z.labels c.name) c.sources.items in
        of_least (Says (IsSaidOf zones q)) ways m (all_flat (Says (IsSaidOf zones q)) (cut_source_ways levels z.labels c.name)
        c.sources.items cut_source_each) is

    proving_source : (s : CutSource) → is_proving levels z.labels c.name s ≡ true → IsProvingCase s.case
    unfolding is_proving
    proving_source s e = proving levels (number_of z.labels s) c.name s.case e

    way_by : (a b : Bool) → c.is_shown ≡ a → list_any (is_proving levels z.labels c.name) c.sources.items ≡ b → (a || b) ≡ true → IsWayBy c
    way_by true b shown proved e = inl shown
    way_by false b shown proved e =
        let one = passing (is_proving levels z.labels c.name) c.sources.items (proved ∙ e) in inr
        (one.x, one.among, proving_source one.x one.passes)

    cut_after_each : IsWayBy c → (o : Option Remedied) → cut_least levels z.labels c ≡ o
        → AllByRecursion (Says (IsSaidOf zones q)) (cut_after (zone_kept levels z.labels) z c.name o)
    cut_after_each way None is = tt
    cut_after_each way (Some m) is =
        let line = said.DsUnproved (record { zone = z.labels; name = c.name }) in
        let own = with_unusable z.unusable.items m in
        after_zone z.labels (ended line own) (says_ended (IsSaidOf zones q) line own (ds_unproved z c parent cut way)
        (says_unusable (IsSaidOf zones q) z.unusable.items m (λ u among. parent_unusable z u parent among)
        (cut_least_says (is_none c.sources.items) m is)))

    cut_each : AllByRecursion (Says (IsSaidOf zones q)) (cut_ways levels z c)
    unfolding cut_ways
    cut_each = all_if (Says (IsSaidOf zones q)) (is_way levels z.labels c)
        (cut_after (zone_kept levels z.labels) z c.name (cut_least levels z.labels c)) []
        (λ e. cut_after_each (way_by c.is_shown (list_any (is_proving levels z.labels c.name) c.sources.items) refl refl e)
        (cut_least levels z.labels c) refl)
        (λ e. tt)

  parent_each : (z : ParentFacts) → IsAmong z q.parents.items → AllByRecursion (Says (IsSaidOf zones q)) (parent_ways levels z)
  unfolding parent_ways
  parent_each z parent = all_flat (Says (IsSaidOf zones q)) (cut_ways levels z) z.cuts.items (λ c cut. cut_each z parent c cut)

  -- ---- the question

  question_each : AllByRecursion (Says (IsSaidOf zones q)) (question_ways levels q)
  question_each =
      let goals = flat_map (goal_ways levels (zone_above levels) (is_below_dname q)) q.goals.items in
      let denials = denial_ways levels q.labels (is_below_dname q) q.speakers.items in
      all_append (Says (IsSaidOf zones q)) (answer_or_denial levels q) (flat_map (parent_ways levels) q.parents.items)
      (all_if (Says (IsSaidOf zones q)) (is_none q.goals.items) denials goals
      (λ none. denials_each none (is_below_dname q) q.speakers.items refl)
      (λ some. all_flat (Says (IsSaidOf zones q)) (goal_ways levels (zone_above levels) (is_below_dname q)) q.goals.items
      (λ g goal. goal_each g goal (zone_above levels) (zone_above_kept (λ t. IsSaidOf zones q (said.Trust t)) zones levels are)
      (is_below_dname q))))
      (all_flat (Says (IsSaidOf zones q)) (parent_ways levels) q.parents.items parent_each)

-- ---- each line once

module _ (Q : Said → Type 0) where
  with_one : (lines : List Said) (line : Said) (b : Bool) → AllByRecursion Q lines → Q line
      → AllByRecursion Q (if b then lines else lines ++ line ∷ [])
  with_one lines line true all holds = all
  with_one lines line false all holds = all_append Q lines (line ∷ []) all (holds, tt)

  once_all : (before lines : List Said) → AllByRecursion Q before → AllByRecursion Q lines → AllByRecursion Q (once_from before lines)
  once_all before [] so_far all = so_far
  once_all before (line ∷ lines) so_far all =
      once_all (if is_said before line then before else before ++ line ∷ []) lines
      (with_one before line (is_said before line) so_far all.0) all.1

  with_reason_one : (before : List Said) (line : Said) (b : Bool) → AllByRecursion Q before → Q line
      → AllByRecursion Q (if b then (if is_said before line then before else before ++ line ∷ []) else before)
  with_reason_one before line true all holds = with_one before line (is_said before line) all holds
  with_reason_one before line false all holds = all

  reasons_all : (before lines : List Said) → AllByRecursion Q before → AllByRecursion Q lines → AllByRecursion Q (reasons_from before lines)
  reasons_all before [] so_far all = so_far
  reasons_all before (line ∷ lines) so_far all =
      reasons_all (if is_reason line then (if is_said before line then before else before ++ line ∷ []) else before) lines
      (with_reason_one before line (is_reason line) so_far all.0) all.1

dnames_all : (zones : List ZoneFacts) (q : QuestionFacts) (ds : List DnameFacts)
    → ((d : DnameFacts) → IsAmong d ds → IsAmong d q.dnames.items)
    → AllByRecursion (IsSaidOf zones q) (map dname_line ds)
unfolding dname_line
dnames_all zones q [] those = tt
dnames_all zones q (d ∷ ds) those = (of_dname d (those d (inl refl)), dnames_all zones q ds (λ e among. those e (inr among)))

lines_all : (zones : List ZoneFacts) (q : QuestionFacts) (o : Option Remedied) → ((m : Remedied) → o ≡ Some m → Says (IsSaidOf zones q) m)
    → AllByRecursion (IsSaidOf zones q) (all_lines q o)
lines_all zones q None says = dnames_all zones q q.dnames.items (λ d among. among)
lines_all zones q (Some m) says =
    let dnames = map dname_line q.dnames.items in
    let lines = says m refl in
    all_append (IsSaidOf zones q) (m.chain ++ dnames) m.own
    (all_append (IsSaidOf zones q) m.chain dnames lines.chain (dnames_all zones q q.dnames.items (λ d among. among))) lines.own

told_case : (zones : List ZoneFacts) (q : QuestionFacts) (lines : List Said) (b : Bool) → q.is_anchored ≡ b
    → AllByRecursion (IsSaidOf zones q) lines
    → AllByRecursion (IsSaidOf zones q) (if b then once_from [] lines else reasons_from (no_anchor q ∷ []) lines)
told_case zones q lines true anchored all = once_all (IsSaidOf zones q) [] lines tt all
told_case zones q lines false none all = reasons_all (IsSaidOf zones q) (no_anchor q ∷ []) lines (not_anchored none, tt) all

-- each line that is told is of the facts
pub all_told : (zones : List ZoneFacts) (q : QuestionFacts) (b : Bool)
    → AllByRecursion (IsSaidOf zones q) (lines_told q (question_remedy (levels_of b zones) q))
all_told zones q b =
    let levels = levels_of b zones in
    let are = levels_map _ (λ t. IsSaidOf zones q (said.Trust t)) (λ t of. of_zones t of) zones levels (levels_told b zones) in
    told_case zones q (all_lines q (question_remedy levels q)) q.is_anchored refl
    (lines_all zones q (question_remedy levels q) (λ m is. of_least (Says (IsSaidOf zones q)) (question_ways levels q) m
    (question_each zones q levels are) is))
