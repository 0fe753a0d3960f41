-- A question is answered, denied, or shown to be below an unsigned delegation, or what has to be mended is told.
use Rattle.std.proofs.Common.{◌≡◌, ◌⊎◌, inl, inr, ⊎_elim, ℕ, ◌&&◌, Bool, true, false, if◌then◌else◌, List, [], ◌∷◌, Option, Some, None, flat_map, refl, sym, ap, ◌∙◌, subst, slice_get}
use Rattle.std.proofs.lemmas.Option.{same_Some}
use Rattle.std.specs.List.{AllByRecursion}
use Rattle.std.specs.Option.{option_map}
use Rattle.dnsv_mending.specs.Level.{Leveled, zone_above}
use Rattle.dnsv_mending.specs.Mend.{Mended, cheapest, is_none}
use Rattle.dnsv_mending.specs.Price as price
use Rattle.dnsv_mending.specs.Reasons.{IsClosed}
use Rattle.dnsv_mending.specs.Rrset.{signature_ways}
use Rattle.dnsv_mending.specs.Ways.{IsAmong}
use Rattle.dnsv_mending.specs.Zone.{is_zone_trusted, levels_of}
use Rattle.dnsv_mending.specs.declared.facts.signature.SignatureFacts.{SignatureFacts}
use Rattle.dnsv_mending.specs.declared.facts.zone.ZoneFacts.{ZoneFacts}
use Rattle.dnsv_mending.specs.declared.price.Class.TheVariants as class
use Rattle.dnsv_mending.specs.declared.told.Told.TheVariants as told
use Rattle.dnsv_mending.proofs.AllWays.{all_append, all_flat, all_if, mapped_some, none_some}
use Rattle.dnsv_mending.proofs.Cheapest.{none_second}
use Rattle.dnsv_mending.proofs.DearLines.{IsTold, one_dear}
use Rattle.dnsv_mending.proofs.Reasons.{both_true, untrusted_told}
use Rattle.dnsv_remedies.specs.Answers.{answer_ways, closer_remedy, goal_ways, stripped}
use Rattle.dnsv_remedies.specs.Cuts.{cut_after, cut_least, cut_source_ways, cut_ways, is_way, number_of, parent_ways, source_remedy}
use Rattle.dnsv_remedies.specs.Denials.{denial, denial_ways, lacking, other_ways, speaker_ways}
use Rattle.dnsv_remedies.specs.Parts.{part, zone_kept, zone_of}
use Rattle.dnsv_remedies.specs.Question.{answer_or_denial, is_below_dname, question_remedy, question_ways}
use Rattle.dnsv_remedies.specs.Reasons.{HasReason, IsCaseCut, IsCaseDenial, IsCloserProved, IsCut, IsDenied, IsProved, IsTrusted, IsWholeQuestion, IsPart}
use Rattle.dnsv_remedies.specs.Remedy.{Remedied, after, both, ended, fault, following, gap, least, or_gap, unusable_lines, untold, ways_of, whole, with_unusable}
use Rattle.dnsv_remedies.specs.Sources as sources
use Rattle.dnsv_remedies.specs.Sources.{case_remedy, source_ways}
use Rattle.dnsv_remedies.specs.declared.facts.answer.AnswerSignature.{AnswerSignature}
use Rattle.dnsv_remedies.specs.declared.facts.answer.CloserFacts.{CloserFacts}
use Rattle.dnsv_remedies.specs.declared.facts.answer.GoalFacts.{GoalFacts}
use Rattle.dnsv_remedies.specs.declared.facts.cut.CutFacts.{CutFacts}
use Rattle.dnsv_remedies.specs.declared.facts.cut.CutSource.{CutSource}
use Rattle.dnsv_remedies.specs.declared.facts.cut.ParentFacts.{ParentFacts}
use Rattle.dnsv_remedies.specs.declared.facts.denial.SourceFacts.{SourceFacts}
use Rattle.dnsv_remedies.specs.declared.facts.denial.SpeakerFacts.{SpeakerFacts}
use Rattle.dnsv_remedies.specs.declared.facts.question.QuestionFacts.{QuestionFacts}
use Rattle.dnsv_remedies.specs.declared.said.Said.TheVariants as said
use Rattle.dnsv_remedies.proofs.Cases.{case_fails, cut_fails}
use Rattle.dnsv_remedies.proofs.OneSignature.{signature_told}
use Rattle.dnsv_remedies.proofs.Told.{Fails, Tells, above_tells, all_after, all_beside, below_tells, ended_tells, fault_tells, first_tells, missing_fails, of_least, of_least_or_gap, second_tells, unusable_fails, whole_tells}
use Rattle.dnsv_remedies.proofs.Within.{part_fails, signer_trusted, trusted_at}

-- what is told of a CNAME RRset without signatures below a DNAME RRset is that RRset alone
pub record TellsOf (q : QuestionFacts) (m : Remedied) : Type 0 where
  pub reason : HasReason m ⊎ (is_below_dname q ≡ true)
  pub costs : m.price ≡ price.none → ⊥

pub told_of : (q : QuestionFacts) (m : Remedied) → Tells m → TellsOf q m
told_of q m t = record { reason = inl t.reason; costs = t.costs }

module _ (zones : List ZoneFacts) (closed : IsClosed zones) (q : QuestionFacts) (is_whole : IsWholeQuestion zones q) where
  abbrev levels : List Leveled
  levels = levels_of true zones

  abbrev Good : Remedied → Type 0
  Good m = IsProved zones q ⊎ TellsOf q m

  -- ---- a zone

  zone_case : (n : ℕ) (o : Option Leveled) (m : Mended) → slice_get levels n ≡ o → zone_of o ≡ Some m → IsTrusted zones n ⊎ IsTold m
  zone_case n None m at is = absurd (none_some m is)
  zone_case n (Some level) m at is =
      let found = mapped_some is_zone_trusted (slice_get zones n) level.is_trusted
      (sym (trusted_at zones n) ∙ ap (option_map (λ (l : Leveled). l.is_trusted)) at) in
      ⊎_elim (λ (t : is_zone_trusted found.from ≡ true). inl (record { z = found.from; is = found.is; trusted = t }))
      (λ (t : IsTold m). inr t) (untrusted_told zones n found.from level m closed found.is at is)

  -- behind a zone: the zone is trusted, or that it isn't is told
  after_zone : (n : ℕ) (own : Remedied) → (IsTrusted zones n → IsProved zones q ⊎ Tells own) → AllByRecursion Good (after (zone_kept levels n) own)
  after_zone n own each = all_after Good (zone_kept levels n) own (λ m is. ⊎_elim
      (λ (t : IsTrusted zones n). ⊎_elim (λ (p : IsProved zones q). inl p)
      (λ (x : Tells own). inr (told_of q (following (whole m) own) (below_tells (whole m) own x))) (each t))
      (λ (t : IsTold m). inr (told_of q (following (whole m) own) (above_tells (whole m) own (whole_tells m t))))
      (zone_case n (slice_get levels n) m refl is))

  -- ---- answers

  closer_case : (s : SignatureFacts) (c : Option CloserFacts) → IsTrusted zones s.signer
      → ((x : CloserFacts) → c ≡ Some x → IsPart s.signer x.covers.items ⊎ Fails (part levels s.signer x.covers.items (unusable_lines x.unusable.items)))
      → IsCloserProved s c ⊎ Tells (closer_remedy levels s c)
  closer_case s None t each = inl tt
  closer_case s (Some c) t each =
      let found = part levels s.signer c.covers.items (unusable_lines c.unusable.items) in
      ⊎_elim (λ (p : IsPart s.signer c.covers.items). inl p)
      (λ (f : Fails found). inr (ended_tells (said.NoCloser s.number c.name) found refl f)) (each c refl)

  answer_all : (g : GoalFacts) (s : AnswerSignature) (above : Option Mended) → IsAmong g q.goals.items → IsAmong s g.signatures.items
      → AllByRecursion Good (answer_ways levels above s)
  unfolding answer_ways
  answer_all g s above goal by =
      let w = is_whole.answers g s goal by in
      let c = closer_remedy levels s.signature s.closer in
      all_beside Good (cheapest (signature_ways levels above s.signature)) c (λ m is. ⊎_elim
      (λ (h : s.signature.is_signed ≡ true).
      let t = w.sound h in
      ⊎_elim (λ (p : IsCloserProved s.signature s.closer). inl (inl (record { g = g; s = s; goal = goal; by = by; signed = h; closer = p })))
      (λ (x : Tells c). inr (told_of q (both (whole m) c) (second_tells (whole m) c x)))
      (closer_case s.signature s.closer t (λ x same. part_fails levels s.signature.signer x.covers.items (unusable_lines x.unusable.items)
      (signer_trusted zones s.signature.signer t) (w.closer x same))))
      (λ (t : IsTold m). inr (told_of q (both (whole m) c) (first_tells (whole m) c (whole_tells m t))))
      (signature_told zones closed above s.signature m w.closed is))

  -- without signatures
  stripped_case : (g : GoalFacts) (a : Mended) (t : Bool) → (t ≡ true → is_below_dname q ≡ true)
      → TellsOf q (following (whole a) (if t then untold class.Missing else fault class.Missing (said.Trust (told.Unsigned g.number))))
  stripped_case g a true below = record { reason = inr (below refl); costs = λ h. one_dear class.Missing (none_second a.price (price.one class.Missing) h) }
  stripped_case g a false below = told_of q (following (whole a) (fault class.Missing (said.Trust (told.Unsigned g.number))))
      (below_tells (whole a) (fault class.Missing (said.Trust (told.Unsigned g.number))) (fault_tells class.Missing (said.Trust (told.Unsigned g.number)) refl))

  goal_all : (g : GoalFacts) (above : Option Mended) → IsAmong g q.goals.items → AllByRecursion Good (goal_ways levels above (is_below_dname q) g)
  unfolding goal_ways
  goal_all g above goal =
      all_if Good (is_none g.signatures.items) (after above (stripped (is_below_dname q) g)) (flat_map (answer_ways levels above) g.signatures.items)
      (λ none. all_after Good above (stripped (is_below_dname q) g) (λ a is. inr (stripped_case g a (is_below_dname q && g.is_cname)
      (λ h. (both_true (is_below_dname q) g.is_cname h).0))))
      (λ some. all_flat Good (answer_ways levels above) g.signatures.items (λ s by. answer_all g s above goal by))

  -- ---- denials

  source_all : (z : SpeakerFacts) (s : SourceFacts) (t : IsTrusted zones z.labels) → IsAmong z q.speakers.items → IsAmong s z.sources.items
      → AllByRecursion (λ m. IsDenied zones q ⊎ Fails m) (source_ways levels q.labels z.labels s)
  unfolding source_ways
  source_all z s t speaker source =
      let n = sources.number_of z.labels s in (
        ⊎_elim (λ (d : IsCaseDenial z.labels s.case). inl (record { z = z; s = s; speaker = speaker; trusted = t; source = source; denies = d }))
            (λ (f : Fails (case_remedy levels q.labels n s.case)). inr f)
            (case_fails levels n (signer_trusted zones z.labels t) q.labels s.case (is_whole.denials z s speaker source)),
        tt,
      )

  lacking_fails : (z : SpeakerFacts) → IsTrusted zones z.labels → IsAmong z q.speakers.items → IsDenied zones q ⊎ Fails (lacking levels q.labels z)
  lacking_fails z t speaker =
      let P : Remedied → Type 0 = λ m. IsDenied zones q ⊎ Fails m in
      let ways = flat_map (source_ways levels q.labels z.labels) z.sources.items in
      ⊎_elim (λ (d : IsDenied zones q). inl d)
      (λ (f : Fails (or_gap (least ways))). inr (unusable_fails z.unusable.items (or_gap (least ways)) f))
      (of_least_or_gap P ways (inr (missing_fails class.Lacking []))
      (all_flat P (source_ways levels q.labels z.labels) z.sources.items (λ s source. source_all z s t speaker source)))

  gap_or : (z : SpeakerFacts) (t : Bool) → IsDenied zones q ⊎ Fails (lacking levels q.labels z)
      → IsDenied zones q ⊎ Fails (if t then gap else lacking levels q.labels z)
  gap_or z true each = inr (missing_fails class.Lacking [])
  gap_or z false each = each

  denial_case : (z : SpeakerFacts) (is_dname : Bool) (t : Bool) → IsTrusted zones z.labels → IsAmong z q.speakers.items
      → IsProved zones q ⊎ Tells (if t then ended (said.DenialUnproved z.labels) (if is_dname then gap else lacking levels q.labels z)
      else fault class.Missing (said.AnswerMissing (Some z.labels)))
  denial_case z is_dname true t speaker =
      let own = if is_dname then gap else lacking levels q.labels z in
      ⊎_elim (λ (d : IsDenied zones q). inl (inr (inl d))) (λ (f : Fails own). inr (ended_tells (said.DenialUnproved z.labels) own refl f))
      (gap_or z is_dname (lacking_fails z t speaker))
  denial_case z is_dname false t speaker = inr (fault_tells class.Missing (said.AnswerMissing (Some z.labels)) refl)

  speaker_all : (z : SpeakerFacts) (is_dname : Bool) → IsAmong z q.speakers.items → AllByRecursion Good (speaker_ways levels q.labels is_dname z)
  speaker_all z is_dname speaker = after_zone z.labels (denial levels q.labels is_dname z) (λ t. denial_case z is_dname z.has_denials t speaker)

  other_all : (z : SpeakerFacts) → IsAmong z q.speakers.items → AllByRecursion Good (other_ways levels q.labels z)
  unfolding other_ways
  other_all z speaker = all_if Good (lacking levels q.labels z).lacks [] (speaker_ways levels q.labels false z) (λ h. tt) (λ h. speaker_all z false speaker)

  denials_case : (zs : List SpeakerFacts) (is_dname : Bool) → ((z : SpeakerFacts) → IsAmong z zs → IsAmong z q.speakers.items)
      → AllByRecursion Good (denial_ways levels q.labels is_dname zs)
  denials_case [] is_dname each =
      (inr (told_of q (fault class.Missing (said.AnswerMissing None)) (fault_tells class.Missing (said.AnswerMissing None) refl)), tt)
  denials_case (z ∷ zs) is_dname each =
      let others = flat_map (other_ways levels q.labels) zs in
      all_append Good (speaker_ways levels q.labels is_dname z) (if is_dname then [] else others) (speaker_all z is_dname (each z (inl refl)))
      (all_if Good is_dname [] others (λ h. tt) (λ h. all_flat Good (other_ways levels q.labels) zs (λ y among. other_all y (each y (inr among)))))

  -- ---- unsigned delegations

  cut_some : (o : Option Remedied) (P : Remedied → Type 0) → ((m : Remedied) → o ≡ Some m → P m) → AllByRecursion P (ways_of o)
  cut_some None P each = tt
  cut_some (Some m) P each = (each m refl, tt)

  cut_source_all : (z : ParentFacts) (c : CutFacts) (s : CutSource) → IsTrusted zones z.labels → IsAmong z q.parents.items → IsAmong c z.cuts.items
      → IsAmong s c.sources.items → AllByRecursion (λ m. IsCut zones q ⊎ Fails m) (cut_source_ways levels z.labels c.name s)
  unfolding cut_source_ways
  cut_source_all z c s t parent name source =
      cut_some (source_remedy levels z.labels c.name s) (λ m. IsCut zones q ⊎ Fails m) (λ m is. ⊎_elim
      (λ (p : IsCaseCut z.labels s.case). inl (record { z = z; c = c; s = s; parent = parent; trusted = t; name = name; source = source; proves = p }))
      (λ (f : Fails m). inr f)
      (cut_fails levels (number_of z.labels s) (signer_trusted zones z.labels t) c.name s.case m is (is_whole.cuts z c s parent name source)))

  least_cut : (z : ParentFacts) (c : CutFacts) (m : Remedied) → IsTrusted zones z.labels → IsAmong z q.parents.items → IsAmong c z.cuts.items
      → (b : Bool) → (if b then Some gap else least (flat_map (cut_source_ways levels z.labels c.name) c.sources.items)) ≡ Some m → IsCut zones q ⊎ Fails m
  least_cut z c m t parent name true is = inr (subst Fails (same_Some gap m is) (missing_fails class.Lacking []))
  least_cut z c m t parent name false is =
      let P : Remedied → Type 0 = λ y. IsCut zones q ⊎ Fails y in
      let ways = flat_map (cut_source_ways levels z.labels c.name) c.sources.items in
      of_least P ways m (all_flat P (cut_source_ways levels z.labels c.name) c.sources.items (λ s source. cut_source_all z c s t parent name source)) is

  cut_after_all : (z : ParentFacts) (c : CutFacts) (o : Option Remedied) → IsAmong z q.parents.items → IsAmong c z.cuts.items
      → cut_least levels z.labels c ≡ o → AllByRecursion Good (cut_after (zone_kept levels z.labels) z c.name o)
  cut_after_all z c None parent name is = tt
  cut_after_all z c (Some m) parent name is =
      let own = with_unusable z.unusable.items m in
      after_zone z.labels (ended (said.DsUnproved (record { zone = z.labels; name = c.name })) own) (λ t. ⊎_elim (λ (p : IsCut zones q). inl (inr (inr p)))
      (λ (f : Fails m). inr (ended_tells (said.DsUnproved (record { zone = z.labels; name = c.name })) own refl (unusable_fails z.unusable.items m f)))
      (least_cut z c m t parent name (is_none c.sources.items) is))

  cut_all : (z : ParentFacts) (c : CutFacts) → IsAmong z q.parents.items → IsAmong c z.cuts.items → AllByRecursion Good (cut_ways levels z c)
  unfolding cut_ways
  cut_all z c parent name = all_if Good (is_way levels z.labels c) (cut_after (zone_kept levels z.labels) z c.name (cut_least levels z.labels c)) []
      (λ h. cut_after_all z c (cut_least levels z.labels c) parent name refl) (λ h. tt)

  parent_all : (z : ParentFacts) → IsAmong z q.parents.items → AllByRecursion Good (parent_ways levels z)
  unfolding parent_ways
  parent_all z parent = all_flat Good (cut_ways levels z) z.cuts.items (λ c name. cut_all z c parent name)

  -- ---- the question

  pub question_all : AllByRecursion Good (question_ways levels q)
  question_all =
      let goals = flat_map (goal_ways levels (zone_above levels) (is_below_dname q)) q.goals.items in
      let denials = denial_ways levels q.labels (is_below_dname q) q.speakers.items in
      all_append Good (answer_or_denial levels q) (flat_map (parent_ways levels) q.parents.items)
      (all_if Good (is_none q.goals.items) denials goals
      (λ h. denials_case q.speakers.items (is_below_dname q) (λ z among. among))
      (λ h. all_flat Good (goal_ways levels (zone_above levels) (is_below_dname q)) q.goals.items (λ g goal. goal_all g (zone_above levels) goal)))
      (all_flat Good (parent_ways levels) q.parents.items parent_all)

  -- the least that has to be mended
  pub question_told : (m : Remedied) → question_remedy levels q ≡ Some m → IsProved zones q ⊎ TellsOf q m
  question_told m is = of_least Good (question_ways levels q) m question_all is
