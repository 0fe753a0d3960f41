-- Each reason that is told of a question is true, and so is each reason where nothing settles the question.
use Rattle.std.proofs.Common.{◌≡◌, ◌⊎◌, ◌+◌, ◌-◌, ◌≤◌, ℕ, zero, suc, slice_get, true, inl, inr, List, [], ◌∷◌, Some, length, refl, sym, ap, subst, arith}
use Rattle.std.specs.List.{enumerate_from}
use Rattle.std.specs.Prelude.{⊤, Contains}
use Rattle.dnsv_names.specs.Name.{Labels, rightmost}
use Rattle.dnsv_chain.specs.Trusted.{IsSecured}
use Rattle.dnsv_denial.specs.gathering.EvidenceWords.{Chain}
use Rattle.dnsv_zone_faults.proofs.lemmas.zones.ClosedLemmas.{contains_of}
use Rattle.dnsv_zone_faults.proofs.lemmas.zones.TrustLemmas.{zip_left}
use Rattle.dnsv_gaps.specs.Asking.{Asking}
use Rattle.dnsv_gaps.specs.Speakers.{AreSourceFacts}
use Rattle.dnsv_gaps.specs.Sources.{source_said}
use Rattle.dnsv_gaps.specs.questions.Cuts.{HasOptOut, IsCutCase, IsCutSource, IsShown, lowest_cut}
use Rattle.dnsv_gaps.specs.questions.Questions.{AreQuestionFacts}
use Rattle.dnsv_lines.specs.declared.line.Line.{Line}
use Rattle.dnsv_lines.specs.declared.line.Line.TheVariants as line
use Rattle.dnsv_lines.specs.declared.line.fault.Reason.{Reason}
use Rattle.dnsv_lines.specs.declared.line.fault.Reason.TheVariants as reason
use Rattle.dnsv_mending.specs.Mend.{is_none}
use Rattle.dnsv_mending.specs.Ways.{IsAmong}
use Rattle.dnsv_lines.specs.declared.line.fault.zone.WhyZone.TheVariants as zone_why
use Rattle.dnsv_mending.specs.declared.facts.zone.ZoneFacts.{ZoneFacts}
use Rattle.dnsv_mending.specs.declared.told.Told.{Told}
use Rattle.dnsv_mending.specs.declared.told.Told.TheVariants as told
use Rattle.dnsv_reasons.specs.Failures.{AreFailures}
use Rattle.dnsv_reasons.specs.Lines.{IsSaidLine}
use Rattle.dnsv_trust_reasons.specs.TrustLines.{IsTrustLine}
use Rattle.dnsv_remedies.specs.Cuts as cuts
use Rattle.dnsv_remedies.specs.Sources as sources
use Rattle.dnsv_remedies.specs.declared.facts.cut.CutFacts.{CutFacts}
use Rattle.dnsv_remedies.specs.declared.facts.cut.CutSource.{CutSource}
use Rattle.dnsv_remedies.specs.declared.facts.cut.ParentFacts.{ParentFacts}
use Rattle.dnsv_remedies.specs.declared.facts.denial.SourceFacts.{SourceFacts}
use Rattle.dnsv_remedies.specs.declared.facts.denial.SpeakerFacts.{SpeakerFacts}
use Rattle.dnsv_remedies.specs.declared.facts.question.QuestionFacts.{QuestionFacts}
use Rattle.dnsv_remedies.specs.declared.said.Said.{Said}
use Rattle.dnsv_remedies.specs.declared.said.Said.TheVariants as said
use Rattle.dnsv_verdict.proofs.CaseLemmas.{unsigned_stands}
use Rattle.dnsv_verdict.specs.Verdict.{IsSettledBy}
use Rattle.dnsv_true_reasons.specs.truth.Question.{IsProvingCut, IsTrueOfDenial, IsWay, ProvesNothing}
use Rattle.dnsv_true_reasons.specs.truth.Reasons.{IsCaptured, IsReasonTrue}
use Rattle.dnsv_true_reasons.specs.truth.Sources.{IsCutName}
use Rattle.dnsv_true_reasons.proofs.truths.questions.CutTruth.{cut_name, cut_true, lowest_below, proving_true, range_has}
use Rattle.dnsv_true_reasons.proofs.truths.questions.FactsThere.{CutThere, ParentThere, cut_source_there, cut_there, parent_there, speaker_there}
use Rattle.dnsv_true_reasons.proofs.truths.LineTruth.{IsLineTrue}
use Rattle.dnsv_true_reasons.proofs.truths.questions.QuestionTruth.{closer_is, closer_true, dname_true, known_there, missing_none, missing_some, no_goal, nsec3_true, source_denies}
use Rattle.dnsv_true_reasons.proofs.truths.zones.RrsetTruth.{nothing_in}
use Rattle.dnsv_true_reasons.proofs.truths.ways.SaidOf.{IsOfCase, IsOfCut, IsSaidOf, IsWayBy}
use Rattle.dnsv_true_reasons.proofs.truths.ways.SaidOf.IsSaidOf.{closer_unusable, denial_unproved, ds_unproved, no_closer, no_denial, no_denial_but_source, no_speaker, not_anchored, of_answer, of_case, of_cut_case, of_dname, of_goal, of_part, of_zones, parent_unusable, speaker_unusable}
use Rattle.dnsv_true_reasons.proofs.truths.questions.SourceTruth.{case_true}
use Rattle.dnsv_true_reasons.proofs.truths.TrustLaw.{IsTrustTrue, failures_of, line_leads, trust_reasons}

-- ---- the words of questions

-- of these kinds a reason is true; that something proves nothing, where nothing settles the question
abbrev pub IsQuestionTrue : Asking → Reason → Type 0
IsQuestionTrue a (reason.NoCloser closer) = IsReasonTrue a (reason.NoCloser closer)
IsQuestionTrue a (reason.Dname above) = IsReasonTrue a (reason.Dname above)
IsQuestionTrue a (reason.Nsec3 unusable) = IsReasonTrue a (reason.Nsec3 unusable)
IsQuestionTrue a (reason.Source fault) = IsReasonTrue a (reason.Source fault)
IsQuestionTrue a (reason.AnswerMissing missing) = IsReasonTrue a (reason.AnswerMissing missing)
IsQuestionTrue a (reason.DenialUnproved denial) = ¬ IsSettledBy a.basis a.name a.rtype → IsReasonTrue a (reason.DenialUnproved denial)
IsQuestionTrue a (reason.DsUnproved told) = ¬ IsSettledBy a.basis a.name a.rtype → IsReasonTrue a (reason.DsUnproved told)
IsQuestionTrue a other = ⊤

question_kinds : (a : Asking) (r : Reason) → IsReasonTrue a r → IsQuestionTrue a r
question_kinds a (reason.NoCloser closer) is = is
question_kinds a (reason.Dname above) is = is
question_kinds a (reason.Nsec3 unusable) is = is
question_kinds a (reason.Source fault) is = is
question_kinds a (reason.AnswerMissing missing) is = is
question_kinds a (reason.DenialUnproved denial) is = λ unsettled. is
question_kinds a (reason.DsUnproved told) is = λ unsettled. is
question_kinds a r is = tt

-- each line that says it is so
abbrev pub IsQuestionSaid : Asking → Said → Type 0
IsQuestionSaid a s = (l : Line) → IsSaidLine a s l → IsLineTrue (IsQuestionTrue a) l

-- what is told of zones and signatures is none of these
trust_aside : (a : Asking) (t : Told) (l : Line) → IsTrustLine a.basis a.name t l → IsLineTrue (IsQuestionTrue a) l
trust_aside a (told.NotSelfSigned n) l of = subst (IsLineTrue (IsQuestionTrue a)) (sym of.4) tt
trust_aside a t l of = subst (IsLineTrue (IsQuestionTrue a)) (sym of.2) tt

-- ---- sources by their numbers

numbered_chain : (n : ℕ) (chains : List Chain) (p : ℕ × Chain) → Contains (enumerate_from n chains) p
    → (i : ℕ) × (p.0 ≡ n + i) × (slice_get chains i ≡ Some p.1)
numbered_chain n [] p there = absurd (nothing_in p there)
numbered_chain n (c ∷ chains) p (zero, within, is) =
    let place : n ≡ p.0 = ap (λ (x : ℕ × Chain). x.0) is in
    (0, omega (arith, place), ap (λ (x : ℕ × Chain). Some x.1) is)
numbered_chain n (c ∷ chains) p (suc i, within, is) =
    let rest = numbered_chain (n + 1) chains p (i, omega (arith, within), is) in
    let place = rest.1 in (suc rest.0, omega (arith, place), rest.2)

module _ (a : Asking) (q : QuestionFacts) (are : AreQuestionFacts a q) where
  speaker_case : (z : SpeakerFacts) (s : SourceFacts) → IsAmong z q.speakers.items → IsAmong s z.sources.items → (line : Said)
      → IsOfCase q.labels (sources.number_of z.labels s) s.case line → (l : Line) → IsSaidLine a line l → IsLineTrue (IsReasonTrue a) l
  speaker_case z s speaker source line told l of =
      let zone = rightmost a.name z.labels in
      let its = speaker_there a q are z speaker in
      let one = zip_left (AreSourceFacts a zone) (enumerate_from 0 its.chains) z.sources.items s its.sources
      (contains_of s z.sources.items source) in
      let chain = numbered_chain 0 its.chains one.0 one.1 in
      let place : chain.0 ≡ s.place = let first = chain.1 in let second = one.2.place in omega (arith, first, second) in
      case_true a q.labels are.labels (sources.number_of z.labels s) one.0.1 (record {
        within = its.within;
        chains = its.chains;
        are = its.are_sources;
        placed = subst (λ (i : ℕ). slice_get its.chains i ≡ Some one.0.1) place chain.2;
      }) s.case one.2.its_case line told l of

  -- ---- unsigned delegations

  pub record CutIs (z : ParentFacts) (c : CutFacts) : Type 0 where
    pub parent : ParentThere a z
    pub there : CutThere a z c
    pub name_is : IsCutName a (rightmost a.name z.labels) (rightmost a.name c.name)
    pub within : c.name ≤ length a.name

  cut_is : (z : ParentFacts) (c : CutFacts) → IsAmong z q.parents.items → IsAmong c z.cuts.items → CutIs z c
  cut_is z c parent cut =
      let its = parent_there a q are z parent in
      let there = cut_there a z its.are c cut in
      let range = range_has (z.labels + 1) (lowest_cut a - z.labels) there.labels there.listed in
      let low = range.0 in
      let high = range.1 in
      let same = there.are.name in
      let lowest : c.name ≤ lowest_cut a = omega (arith, low, high, same) in
      let most = (lowest_below a).0 in
      record {
        parent = its;
        there = there;
        name_is = cut_name a z.labels c.name its.is.within (omega (arith, low, same)) lowest;
        within = omega (arith, lowest, most);
      }

  cut_case : (z : ParentFacts) (c : CutFacts) (s : CutSource) → IsAmong z q.parents.items → IsAmong c z.cuts.items
      → IsAmong s c.sources.items → (line : Said)
      → IsOfCut (cuts.number_of z.labels s) c.name s.case line → (l : Line) → IsSaidLine a line l → IsLineTrue (IsReasonTrue a) l
  cut_case z c s parent cut source line told l of =
      let zone = rightmost a.name z.labels in
      let its = cut_is z c parent cut in
      let one = zip_left (IsCutSource a zone its.there.labels) (enumerate_from 0 its.there.chains) c.sources.items s its.there.are.sources
      (contains_of s c.sources.items source) in
      let chain = numbered_chain 0 its.there.chains one.0 one.1 in
      let place : chain.0 ≡ s.place = let first = chain.1 in let second = one.2.place in omega (arith, first, second) in
      let says : IsCutCase a.basis (source_said a zone one.0.1) (HasOptOut a zone one.0.1) (rightmost a.name (c.name - 1))
      (rightmost a.name c.name) s.case =
      subst (λ (n : ℕ). IsCutCase a.basis (source_said a zone one.0.1) (HasOptOut a zone one.0.1) (rightmost a.name (n - 1))
      (rightmost a.name n) s.case)
      (sym its.there.are.name) one.2.its_case in
      cut_true a (cuts.number_of z.labels s) one.0.1 (record {
        within = its.parent.is.within;
        chains = its.there.chains;
        are = its.there.are_sources;
        placed = subst (λ (i : ℕ). slice_get its.there.chains i ≡ Some one.0.1) place chain.2;
      }) c.name its.name_is its.within s.case says line told l of

  way_true : (z : ParentFacts) (c : CutFacts) → IsAmong z q.parents.items → IsAmong c z.cuts.items → IsWayBy c → IsWay a z.labels c.name
  way_true z c parent cut way =
      let its = cut_is z c parent cut in
      record { parent = its.parent.is; cut = its.name_is; next = its.there.next; next_is = its.there.next_is; by = by its way }
    where
      by : (its : CutIs z c) → IsWayBy c → IsShown a z.labels its.there.next c.name
          ⊎ IsProvingCut a (rightmost a.name z.labels) (rightmost a.name (c.name - 1)) (rightmost a.name c.name)
      by its (inl shown) = inl (subst (λ (n : ℕ). IsShown a z.labels its.there.next n) (sym its.there.are.name)
          (its.there.are.is_shown.0 shown))
      by its (inr proves) =
          let says = cut_source_there a z c its.there proves.0 proves.1 in
          inr (proving_true a (rightmost a.name z.labels) says.chain (rightmost a.name (c.name - 1)) (rightmost a.name c.name)
          proves.0.case says.its_case proves.2)

  -- ---- where nothing settles the question

  proves_nothing : ¬ IsSettledBy a.basis a.name a.rtype → (n : ℕ) → n ≤ length a.name → ProvesNothing a (rightmost a.name n)
  proves_nothing unsettled n within chain = (
    λ stands. unsettled (inr (inr (inl (n, within, chain, stands)))),
    λ stands. unsettled (inr (inr (inr (inl (n, within, chain, stands))))),
  )

  denial_true : (z : SpeakerFacts) → is_none q.goals.items ≡ true → IsAmong z q.speakers.items → z.has_denials ≡ true
      → (l : Line) → IsSaidLine a (said.DenialUnproved z.labels) l → IsLineTrue (IsQuestionTrue a) l
  denial_true z unanswered speaker has l of =
      let its = speaker_there a q are z speaker in
      subst (IsLineTrue (IsQuestionTrue a)) (sym of.2) (λ unsettled.
      subst (λ (zone : Labels). IsTrueOfDenial a (record { name = a.name; rtype = record { 0 = a.rtype }; zone = zone })) (sym of.1.is) (
        (refl, refl),
        no_goal a q are unanswered,
        known_there a q are z speaker,
        its.denials.0 has,
        proves_nothing unsettled z.labels
            its.within,
      ))

  ds_true : (z : ParentFacts) (c : CutFacts) → IsAmong z q.parents.items → IsAmong c z.cuts.items → IsWayBy c
      → (l : Line) → IsSaidLine a (said.DsUnproved (record { zone = z.labels; name = c.name })) l → IsLineTrue (IsQuestionTrue a) l
  ds_true z c parent cut way l of = subst (IsLineTrue (IsQuestionTrue a)) (sym of.4) (λ unsettled. record {
    n = z.labels;
    c = c.name;
    zone = of.3.is;
    name = of.2.is;
    way = way_true z c parent cut way;
    none = λ unsigned from above.
        unsettled (inr (inr (inr (inr (unsigned_stands (IsSecured a.basis.meaning a.basis.moment a.basis.rrsets a.basis.anchors)
        a.basis.rrsets a.name a.rtype unsigned from)))));
  })

  -- ---- each line

  lines_of : (l : Line) → IsLineTrue (IsReasonTrue a) l → IsLineTrue (IsQuestionTrue a) l
  lines_of l is = line_leads (IsReasonTrue a) (IsQuestionTrue a) (question_kinds a) l is

  question_true : (zones : List ZoneFacts) (s : Said) → IsSaidOf zones q s → IsQuestionSaid a s
  question_true zones s (of_zones t of) l says = trust_aside a t l says
  question_true zones s (not_anchored off) l says = trust_aside a (told.Zone zone_why.NoAnchor q.labels) l says
  question_true zones s (of_goal g goal none) l says = trust_aside a (told.Unsigned g.number) l says
  question_true zones s (of_answer g x t goal by of) l says = trust_aside a t l says
  question_true zones s (of_part zone r t part of) l says = trust_aside a t l says
  question_true zones s (no_closer g x c goal by is) l says = lines_of l (closer_true a q are g x c goal by is l says)
  question_true zones s (of_dname d among) l says = lines_of l (dname_true a q are d among l says)
  question_true zones s (closer_unusable g x c u goal by is among) l says =
      let closer = closer_is a q are g x goal by c is in
      lines_of l (nsec3_true a _ c.unusable.items closer.1.unusable u among l says)
  question_true zones s (speaker_unusable z u speaker among) l says =
      lines_of l (nsec3_true a _ z.unusable.items (speaker_there a q are z speaker).unusable u among l says)
  question_true zones s (parent_unusable z u parent among) l says =
      lines_of l (nsec3_true a _ z.unusable.items (parent_there a q are z parent).are.unusable u among l says)
  question_true zones s (of_case z source x none speaker among of) l says = lines_of l (speaker_case z source speaker among s of l says)
  question_true zones s (of_cut_case z c source x parent cut among of) l says = lines_of l
      (cut_case z c source parent cut among s of l says)
  question_true zones s (no_speaker none is) l says = lines_of l (missing_none a q are none is l says)
  question_true zones s (no_denial z others none is has) l says = lines_of l (missing_some a q are none z others is has l says)
  question_true zones s (no_denial_but_source z speaker none some) l says = absurd (source_denies a q are z speaker none some)
  question_true zones s (denial_unproved z none speaker has) l says = denial_true z none speaker has l says
  question_true zones s (ds_unproved z c parent cut way) l says = ds_true z c parent cut way l says

-- ---- each reason

pub question_reasons : (a : Asking) (lines : List Line) → AreFailures a lines → (r : Reason) → Contains lines (line.Reason r)
    → IsQuestionTrue a r
question_reasons a lines fails =
    failures_of a lines fails (IsQuestionSaid a) (IsQuestionTrue a) (λ zones are_zones q are s of. question_true a q are zones s of)
    (λ s is. is)

both_true : (a : Asking) → ¬ IsSettledBy a.basis a.name a.rtype → (r : Reason) → IsTrustTrue a r → IsQuestionTrue a r
    → IsReasonTrue a r
both_true a unsettled (reason.NoCloser closer) trust question = question
both_true a unsettled (reason.Dname above) trust question = question
both_true a unsettled (reason.Nsec3 unusable) trust question = question
both_true a unsettled (reason.Source fault) trust question = question
both_true a unsettled (reason.AnswerMissing missing) trust question = question
both_true a unsettled (reason.DenialUnproved denial) trust question = question unsettled
both_true a unsettled (reason.DsUnproved told) trust question = question unsettled
both_true a unsettled r trust question = trust

pub reasons_true : (a : Asking) (lines : List Line) → IsCaptured a → ¬ IsSettledBy a.basis a.name a.rtype
    → AreFailures a lines
    → (r : Reason) → Contains lines (line.Reason r) → IsReasonTrue a r
reasons_true a lines formed unsettled fails r there =
    both_true a unsettled r (trust_reasons a lines formed fails r there) (question_reasons a lines fails r there)
