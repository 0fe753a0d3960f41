-- Each reason that is told of zones, of keys, of what vouches for them and of signatures is true.
use Rattle.std.proofs.Common.{◌≡◌, if◌then◌else◌, map, ℕ, Bool, true, false, inl, inr, List, [], ◌∷◌, refl, sym, ◌∙◌, subst, arith}
use Rattle.std.proofs.lemmas.Bool.{false≢true}
use Rattle.std.specs.List.{AllByRecursion}
use Rattle.std.specs.Prelude.{⊤, Contains}
use Rattle.dnsv_names.specs.Name.{rightmost}
use Rattle.dnsv_names.specs.Tree.AncestorLaws.{rightmost_all}
use Rattle.dnsv_names.specs.Tree.TreeLaws.{at_or_below_trans, same_at_or_below}
use Rattle.dnsv_canonical.proofs.OrderLemmas.{each_kept, each_of}
use Rattle.dnsv_zone_faults.specs.Zones.{AreZoneFacts}
use Rattle.dnsv_zone_faults.proofs.lemmas.zones.InPlaceLemmas.{at_or_above}
use Rattle.dnsv_gaps.specs.Asking.{Asking}
use Rattle.dnsv_gaps.specs.questions.Questions.{AreQuestionFacts}
use Rattle.dnsv_lines.specs.declared.line.Line.{Line}
use Rattle.dnsv_lines.specs.declared.line.Line.TheVariants as line
use Rattle.dnsv_lines.specs.declared.line.fault.Reason.{Reason}
use Rattle.dnsv_lines.specs.declared.line.fault.Reason.TheVariants as reason
use Rattle.dnsv_mending.specs.Mend.{is_none}
use Rattle.dnsv_mending.specs.Ways.{IsAmong}
use Rattle.dnsv_mending.specs.declared.facts.zone.ZoneFacts.{ZoneFacts}
use Rattle.dnsv_mending.specs.declared.told.Told.{Told}
use Rattle.dnsv_reasons.specs.Failures.{AreFailures}
use Rattle.dnsv_reasons.specs.Lines.{AreSaidLines, IsSaidLine}
use Rattle.dnsv_trust_reasons.specs.TrustLines.{IsTrustLine}
use Rattle.dnsv_lines.specs.declared.line.fault.denial.WhySource.TheVariants as why
use Rattle.dnsv_remedies.specs.Cuts as cuts
use Rattle.dnsv_remedies.specs.Sources as sources
use Rattle.dnsv_remedies.specs.declared.facts.answer.AnswerSignature.{AnswerSignature}
use Rattle.dnsv_remedies.specs.declared.facts.answer.GoalFacts.{GoalFacts}
use Rattle.dnsv_remedies.specs.declared.facts.cut.CutCase.{CutCase}
use Rattle.dnsv_remedies.specs.declared.facts.cut.CutCase.TheVariants as cut
use Rattle.dnsv_remedies.specs.declared.facts.denial.ClosedFacts.{ClosedFacts}
use Rattle.dnsv_remedies.specs.declared.facts.denial.RecordsAt.{RecordsAt}
use Rattle.dnsv_remedies.specs.declared.facts.denial.RecordsAt.TheVariants as records
use Rattle.dnsv_remedies.specs.declared.facts.denial.SourceCase.{SourceCase}
use Rattle.dnsv_remedies.specs.declared.facts.denial.SourceCase.TheVariants as case
use Rattle.dnsv_remedies.specs.declared.facts.denial.WildcardFacts.{WildcardFacts}
use Rattle.dnsv_remedies.specs.declared.facts.denial.WildcardFacts.TheVariants as wildcard
use Rattle.dnsv_remedies.specs.declared.facts.name.AskedName.{AskedName}
use Rattle.dnsv_remedies.specs.declared.facts.name.AskedName.TheVariants as name
use Rattle.dnsv_remedies.specs.declared.facts.name.SourceNumber.{SourceNumber}
use Rattle.dnsv_remedies.specs.declared.facts.question.QuestionFacts.{QuestionFacts}
use Rattle.dnsv_remedies.specs.declared.said.Said.{Said}
use Rattle.dnsv_remedies.specs.declared.said.Said.TheVariants as said
use Rattle.dnsv_true_reasons.specs.truth.Reasons.{IsCaptured, IsReasonTrue}
use Rattle.dnsv_true_reasons.proofs.truths.questions.FactsThere.{answer_there, goal_there}
use Rattle.dnsv_true_reasons.proofs.truths.LineTruth.{IsLineTrue, trust_line}
use Rattle.dnsv_true_reasons.proofs.truths.questions.PartTruth.{part_there, part_true}
use Rattle.dnsv_true_reasons.proofs.truths.ways.QuestionWays.{all_told}
use Rattle.dnsv_true_reasons.proofs.truths.zones.RrsetTruth.{formed_at, unsigned_true}
use Rattle.dnsv_true_reasons.proofs.truths.ways.SaidOf.{IsOfCase, IsOfCut, IsOfRecordsAt, IsOfWildcard, IsSaidOf}
use Rattle.dnsv_true_reasons.proofs.truths.ways.SaidOf.IsSaidOf.{not_anchored, of_answer, of_case, of_cut_case, of_goal, of_part, of_zones}
use Rattle.dnsv_true_reasons.proofs.truths.zones.SignatureTruth.{signature_true}
use Rattle.dnsv_true_reasons.proofs.truths.ways.Told.{IsOfSignature}
use Rattle.dnsv_true_reasons.proofs.truths.zones.TrueTold.{IsTold, IsUnsignedTold}
use Rattle.dnsv_chain.specs.Basis.{HasAnchor}
use Rattle.dnsv_true_reasons.proofs.truths.zones.ZoneTruth.{zones_true}

-- ---- what is told

-- what keeps a zone from being trusted, or an RRset from being signed, is so
abbrev pub IsTrustSaid : Asking → Said → Type 0
IsTrustSaid a (said.Trust t) = IsTold a.basis a.name t
IsTrustSaid a other = ⊤

empty_map : {X Y : Type 0} (f : X → Y) (xs : List X) (ys : List Y) → map f xs ≡ ys → is_none xs ≡ true → is_none ys ≡ true
empty_map f [] ys same none = subst (λ zs. is_none zs ≡ true) same refl
empty_map f (x ∷ xs) ys same none = absurd (false≢true none)

closed_other : (a : Asking) (n : SourceNumber) (c : ClosedFacts) (b : Bool)
    → IsTrustSaid a (if b then said.DnameHeld c.name c.number else said.Source (why.Delegation c.number) n (name.At c.name))
closed_other a n c true = tt
closed_other a n c false = tt

at_other : (a : Asking) (n : SourceNumber) (x : AskedName) (found : RecordsAt) (line : Said) → IsOfRecordsAt n x found line
    → IsTrustSaid a line
at_other a n x (records.Denying rrsets) line never = absurd never
at_other a n x (records.Holding h) line of = subst (IsTrustSaid a) (sym of.2) tt

case_other : (a : Asking) (labels : ℕ) (n : SourceNumber) (c : SourceCase) (line : Said) → IsOfCase labels n c line → IsTrustSaid a line
case_other a labels n (case.Closed c) line of = subst (IsTrustSaid a) (sym of) (closed_other a n c c.is_dname)
case_other a labels n (case.At found) line of = at_other a n (name.At labels) found line of
case_other a labels n case.Apex line of = subst (IsTrustSaid a) (sym of) tt
case_other a labels n (case.NonTerminal rrsets) line never = absurd never
case_other a labels n case.NoEncloser line (inl of) = subst (IsTrustSaid a) (sym of) tt
case_other a labels n case.NoEncloser line (inr of) = subst (IsTrustSaid a) (sym of) tt
case_other a labels n (case.Encloser e) line (inl (none, inl of)) = subst (IsTrustSaid a) (sym of) tt
case_other a labels n (case.Encloser e) line (inl (none, inr of)) = subst (IsTrustSaid a) (sym of) tt
case_other a labels n (case.Encloser e) line (inr of) = below e.wildcard of
  where
    below : (w : WildcardFacts) → IsOfWildcard n e.name w line → IsTrustSaid a line
    below wildcard.OptedOut never = absurd never
    below (wildcard.At found) is = at_other a n (name.Wildcard e.name) found line is
    below (wildcard.Covered rrsets) is = subst (IsTrustSaid a) (sym is.1) tt

cut_other : (a : Asking) (n : SourceNumber) (c : ℕ) (x : CutCase) (line : Said) → IsOfCut n c x line → IsTrustSaid a line
cut_other a n c (cut.Delegation rrsets) line never = absurd never
cut_other a n c cut.NoCut line never = absurd never
cut_other a n c (cut.OptOut o) line of = subst (IsTrustSaid a) (sym of.1) tt
cut_other a n c x line of = subst (IsTrustSaid a) (sym of) tt

module _ (a : Asking) (zones : List ZoneFacts) (are_zones : AreZoneFacts a.basis a.name a.rtype zones) (q : QuestionFacts)
    (are : AreQuestionFacts a q)
    (formed : IsCaptured a) where
  goal_true : (g : GoalFacts) → IsAmong g q.goals.items → is_none g.signatures.items ≡ true → IsUnsignedTold a.basis g.number
  goal_true g goal none =
      let its = (goal_there a q are g goal).are in
      subst (IsUnsignedTold a.basis) its.are_known.number
      (unsigned_true a.basis a.name a.rtype zones are_zones formed g.number its.known its.are_known
      (empty_map (λ (each : AnswerSignature). each.signature) g.signatures.items its.known.signatures.items its.signatures none))

  answer_true : (g : GoalFacts) (s : AnswerSignature) → IsAmong g q.goals.items → IsAmong s g.signatures.items → (t : Told)
      → IsOfSignature zones s.signature t
      → IsTold a.basis a.name t
  answer_true g s goal by t of =
      let there = answer_there a q are g s goal by in
      let its = there.goal.are in
      signature_true a.basis a.name a.rtype zones are_zones g.number its.rrset its.numbered
      (formed_at a.basis.rrsets g.number its.rrset formed its.numbered)
      there.sn s.signature there.its
      (λ may. at_or_below_trans a.name its.rrset.owner there.its.rrsig.signer
      (same_at_or_below a.name its.rrset.owner (sym there.goal.goal.owner))
      (at_or_above a.basis a.name a.rtype zones are_zones g.number its.rrset there.sn s.signature there.its may)) t of

  unanchored : q.is_anchored ≡ false → ¬ HasAnchor a.basis.anchors (rightmost a.name q.labels)
  unanchored off has =
      let labels = are.labels in
      let whole : rightmost a.name q.labels ≡ a.name = rightmost_all a.name q.labels (omega (arith, labels)) in
      false≢true (sym off ∙ are.is_anchored.1 (subst (HasAnchor a.basis.anchors) whole has))

  pub said_true : (s : Said) → IsSaidOf zones q s → IsTrustSaid a s
  said_true s (of_zones t of) = zones_true a.basis a.name a.rtype zones are_zones formed t of
  said_true s (not_anchored off) = unanchored off
  said_true s (of_goal g goal none) = goal_true g goal none
  said_true s (of_answer g signature t goal by of) = answer_true g signature goal by t of
  said_true s (of_part zone r t part of) = part_true a zones are_zones formed zone r (part_there a q are zone r part) t of
  said_true s (of_case z source x none speaker among of) = case_other a q.labels (sources.number_of z.labels source) source.case s of
  said_true s (of_cut_case z c source x parent name_is among of) = cut_other a (cuts.number_of z.labels source) c.name source.case s of
  said_true s of = tt

-- ---- the lines

-- of these kinds a reason is true
abbrev pub IsTrustTrue : Asking → Reason → Type 0
IsTrustTrue a (reason.Zone fault) = IsReasonTrue a (reason.Zone fault)
IsTrustTrue a (reason.Entry fault) = IsReasonTrue a (reason.Entry fault)
IsTrustTrue a (reason.NotSelfSigned without) = IsReasonTrue a (reason.NotSelfSigned without)
IsTrustTrue a (reason.NotVouched keys) = IsReasonTrue a (reason.NotVouched keys)
IsTrustTrue a (reason.Unsigned unsigned) = IsReasonTrue a (reason.Unsigned unsigned)
IsTrustTrue a (reason.Signature fault) = IsReasonTrue a (reason.Signature fault)
IsTrustTrue a other = ⊤

trust_kinds : (a : Asking) (r : Reason) → IsReasonTrue a r → IsTrustTrue a r
trust_kinds a (reason.Zone fault) is = is
trust_kinds a (reason.Entry fault) is = is
trust_kinds a (reason.NotSelfSigned without) is = is
trust_kinds a (reason.NotVouched keys) is = is
trust_kinds a (reason.Unsigned unsigned) is = is
trust_kinds a (reason.Signature fault) is = is
trust_kinds a r is = tt

pub line_leads : (P R : Reason → Type 0) → ((r : Reason) → P r → R r) → (l : Line) → IsLineTrue P l → IsLineTrue R l
line_leads P R leads (line.Reason reason) is = leads reason is
line_leads P R leads l is = tt

trust_told : (a : Asking) (t : Told) → IsTold a.basis a.name t → (l : Line) → IsTrustLine a.basis a.name t l → IsLineTrue (IsTrustTrue a) l
trust_told a t is l of = line_leads (IsReasonTrue a) (IsTrustTrue a) (trust_kinds a) l (trust_line a t is l of)

trust_said : (a : Asking) (s : Said) → IsTrustSaid a s → (l : Line) → IsSaidLine a s l → IsLineTrue (IsTrustTrue a) l
trust_said a (said.Trust t) is l of = trust_told a t is l of
trust_said a (said.NoCloser n c) is l of = subst (IsLineTrue (IsTrustTrue a)) (sym of.4) tt
trust_said a (said.Source w n x) is l of = subst (IsLineTrue (IsTrustTrue a)) (sym of.4) tt
trust_said a (said.DsUnproved c) is l of = subst (IsLineTrue (IsTrustTrue a)) (sym of.4) tt
trust_said a s is l of = subst (IsLineTrue (IsTrustTrue a)) (sym of.2) tt

-- lines of what is so are so
pub lines_true : (a : Asking) (P : Said → Type 0) (R : Reason → Type 0)
    → ((s : Said) → P s → (l : Line) → IsSaidLine a s l → IsLineTrue R l)
    → (told : List Said) (lines : List Line) → AllByRecursion P told → AreSaidLines a told lines → AllByRecursion (IsLineTrue R) lines
lines_true a P R leads [] lines all are = subst (AllByRecursion (IsLineTrue R)) (sym are) tt
lines_true a P R leads (s ∷ told) lines all (inl said) =
    subst (AllByRecursion (IsLineTrue R)) (sym said.4) (leads s all.0 said.0 said.2, lines_true a P R leads told said.1 all.1 said.3)
lines_true a P R leads (s ∷ told) lines all (inr unsaid) = lines_true a P R leads told lines all.1 unsaid.1

-- what facts have told is told
pub failures_of : (a : Asking) (lines : List Line) → AreFailures a lines → (P : Said → Type 0) (R : Reason → Type 0)
    → ((zones : List ZoneFacts) → AreZoneFacts a.basis a.name a.rtype zones → (q : QuestionFacts) → AreQuestionFacts a q → (s : Said)
    → IsSaidOf zones q s → P s)
    → ((s : Said) → P s → (l : Line) → IsSaidLine a s l → IsLineTrue R l) → (r : Reason) → Contains lines (line.Reason r) → R r
failures_of a lines fails P R true_of leads r there =
    let are = fails.are_told in
    let all = subst (AllByRecursion (IsSaidOf are.zones are.question)) (sym are.are)
    (all_told are.zones are.question are.question.is_anchored) in
    let so = each_kept (IsSaidOf are.zones are.question) P fails.told (true_of are.zones are.of_zones are.question are.of_question) all in
    each_of (IsLineTrue R) lines (line.Reason r) (lines_true a P R leads fails.told lines so fails.said) there

pub trust_reasons : (a : Asking) (lines : List Line) → IsCaptured a → AreFailures a lines → (r : Reason) → Contains lines (line.Reason r)
    → IsTrustTrue a r
trust_reasons a lines formed fails =
    failures_of a lines fails (IsTrustSaid a) (IsTrustTrue a) (λ zones are_zones q are. said_true a zones are_zones q are formed)
    (trust_said a)
