-- What is told as a reason is said by a line.
use Rattle.std.proofs.Common.{◌≡◌, ◌||◌, inl, inr, suc, Bool, true, false, List, [], ◌∷◌, refl, sym, subst, arith}
use Rattle.std.proofs.lemmas.Bool.{false≢true}
use Rattle.std.specs.Prelude.{Contains}
use Rattle.std.specs.List.{AllByRecursion, list_any}
use Rattle.dnsv_lines.specs.declared.line.Line.{Line}
use Rattle.dnsv_lines.specs.declared.line.Line.TheVariants as line
use Rattle.dnsv_lines.specs.declared.line.fault.Reason.{Reason}
use Rattle.dnsv_mending.specs.Ways.{IsAmong}
use Rattle.dnsv_mending.specs.Zone.{levels_of}
use Rattle.dnsv_mending.specs.declared.facts.zone.ZoneFacts.{ZoneFacts}
use Rattle.dnsv_mending.specs.declared.told.Told.{Told}
use Rattle.dnsv_mending.specs.declared.told.Told.TheVariants as told
use Rattle.dnsv_remedies.specs.Question.{all_lines, lines_told, question_remedy}
use Rattle.dnsv_remedies.specs.Said.{is_reason}
use Rattle.dnsv_remedies.specs.declared.facts.question.QuestionFacts.{QuestionFacts}
use Rattle.dnsv_remedies.specs.declared.said.Said.{Said}
use Rattle.dnsv_remedies.specs.declared.said.Said.TheVariants as said
use Rattle.dnsv_remedies.proofs.Once.{only_told}
use Rattle.dnsv_zone_faults.specs.Zones.{AreZoneFacts}
use Rattle.dnsv_gaps.specs.Asking.{Asking}
use Rattle.dnsv_gaps.specs.questions.Questions.{AreQuestionFacts}
use Rattle.dnsv_reasons.specs.Lines.{AreSaidLines, IsSaidLine}
use Rattle.dnsv_trust_reasons.specs.TrustLines.{IsTrustLine}
use Rattle.dnsv_true_reasons.proofs.telling.Says.{all_among}
use Rattle.dnsv_true_reasons.proofs.telling.SaysQuestion.{lines_tell}
use Rattle.dnsv_true_reasons.proofs.telling.SaysZones.{levels_say}
use Rattle.dnsv_true_reasons.proofs.QuestionNames.{HasLine, says_all}
use Rattle.dnsv_true_reasons.proofs.ZoneNames.{HasTrustLine, says_zone}

-- ---- reasons

abbrev IsReasonLine : Line → Type 0
IsReasonLine found = (reason : Reason) × (found ≡ line.Reason reason)

trust_reason : (a : Asking) (t : Told) (found : Line) → is_reason (said.Trust t) ≡ true → IsTrustLine a.basis a.name t found → IsReasonLine found
trust_reason a (told.NotSelfSigned n) found is by = (_, by.4)
trust_reason a (told.Follows n) found is by = absurd (false≢true is)
trust_reason a t found is by = (_, by.2)

reason_line : (a : Asking) (t : Said) (found : Line) → is_reason t ≡ true → IsSaidLine a t found → IsReasonLine found
reason_line a (said.Trust t) found is by = trust_reason a t found is by
reason_line a (said.NoCloser n c) found is by = (_, by.4)
reason_line a (said.Source why n x) found is by = (_, by.4)
reason_line a (said.DsUnproved c) found is by = (_, by.4)
reason_line a t found is by = (_, by.2)

later : {X : Type 0} (x y : X) (xs : List X) → Contains xs y → Contains (x ∷ xs) y
later x y xs (k, within, is) = (suc k, omega (arith, within), is)

by_case : (a : Asking) (t : Said) (ts : List Said) (first : Line) (rest lines : List Line) (b : Bool) → is_reason t ≡ b → (b || list_any is_reason ts) ≡ true
    → IsSaidLine a t first → lines ≡ first ∷ rest → (list_any is_reason ts ≡ true → (reason : Reason) × Contains rest (line.Reason reason))
    → (reason : Reason) × Contains lines (line.Reason reason)
by_case a t ts first rest lines true e h is same others =
    let by = reason_line a t first e is in
    (by.0, subst (λ (each : List Line). Contains each (line.Reason by.0)) (sym same) (0, omega arith, by.1))
by_case a t ts first rest lines false e h is same others =
    let found = others h in
    (found.0, subst (λ (each : List Line). Contains each (line.Reason found.0)) (sym same) (later first (line.Reason found.0) rest found.1))

-- where each line that is told is said, so is a reason
pub reason_said : (a : Asking) (ts : List Said) (lines : List Line) → AllByRecursion (HasLine a) ts → list_any is_reason ts ≡ true → AreSaidLines a ts lines
    → (reason : Reason) × Contains lines (line.Reason reason)
reason_said a [] lines all some said = absurd (false≢true some)
reason_said a (t ∷ ts) lines all some (inl (first, rest, is, others, same)) =
    by_case a t ts first rest lines (is_reason t) refl some is same (λ h. reason_said a ts rest all.1 h others)
reason_said a (t ∷ ts) lines all some (inr (none, others)) = absurd (none all.0.0 all.0.1)

-- ---- what is told

pub all_from : {X : Type 0} (P : X → Type 0) (xs : List X) → ((x : X) → IsAmong x xs → P x) → AllByRecursion P xs
all_from P [] each = tt
all_from P (x ∷ xs) each = (each x (inl refl), all_from P xs (λ y among. each y (inr among)))

-- each line that is told has one that says it
pub all_said : (a : Asking) (zones : List ZoneFacts) (q : QuestionFacts) → AreZoneFacts a.basis a.name a.rtype zones → AreQuestionFacts a q
    → q.is_anchored ≡ true → AllByRecursion (HasLine a) (lines_told q (question_remedy (levels_of q.is_anchored zones) q))
all_said a zones q of_zones of_q anchored =
    let levels = levels_of q.is_anchored zones in
    let told = question_remedy levels q in
    let all = lines_tell (HasLine a) levels (levels_say (HasTrustLine a) zones q.is_anchored (says_zone a zones of_zones)) q (says_all a q of_q) in
    all_from (HasLine a) (lines_told q told) (λ t among. all_among (HasLine a) (all_lines q told) t all (only_told q told t anchored among))
