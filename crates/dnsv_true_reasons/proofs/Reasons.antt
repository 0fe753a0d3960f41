-- Of a question that nothing proves a line tells a reason.
use Rattle.std.proofs.Common.{◌≡◌, Bool, true, List, sym, subst}
use Rattle.std.specs.Prelude.{Contains}
use Rattle.std.specs.List.{AllByRecursion, list_any}
use Rattle.dnsv_canonical.specs.Rdata.{IsWellFormed}
use Rattle.dnsv_lines.specs.declared.line.Line.{Line}
use Rattle.dnsv_lines.specs.declared.line.Line.TheVariants as line
use Rattle.dnsv_lines.specs.declared.line.fault.Reason.{Reason}
use Rattle.dnsv_mending.specs.Zone.{levels_of}
use Rattle.dnsv_chain.specs.Basis.{HasAnchor}
use Rattle.dnsv_verdict.specs.Verdict.{IsVerdictAt}
use Rattle.dnsv_verdict.specs.declared.verdict.Verdict.TheVariants.{Bogus}
use Rattle.dnsv_zone_faults.proofs.lemmas.zones.InPlaceLemmas.{in_place}
use Rattle.dnsv_zone_faults.proofs.lemmas.zones.WholeLemmas.{whole}
use Rattle.dnsv_gaps.specs.Asking.{Asking}
use Rattle.dnsv_reasons.specs.Failures.{AreFailures}
use Rattle.dnsv_remedies.specs.Question.{lines_told, question_remedy}
use Rattle.dnsv_remedies.specs.Said.{is_reason}
use Rattle.dnsv_remedies.specs.declared.said.Said.{Said}
use Rattle.dnsv_remedies.proofs.Reasons.{always_has_reason}
use Rattle.dnsv_true_reasons.specs.Unmet.{IsUnproved}
use Rattle.dnsv_true_reasons.proofs.QuestionNames.{HasLine}
use Rattle.dnsv_true_reasons.proofs.Settled.{proved_settles}
use Rattle.dnsv_true_reasons.proofs.Told.{all_said, reason_said}
use Rattle.dnsv_true_reasons.proofs.Whole.{question_in_place, whole_question}

-- where nothing that is found proves it
pub unproved_fails : (a : Asking) (lines : List Line) → AllByRecursion IsWellFormed a.basis.rrsets → HasAnchor a.basis.anchors a.name → IsUnproved a
    → AreFailures a lines → (reason : Reason) × Contains lines (line.Reason reason)
unproved_fails a lines formed anchor unproved fails =
    let told = fails.are_told in
    let q = told.question in
    let of_zones = told.of_zones in
    let of_q = told.of_question in
    let anchored : q.is_anchored ≡ true = of_q.is_anchored.1 anchor in
    let closed = whole a.basis a.name a.rtype told.zones of_zones in
    let place = in_place a.basis a.name a.rtype told.zones of_zones formed in
    let reason = always_has_reason told.zones q closed place (whole_question a told.zones of_zones q of_q) (question_in_place a told.zones of_zones q of_q) anchored
    (unproved told.zones q of_zones of_q) in
    let here : list_any is_reason (lines_told q (question_remedy (levels_of q.is_anchored told.zones) q)) ≡ true =
    subst (λ (b : Bool). list_any is_reason (lines_told q (question_remedy (levels_of b told.zones) q)) ≡ true) (sym anchored) reason in
    reason_said a fails.told lines
    (subst (λ (all : List Said). AllByRecursion (HasLine a) all) (sym told.are) (all_said a told.zones q of_zones of_q anchored))
    (subst (λ (all : List Said). list_any is_reason all ≡ true) (sym told.are) here) fails.said

-- where the verdict is Bogus nothing does
pub bogus_unproved : (a : Asking) → IsVerdictAt a.basis a.name a.rtype Bogus → IsUnproved a
bogus_unproved a bogus zones q of_zones of_q proved = proved_settles a zones q of_q proved bogus.0

pub bogus_fails : (a : Asking) (lines : List Line) → AllByRecursion IsWellFormed a.basis.rrsets
    → IsVerdictAt a.basis a.name a.rtype Bogus → AreFailures a lines → (reason : Reason) × Contains lines (line.Reason reason)
bogus_fails a lines formed bogus fails =
    unproved_fails a lines formed bogus.2 (bogus_unproved a bogus) fails
