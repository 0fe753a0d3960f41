-- A question that nothing proves costs something, and a reason is told.
use Rattle.std.proofs.Common.{◌≡◌, inl, ⊎_elim, ℕ, ◌<◌, true, List, [], ◌∷◌, Some, refl, sym, ap, ◌∙◌, subst}
use Rattle.std.proofs.lemmas.Bool.{ltb-true}
use Rattle.std.specs.List.{list_any}
use Rattle.std.specs.declared.alloc.Global.{Global}
use Rattle.dnsv_mending.specs.Examples.{one, standby}
use Rattle.dnsv_mending.specs.Examples.{none as none_left}
use Rattle.dnsv_mending.specs.InPlace.{IsInPlace}
use Rattle.dnsv_mending.specs.Price.{none}
use Rattle.dnsv_mending.specs.Reasons.{IsClosed}
use Rattle.dnsv_mending.specs.Ways.{IsAmong}
use Rattle.dnsv_mending.specs.Zone.{levels_of}
use Rattle.dnsv_mending.specs.declared.facts.zone.ZoneFacts.{ZoneFacts}
use Rattle.dnsv_remedies.specs.Examples.{by_test, of_another, speaker}
use Rattle.dnsv_remedies.specs.InPlace.{IsQuestionInPlace}
use Rattle.dnsv_remedies.specs.Question.{lines_told, question_remedy}
use Rattle.dnsv_remedies.specs.Reasons.{AreOf, IsCaseOf, IsOf, IsProved, IsWholeQuestion}
use Rattle.dnsv_remedies.specs.Remedy.{Remedied}
use Rattle.dnsv_remedies.specs.Said.{is_reason}
use Rattle.dnsv_remedies.specs.declared.facts.denial.SourceCase.{SourceCase}
use Rattle.dnsv_remedies.specs.declared.facts.denial.SourceCase.TheVariants as case
use Rattle.dnsv_remedies.specs.declared.facts.denial.SourceFacts.{SourceFacts}
use Rattle.dnsv_remedies.specs.declared.facts.denial.SpeakerFacts.{SpeakerFacts}
use Rattle.dnsv_remedies.specs.declared.facts.denial.WildcardFacts.TheVariants as wildcard
use Rattle.dnsv_remedies.specs.declared.facts.question.QuestionFacts.{QuestionFacts}
use Rattle.dnsv_remedies.proofs.Leads.{question_there}
use Rattle.dnsv_remedies.proofs.Once.{told_reason}
use Rattle.dnsv_remedies.proofs.Proved.{TellsOf, question_told}

pub has_reason : (zones : List ZoneFacts) (q : QuestionFacts) (m : Remedied) → IsClosed zones → IsWholeQuestion zones q → q.is_anchored ≡ true
    → question_remedy (levels_of true zones) q ≡ Some m → (IsProved zones q → ⊥) → list_any is_reason (lines_told q (Some m)) ≡ true
has_reason zones q m closed is_whole anchored is unproved =
    ⊎_elim (λ (p : IsProved zones q). absurd (unproved p)) (λ (t : TellsOf q m). told_reason q m anchored t.reason)
    (question_told zones closed q is_whole m is)

pub free_proved : (zones : List ZoneFacts) (q : QuestionFacts) (m : Remedied) → IsClosed zones → IsWholeQuestion zones q
    → question_remedy (levels_of true zones) q ≡ Some m → m.price ≡ none → IsProved zones q
free_proved zones q m closed is_whole is free =
    ⊎_elim (λ (p : IsProved zones q). p) (λ (t : TellsOf q m). absurd (t.costs free)) (question_told zones closed q is_whole m is)

pub always_has_reason : (zones : List ZoneFacts) (q : QuestionFacts) → IsClosed zones → IsInPlace zones → IsWholeQuestion zones q → IsQuestionInPlace zones q
    → q.is_anchored ≡ true → (IsProved zones q → ⊥) → list_any is_reason (lines_told q (question_remedy (levels_of true zones) q)) ≡ true
always_has_reason zones q closed place is_whole in_place anchored unproved =
    let m = question_there zones place q in_place in
    ap (λ o. list_any is_reason (lines_told q o)) m.1 ∙ has_reason zones q m.0 closed is_whole anchored m.1 unproved

-- ---- a question whose facts are whole

one_of : (heap : Global) (n : ℕ) → AreOf 1 (by_test heap n ∷ [])
one_of heap n r among = ⊎_elim (λ (e : r ≡ by_test heap n). subst (IsOf 1) (sym e) (inl refl)) (λ (none : ⊥). absurd none) among

none_of : AreOf 1 []
none_of r none = absurd none

abbrev the_case : Global → SourceCase
the_case heap = case.Encloser (record { name = 1; next = 2; shown = one heap (by_test heap 2); covers = none_left heap; wildcard = wildcard.Covered (one heap (by_test heap 3)) })

source_whole : (heap : Global) (s : SourceFacts) → IsAmong s ((record { place = 0; case = the_case heap }) ∷ []) → IsCaseOf 1 s.case
source_whole heap s among = ⊎_elim
    (λ (e : s ≡ record { place = 0; case = the_case heap }). subst (λ (x : SourceFacts). IsCaseOf 1 x.case) (sym e) (one_of heap 2, (none_of, one_of heap 3)))
    (λ (none : ⊥). absurd none) among

pub of_another_whole : (heap : Global) → IsWholeQuestion (standby heap) (of_another heap)
of_another_whole heap = record {
  answers = λ g s goal by. absurd goal;
  denials = λ z s at source. ⊎_elim
      (λ (e : z ≡ speaker heap (the_case heap)).
      subst (λ (y : SpeakerFacts). IsAmong s y.sources.items → IsCaseOf y.labels s.case) (sym e) (source_whole heap s) source)
      (λ (none : ⊥). absurd none) at;
  cuts = λ z c s parent name source. absurd parent;
}

pub of_another_in_place : (heap : Global) → IsQuestionInPlace (standby heap) (of_another heap)
of_another_in_place heap = record {
  signers = λ g s goal by. absurd goal;
  speakers = λ z at. ⊎_elim
      (λ (e : z ≡ speaker heap (the_case heap)). subst (λ (y : SpeakerFacts). y.labels < 3) (sym e) (ltb-true 1 3 refl))
      (λ (none : ⊥). absurd none) at;
}
