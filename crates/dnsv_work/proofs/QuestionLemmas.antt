-- A question is refused in one way, or can be asked.
use Rattle.std.proofs.Common.{◌≡◌, ℕ, List, Result, Ok, Err, inl, inr, refl, sym, ap, subst, ◌∙◌}
use Rattle.dnsv_names.specs.Name.{IsName, Labels}
use Rattle.dnsv_names.specs.Text.{FirstFault, IsTextOf}
use Rattle.dnsv_names.specs.declared.error.NameError.{NameError}
use Rattle.dnsv_questions.specs.Question.{IsQuestion}
use Rattle.dnsv_verdict.specs.declared.error.VerdictError.TheVariants.{BadQuestion}
use Rattle.dnsv_work.specs.Question.{IsQuestionRefused, Spells}
use Rattle.dnsv_work.specs.Faults.{IsFaultOfQuestion}
use Rattle.dnsv_files.specs.Told.{nowhere}
use Rattle.dnsv_files.specs.declared.status.Fault.{Fault}
use Rattle.dnsv_files.specs.declared.status.Fault.TheVariants as fault
use Rattle.dnsv_files.specs.declared.status.Place.{Place}
use Rattle.dnsv_files.specs.declared.status.Refusal.{Refusal}
use Rattle.dnsv_files.specs.declared.status.Refusal.TheVariants as refusal
use Rattle.dnsv_work.proofs.PlaceLemmas.{same_nowhere}

-- what holds of the refusals of a question holds of its faults
by_refusals : (asked : List ℕ) (rtype : ℕ) (Holds : Fault → Type 0)
    → ((why : Refusal) (place : Place) → IsQuestionRefused asked rtype why place → Holds (fault.Refused why place))
    → (told : Fault) → IsFaultOfQuestion asked rtype told → Holds told
by_refusals asked rtype Holds all (fault.Refused why place) is = all why place is
by_refusals asked rtype Holds all told is = absurd is

module _ (asked : List ℕ) (rtype : ℕ) (parsed : Result Labels NameError)
    (every : (labels : Labels) → IsName labels → IsTextOf asked labels → parsed ≡ Ok labels)
    (every_fault : (error : NameError) → FirstFault asked error → parsed ≡ Err error) where
  refused_name : (error : NameError) → parsed ≡ Err error → (why : Refusal) (place : Place) → IsQuestionRefused asked rtype why place
      → fault.Refused (refusal.Name error) nowhere ≡ fault.Refused why place
  refused_name error is why place (inl bad) =
      let first : parsed ≡ Err bad.0 = every_fault bad.0 bad.1 in
      let same : error ≡ bad.0 = cc in
      λ i. fault.Refused ((ap (λ (e : NameError). refusal.Name e) same ∙ sym bad.2) i) (same_nowhere nowhere place (refl, refl, refl) bad.3 i)
  refused_name error is why place (inr bad) =
      let found : parsed ≡ Ok bad.0 = every bad.0 bad.1.is_name bad.1.spelling in cc

  refused_type : (name : Labels) → parsed ≡ Ok name → (why : Refusal) (place : Place) → IsQuestionRefused asked rtype why place
      → fault.Refused (refusal.Question BadQuestion) nowhere ≡ fault.Refused why place
  refused_type name is why place (inl bad) =
      let first : parsed ≡ Err bad.0 = every_fault bad.0 bad.1 in cc
  refused_type name is why place (inr bad) =
      λ i. fault.Refused (sym bad.2.1 i) (same_nowhere nowhere place (refl, refl, refl) bad.2.2 i)

  asked_well : (name : Labels) → parsed ≡ Ok name → IsQuestion name rtype → (why : Refusal) (place : Place) → IsQuestionRefused asked rtype why place → ⊥
  asked_well name is may why place (inl bad) =
      let first : parsed ≡ Err bad.0 = every_fault bad.0 bad.1 in cc
  asked_well name is may why place (inr bad) =
      let found : parsed ≡ Ok bad.0 = every bad.0 bad.1.is_name bad.1.spelling in
      let same : name ≡ bad.0 = cc in
      bad.2.0 (subst (λ (each : Labels). IsQuestion each rtype) same may)

  -- where no name is found, none is spelled
  pub unspelled : (error : NameError) → parsed ≡ Err error → (name : Labels) → Spells asked name → ¬ IsQuestion name rtype
  unspelled error is name spells may = let found : parsed ≡ Ok name = every name spells.is_name spells.spelling in cc

  -- and where one is found whose type can't be asked for, no other is
  pub unaskable : (found : Labels) → parsed ≡ Ok found → (¬ IsQuestion found rtype) → (name : Labels) → Spells asked name → ¬ IsQuestion name rtype
  unaskable found is none name spells may =
      let also : parsed ≡ Ok name = every name spells.is_name spells.spelling in
      let same : found ≡ name = cc in
      none (subst (λ (each : Labels). IsQuestion each rtype) (sym same) may)

  -- a name that isn't one is told, whatever the fault is
  pub bad_name : (error : NameError) → parsed ≡ Err error → (told : Fault) → IsFaultOfQuestion asked rtype told → fault.Refused (refusal.Name error) nowhere ≡ told
  bad_name error is = by_refusals asked rtype (λ told. fault.Refused (refusal.Name error) nowhere ≡ told) (refused_name error is)

  -- and so is a type
  pub bad_type : (name : Labels) → parsed ≡ Ok name → (told : Fault) → IsFaultOfQuestion asked rtype told → fault.Refused (refusal.Question BadQuestion) nowhere ≡ told
  bad_type name is = by_refusals asked rtype (λ told. fault.Refused (refusal.Question BadQuestion) nowhere ≡ told) (refused_type name is)

  -- a question that can be asked has no fault
  pub no_question_fault : (name : Labels) → parsed ≡ Ok name → IsQuestion name rtype → (told : Fault) → IsFaultOfQuestion asked rtype told → ⊥
  no_question_fault name is may = by_refusals asked rtype (λ told. ⊥) (asked_well name is may)
