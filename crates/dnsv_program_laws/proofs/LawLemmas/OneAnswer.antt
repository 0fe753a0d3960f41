-- The answers to many questions are of one text and one end.
use Rattle.std.proofs.Common.{◌≡◌, ◌⊎◌, ◌≤◌, ◌∙◌, ℕ, Bool, List, [], ◌∷◌, ap, arith, inl, inr, map, refl, subst, sym}
use Rattle.std.specs.List.{flat_map}
use Rattle.std.specs.Prelude.{Contains, Option, Some, slice_get, unwrap_or}
use Rattle.dnsv_answers.specs.declared.heading.Moments.TheVariants.{At}
use Rattle.dnsv_names.specs.Octets.{AreOctets}
use Rattle.dnsv_chain.specs.Basis.{Basis}
use Rattle.dnsv_verdict.specs.VerdictError.{verdict_error_code}
use Rattle.dnsv_verdict.specs.Way.{IsRefusal}
use Rattle.dnsv_verdict.specs.declared.error.VerdictError.{VerdictError}
use Rattle.dnsv_evidence_texts.specs.Refused.{refused_text}
use Rattle.dnsv_questions.specs.declared.format.Format.{Format}
use Rattle.dnsv_questions.specs.Question.{Asked, IsQuestion}
use Rattle.dnsv_files.specs.Files.{Files, octets_or_none}
use Rattle.dnsv_program_laws.specs.Layers.{LayerLaws}
use Rattle.dnsv_files.specs.Status.{status_code}
use Rattle.dnsv_asking.specs.Asking.{Answered, AreAnswered, AreAnswers, EachAnswered, IsAnswer, IsGreatest}
use Rattle.dnsv_asking.specs.Checking.{IsJudged}
use Rattle.dnsv_work.specs.InOrder.{basis_in}
use Rattle.dnsv_files.specs.declared.status.Status.{Status}
use Rattle.dnsv_files.specs.declared.status.Status.TheVariants.{Bogus, Done, Indeterminate, Insecure, Pending, Refused}
use Rattle.dnsv_files.proofs.FileLemmas.Questions.{one_list_of_questions}
use Rattle.dnsv_program_laws.proofs.LawLemmas.OneText.{one_basis, one_judged, one_numbering}

-- ---- the greatest end

-- the statuses by their numbers, of which three have none
abbrev statuses : List Status
statuses = Done ∷ Done ∷ Done ∷ Insecure ∷ Pending ∷ Bogus ∷ Indeterminate ∷ Refused ∷ []

told : (s : Status) → slice_get statuses (status_code s) ≡ Some s
told Done = refl
told s = refl

same_status : (s t : Status) → status_code s ≡ status_code t → s ≡ t
same_status s t same =
    let found : Path (Option Status) (Some s) (Some t) = sym (told s) ∙ ap (slice_get statuses) same ∙ told t in
    ap (λ (o : Option Status). unwrap_or o s) found

equal : (m n : ℕ) → m ≤ n → n ≤ m → m ≡ n
equal m n low high = omega (arith, low, high)

no_greater : (ends : List Status) (s t : Status) → IsGreatest ends s → IsGreatest ends t → status_code s ≤ status_code t
no_greater ends s t x y = go x.one
  where
    go : (s ≡ Done) ⊎ Contains ends s → status_code s ≤ status_code t
    go (inl none) = rw none (omega arith)
    go (inr at) = y.greatest s at

one_greatest : (ends : List Status) (s t : Status) → IsGreatest ends s → IsGreatest ends t → s ≡ t
one_greatest ends s t x y = same_status s t (equal (status_code s) (status_code t) (no_greater ends s t x y) (no_greater ends t s y x))

module _ (laws : LayerLaws) where
  -- ---- one question

  one_error : (basis : Basis) (asked : Asked) (a b : VerdictError) → IsRefusal basis asked.name asked.rtype a → IsRefusal basis asked.name asked.rtype b → a ≡ b
  one_error basis asked a b (inl x) (inl y) = x.0 ∙ sym y.0
  one_error basis asked a b (inl x) (inr y) = absurd (x.1 y.0)
  one_error basis asked a b (inr x) (inl y) = absurd (y.1 x.0)
  one_error basis asked a b (inr x) (inr y) = laws.verdicts.one_refusal basis asked.name asked.rtype a b x.1 y.1

  judged_stands : (format : Format) (why : Bool) (numbers : Option (List ℕ)) (basis : Basis) (asked : Asked) (end : Status) (text : List ℕ) (error : VerdictError)
      → IsQuestion asked.name asked.rtype → IsJudged format why numbers basis asked.name asked.rtype end text → IsRefusal basis asked.name asked.rtype error → ⊥
  judged_stands format why numbers basis asked end text error may x (inl bad) = bad.1 may
  judged_stands format why numbers basis asked end text error may x (inr bad) =
      laws.verdicts.verdict_apart basis asked.name asked.rtype x.report.links x.report.last x.report.verdict error x.is_verdict bad.1

  module _ (moment : ℕ) (files : Files) (are : AreOctets files.capture) (format : Format) (why : Bool) (numbers : Option (List ℕ)) (basis : Basis) where
    one_of : (asked : Asked) (s t : Status) (a b : List ℕ) → IsAnswer format why numbers basis asked s a → IsAnswer format why numbers basis asked t b → (s ≡ t) × (a ≡ b)
    one_of asked s t a b (inl x) (inl y) = one_judged laws asked.rtype moment files are basis format why numbers asked.name s t a b x.1 y.1
    one_of asked s t a b (inl x) (inr y) = absurd (judged_stands format why numbers basis asked s a y.error x.0 x.1 y.refused)
    one_of asked s t a b (inr x) (inl y) = absurd (judged_stands format why numbers basis asked t b x.error y.0 y.1 x.refused)
    one_of asked s t a b (inr x) (inr y) =
        let errors = one_error basis asked x.error y.error x.refused y.refused in
        let ends : s ≡ t = x.ends ∙ sym y.ends in (
          ends,
          x.line ∙ (λ i. refused_text format (verdict_error_code (errors i)) why asked.name asked.rtype basis.moment (status_code (ends i))) ∙ sym y.line,
        )

    -- ---- many

    one_each : (asked : List Asked) (xs ys : List Answered) → EachAnswered format why numbers basis asked xs → EachAnswered format why numbers basis asked ys → xs ≡ ys
    one_each [] [] [] a b = refl
    one_each [] [] (y ∷ ys) a b = absurd b
    one_each [] (x ∷ xs) ys a b = absurd a
    one_each (q ∷ qs) [] ys a b = absurd a
    one_each (q ∷ qs) (x ∷ xs) [] a b = absurd b
    one_each (q ∷ qs) (x ∷ xs) (y ∷ ys) a b =
        let first = one_of q x.end y.end x.text y.text a.0 b.0 in
        let rest = one_each qs xs ys a.1 b.1 in
        λ i. (record { end = first.0 i; text = first.1 i }) ∷ rest i

    one_of_all : (asked : List Asked) (s t : Status) (a b : List ℕ) → AreAnswers format why numbers basis asked s a → AreAnswers format why numbers basis asked t b → (s ≡ t) × (a ≡ b)
    one_of_all asked s t a b x y =
        let same = one_each asked x.answers y.answers x.each y.each in (
          one_greatest (map (λ (each : Answered). each.end) y.answers) s t
              (subst (λ (each : List Answered). IsGreatest (map (λ (answer : Answered). answer.end) each) s) same x.ends) y.ends,
          x.joined ∙ ap (λ (each : List Answered). flat_map (λ (answer : Answered). answer.text) each) same ∙ sym y.joined,
        )

  -- files have one answer for the questions that they ask
  pub one_answered : (moment : ℕ) (files : Files) → AreOctets files.capture → (format : Format) (why : Bool) (s t : Status) (a b : List ℕ)
      → AreAnswered format why moment files s a → AreAnswered format why moment files t b → (s ≡ t) × (a ≡ b)
  one_answered moment files are format why s t a b x y =
      let asked = one_list_of_questions (octets_or_none files.questions) x.asked y.asked x.has y.has in
      let bases = one_basis laws (At moment) files are x.given y.given in
      one_of_all moment files are format why y.given.numbers (basis_in y.given) y.asked s t a b
      (subst (λ (each : Option (List ℕ)). AreAnswers format why each (basis_in y.given) y.asked s a) (one_numbering laws (At moment) files are x.given y.given)
      (subst (λ (each : Basis). AreAnswers format why x.given.numbers each y.asked s a) bases
      (subst (λ (each : List Asked). AreAnswers format why x.given.numbers (basis_in x.given) each s a) asked x.answers))) y.answers
