-- The answers to the first questions, and to one more.
use Rattle.std.proofs.Common.{◌≡◌, ◌⊎◌, ◌<◌, ◌≤◌, ◌∙◌, ◌+◌, ℕ, Bool, List, [], ◌∷◌, ◌++◌, Option, ap, arith, get_or, inl, inr, length, map, refl, subst, sym, take}
use Rattle.std.proofs.lemmas.Bool.{cases_lt}
use Rattle.std.proofs.lemmas.List.{map-append, take_all, take_more, flat_map_more}
use Rattle.std.proofs.lemmas.List.Elements.{Contains-append_left, Contains-push, Contains-push_cases}
use Rattle.std.proofs.Math.Seq.{take-append-add}
use Rattle.std.proofs.KnownBytes.{Appends-trans}
use Rattle.std.specs.Io.KnownBytes.{Appends}
use Rattle.std.specs.Prelude.{Contains}
use Rattle.dnsv_message.specs.Streams.Counted.{AppendsBeginning}
use Rattle.dnsv_chain.specs.Basis.{Basis}
use Rattle.dnsv_questions.specs.declared.format.Format.{Format}
use Rattle.dnsv_questions.specs.Question.{Asked}
use Rattle.dnsv_files.specs.Status.{status_code}
use Rattle.dnsv_asking.specs.Asking.{Answered, AreAnswers, EachAnswered, IsAnswer, IsGreatest}
use Rattle.dnsv_files.specs.declared.status.Status.{Status}
use Rattle.dnsv_files.specs.declared.status.Status.TheVariants.{Done}

at_most : (a b c : ℕ) → a ≤ b → b ≤ c → a ≤ c
at_most a b c low high = omega (arith, low, high)

-- one end more, and the greater of it and of the greatest so far
greatest_more : (ends : List Status) (end new worse : Status) → IsGreatest ends end → (worse ≡ end) ⊎ (worse ≡ new)
    → (status_code end ≤ status_code worse) × (status_code new ≤ status_code worse) → IsGreatest (ends ++ new ∷ []) worse
greatest_more ends end new worse so_far one above = record {
  one = which one so_far.one;
  greatest = λ other at. below other (Contains-push_cases ends new other at);
}
  where
    which : (worse ≡ end) ⊎ (worse ≡ new) → (end ≡ Done) ⊎ Contains ends end → (worse ≡ Done) ⊎ Contains (ends ++ new ∷ []) worse
    which (inl same) (inl done) = inl (same ∙ done)
    which (inl same) (inr at) = inr (subst (λ (each : Status). Contains (ends ++ new ∷ []) each) (sym same) (Contains-append_left ends (new ∷ []) end at))
    which (inr same) before = inr (subst (λ (each : Status). Contains (ends ++ new ∷ []) each) (sym same) (Contains-push ends new))

    below : (other : Status) → Contains ends other ⊎ (new ≡ other) → status_code other ≤ status_code worse
    below other (inl at) = at_most (status_code other) (status_code end) (status_code worse) (so_far.greatest other at) above.0
    below other (inr same) = subst (λ (each : Status). status_code each ≤ status_code worse) same above.1

-- the greater of two ends
record IsWorse (end new : Status) : Type 0 where
  worse : Status
  one : (worse ≡ end) ⊎ (worse ≡ new)
  above : (status_code end ≤ status_code worse) × (status_code new ≤ status_code worse)

worse_of : (end new : Status) → IsWorse end new
worse_of end new = go (cases_lt (status_code end) (status_code new))
  where
    go : (status_code end < status_code new) ⊎ (status_code new ≤ status_code end) → IsWorse end new
    go (inl less) = record { worse = new; one = inr refl; above = (omega (arith, less), omega arith) }
    go (inr least) = record { worse = end; one = inl refl; above = (omega arith, least) }

module _ (format : Format) (why : Bool) (numbers : Option (List ℕ)) (basis : Basis) where
  each_more : (asked : List Asked) (answers : List Answered) (x : Asked) (answer : Answered) → EachAnswered format why numbers basis asked answers
      → IsAnswer format why numbers basis x answer.end answer.text → EachAnswered format why numbers basis (asked ++ x ∷ []) (answers ++ answer ∷ [])
  each_more [] [] x answer each is = (is, tt)
  each_more [] (a ∷ others) x answer each is = absurd each
  each_more (q ∷ qs) [] x answer each is = absurd each
  each_more (q ∷ qs) (a ∷ others) x answer each is = (each.0, each_more qs others x answer each.1 is)

  more_answers : (asked : List Asked) (end new worse : Status) (text line : List ℕ) (x : Asked) → AreAnswers format why numbers basis asked end text
      → IsAnswer format why numbers basis x new line → (worse ≡ end) ⊎ (worse ≡ new)
      → (status_code end ≤ status_code worse) × (status_code new ≤ status_code worse)
      → AreAnswers format why numbers basis (asked ++ x ∷ []) worse (text ++ line)
  more_answers asked end new worse text line x are is one above =
      let answer : Answered = record { end = new; text = line } in record {
        answers = are.answers ++ answer ∷ [];
        each = each_more asked are.answers x answer are.each is;
        ends = subst (λ ends. IsGreatest ends worse) (sym (map-append (λ (each : Answered). each.end) are.answers (answer ∷ [])))
            (greatest_more (map (λ (each : Answered). each.end) are.answers) end new worse are.ends one above);
        joined = ap (λ (front : List ℕ). front ++ line) are.joined ∙ flat_map_more (λ (each : Answered). each.text) [] are.answers answer;
      }

  -- the first of the questions are told, by an end and a text by which the output grew
  pub record ToldSoFar (asked : List Asked) (done : ℕ) (end : Status) (old now : Option (List ℕ)) : Type 0 where
    pub text : List ℕ
    pub answers : AreAnswers format why numbers basis (take done asked) end text
    pub grown : Appends old now text

  one_more : (asked : List Asked) (done : ℕ) (x : Asked) → done < length asked → get_or asked done x ≡ x → take done asked ++ x ∷ [] ≡ take (done + 1) asked
  one_more asked done x within here = sym (take_more asked done x within ∙ ap (λ (each : Asked). take done asked ++ each ∷ []) here)

  pub ToldSoFar-next : (asked : List Asked) (done : ℕ) (end new worse : Status) (old now after : Option (List ℕ)) (x : Asked) → done < length asked → get_or asked done x ≡ x
      → ToldSoFar asked done end old now → ((line : List ℕ) × IsAnswer format why numbers basis x new line × Appends now after line)
      → (worse ≡ end) ⊎ (worse ≡ new) → (status_code end ≤ status_code worse) × (status_code new ≤ status_code worse)
      → ToldSoFar asked (done + 1) worse old after
  ToldSoFar-next asked done end new worse old now after x within here so_far told one above =
      let first = one_more asked done x within here in record {
        text = so_far.text ++ told.0;
        answers = subst (λ (each : List Asked). AreAnswers format why numbers basis each worse (so_far.text ++ told.0)) first
            (more_answers (take done asked) end new worse so_far.text told.0 x so_far.answers told.1 one above);
        grown = Appends-trans _ _ _ _ _ so_far.grown told.2;
      }

  pub ToldSoFar-all : (asked : List Asked) (done : ℕ) (end : Status) (old now : Option (List ℕ)) → length asked ≤ done → ToldSoFar asked done end old now
      → (text : List ℕ) × AreAnswers format why numbers basis asked end text × Appends old now text
  ToldSoFar-all asked done end old now whole so_far = (
    so_far.text,
    subst (λ (each : List Asked). AreAnswers format why numbers basis each end so_far.text) (take_all done asked whole) so_far.answers,
    so_far.grown,
  )

  pub ToldSoFar-whole : (asked : List Asked) (done : ℕ) (end : Status) (old now : Option (List ℕ)) → done < length asked → ToldSoFar asked done end old now
      → (count : ℕ) × (count < length asked) × (end : Status) × (text : List ℕ) × AreAnswers format why numbers basis (take count asked) end text
      × Appends old now text
  ToldSoFar-whole asked done end old now fewer so_far = (done, fewer, end, so_far.text, so_far.answers, so_far.grown)

  -- a beginning of one more is one of all of them
  pub ToldSoFar-begun : (asked : List Asked) (done : ℕ) (end new : Status) (old now after : Option (List ℕ)) (x : Asked) → done < length asked → get_or asked done x ≡ x
      → ToldSoFar asked done end old now → (line : List ℕ) → IsAnswer format why numbers basis x new line → AppendsBeginning now after line
      → (count : ℕ) × (end : Status) × (text : List ℕ) × AreAnswers format why numbers basis (take count asked) end text × AppendsBeginning old after text
  ToldSoFar-begun asked done end new old now after x within here so_far line is begun =
      let greater = worse_of end new in (
        done + 1,
        greater.worse,
        so_far.text ++ line,
        subst (λ (each : List Asked). AreAnswers format why numbers basis each greater.worse (so_far.text ++ line)) (one_more asked done x within here)
            (more_answers (take done asked) end new greater.worse so_far.text line x so_far.answers is greater.one greater.above),
        (
          length so_far.text + begun.0,
          subst (λ (text : List ℕ). Appends old after text) (sym (take-append-add so_far.text line begun.0)) (Appends-trans _ _ _ _ _ so_far.grown begun.1),
        ),
      )
