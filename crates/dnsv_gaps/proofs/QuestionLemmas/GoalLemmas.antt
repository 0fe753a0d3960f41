-- What may answer, RRset by RRset.
use Rattle.std.proofs.Common.{◌≡◌, ◌+◌, ◌-◌, ◌<◌, ◌≤◌, ◌↔◌, ℕ, Bool, eqb, IsTrue, inl, inr, List, [], ◌∷◌, ◌++◌, Some, length, get_or, refl, sym, ap, ◌∙◌, subst, arith}
use Rattle.std.proofs.lemmas.Bool.{eqb-true}
use Rattle.std.proofs.lemmas.Bool.Decides.{nat_tests}
use Rattle.std.proofs.lemmas.Option.{slice_get-get_or, slice_get_within}
use Rattle.std.specs.Prelude.{slice_get}
use Rattle.std.specs.List.{AllByRecursion, AllZip}
use Rattle.dnsv_canonical.specs.Rrsets.{IsNumbered, ReceivedRrset}
use Rattle.dnsv_canonical.proofs.NumberLemmas.{one_numbered}
use Rattle.dnsv_mending.specs.declared.facts.signature.RrsetFacts.{RrsetFacts}
use Rattle.dnsv_mending.specs.declared.facts.signature.SignatureFacts.{SignatureFacts}
use Rattle.dnsv_records.specs.declared.rrsig.Rrsig.{Rrsig}
use Rattle.dnsv_remedies.specs.declared.facts.answer.GoalFacts.{GoalFacts}
use Rattle.dnsv_faults.specs.KnownZones.{IsGoal}
use Rattle.dnsv_faults.specs.Rrsets.{AreRrsetFacts}
use Rattle.dnsv_faults.specs.Signatures.{AreSignatureFacts, IsSignatureAt}
use Rattle.dnsv_gaps.specs.Asking.{Asking}
use Rattle.dnsv_gaps.specs.questions.CloserSearch.{IsOneOf}
use Rattle.dnsv_gaps.specs.questions.Goals.{AreGoalFacts, AreGoals, IsGoalNumber}
use Rattle.dnsv_gaps.specs.questions.Listing.{AddsWhere}
use Rattle.dnsv_gaps.proofs.QuestionLemmas.ListingLemmas.{AreTo, all_there, none_added, none_yet}

-- a test of a number
pub is_number : (b : Bool) (m n k : ℕ) → b ≡ eqb m k → m ≡ n → IsTrue b ↔ (n ≡ k)
is_number b m n k test same = (
  λ yes. sym same ∙ eqb-true m k (sym test ∙ yes),
  λ is. test ∙ grind (arith, nat_tests, same, is),
)

-- the element at a place has the next number
pub numbered_next : {X : Type 0} (xs ys : List X) (place : ℕ) (x : X) → ys ≡ xs → place < length ys → x ≡ get_or ys place x → IsNumbered xs (place + 1) x
numbered_next xs ys place x same within at =
    let back : place + 1 - 1 ≡ place = omega arith in (
      omega arith,
      subst (λ each. slice_get each (place + 1 - 1) ≡ Some x) same
          (ap (slice_get ys) back ∙ slice_get-get_or ys place x within ∙ ap (λ y. Some y) (sym at)),
    )

-- ---- the RRsets so far

module _ (a : Asking) where
  abbrev pub AreGoalsTo : ℕ → List GoalFacts → Type 0
  AreGoalsTo = AreTo (λ (goal : GoalFacts). goal.number) (IsGoalNumber a) (AreGoalFacts a)

  -- numbers are from 1 on
  pub no_goal_yet : (goals : List GoalFacts) → goals ≡ [] → AreGoalsTo 1 goals
  no_goal_yet goals none = subst (AreGoalsTo 1) (sym none)
      (none_added (λ (goal : GoalFacts). goal.number) (IsGoalNumber a) (AreGoalFacts a) 0 []
      (none_yet (λ (goal : GoalFacts). goal.number) (IsGoalNumber a) (AreGoalFacts a))
      (λ is. let from = is.1.0 in absurd (omega (arith, from))))

  pub all_goals : (count : ℕ) (goals : List GoalFacts) → length a.basis.rrsets ≤ count → AreGoalsTo (count + 1) goals → AreGoals a goals
  all_goals count goals past so_far =
      all_there (λ (goal : GoalFacts). goal.number) (IsGoalNumber a) (AreGoalFacts a) (count + 1) goals
      (λ n is. let within = slice_get_within a.basis.rrsets (n - 1) is.0 is.1.1 in let from = is.1.0 in omega (arith, within, from, past)) so_far

  -- ---- an RRset

  module _ (k : ℕ) (rrset : ReceivedRrset) (numbered : IsNumbered a.basis.rrsets k rrset) where
    pub no_goal : (goals : List GoalFacts) → ¬ IsGoal a.name a.rtype rrset
        → AddsWhere (IsGoalNumber a k) (λ goal. AreGoalFacts a goal × (goal.number ≡ k)) goals goals
    no_goal goals not = inr (
      λ is. not (subst (IsGoal a.name a.rtype) (one_numbered a.basis.rrsets k is.0 rrset is.1 numbered) is.2),
      refl,
    )

    pub a_goal : (old : List GoalFacts) (goal : GoalFacts) → IsGoal a.name a.rtype rrset → AreGoalFacts a goal → goal.number ≡ k
        → AddsWhere (IsGoalNumber a k) (λ each. AreGoalFacts a each × (each.number ≡ k)) old (old ++ goal ∷ [])
    a_goal old goal is facts number = inl ((rrset, numbered, is), (goal, (facts, number), refl))

    -- its signatures are its own
    signatures_own : (other : ReceivedRrset) → other ≡ rrset → (order : List (ℕ × Rrsig)) (known : List SignatureFacts)
        → AllZip (λ signature each. AreSignatureFacts a.basis k other signature.0 each) order known → AllByRecursion (IsOneOf rrset) known
    signatures_own other same [] [] each = tt
    signatures_own other same [] (s ∷ known) each = absurd each
    signatures_own other same (o ∷ order) [] each = absurd each
    signatures_own other same (o ∷ order) (s ∷ known) each = (
      (
        each.0.rrsig,
        subst (λ (n : ℕ). IsSignatureAt rrset n each.0.rrsig) (ap (λ n. n.signature) (sym each.0.number))
            (subst (λ (r : ReceivedRrset). IsSignatureAt r o.0 each.0.rrsig) same each.0.its),
      ),
      signatures_own other same order known each.1,
    )

    pub own_signatures : (known : RrsetFacts) → AreRrsetFacts a.basis k known → AllByRecursion (IsOneOf rrset) known.signatures.items
    own_signatures known are =
        signatures_own are.rrset (one_numbered a.basis.rrsets k are.rrset rrset are.numbered numbered) are.order known.signatures.items are.each
