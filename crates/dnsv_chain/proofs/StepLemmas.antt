-- Steps in their order.
use Rattle.std.proofs.Common.{◌≡◌, ◌<◌, ◌≤◌, ◌+◌, ℕ, false, List, [], ◌∷◌, ◌++◌, length, get_or, take, sym, ap, ◌∙◌, subst, arith, ⊎_elim}
use Rattle.std.proofs.lemmas.Bool.{cases_lt, false≢true}
use Rattle.std.proofs.lemmas.Bool.Decides.{nat_tests}
use Rattle.std.proofs.lemmas.Cmp.{nat_cmp_total, on_total, then_total}
use Rattle.std.proofs.lemmas.List.{get_or-take, length-take-le, get_or_default}
use Rattle.std.proofs.lemmas.List.Elements.{Contains-append_left, Contains-push, Contains-push_cases}
use Rattle.std.proofs.lemmas.List.Sorted.{Contains-permutation, IsPermutation-sym, ranks_by, sorted_far}
use Rattle.std.specs.Cmp.{IsTotalOrder, IsStrictWeakOrder}
use Rattle.std.specs.List.{Contains}
use Rattle.std.specs.List.Sorted.{IsPermutation, IsSorted}
use Rattle.std.specs.Ordering.{is_lt, nat_cmp, ordering_then}
use Rattle.std.specs.declared.cmp.Ordering.{Ordering}
use Rattle.std.specs.declared.cmp.Ordering.TheVariants.{Less}
use Rattle.dnsv_canonical.specs.Rrsets.{ReceivedRrset}
use Rattle.dnsv_chain.specs.Order.{AreSteps, AreStepsTo, IsInChain, IsStepOf, step_cmp}
use Rattle.dnsv_chain.specs.declared.order.Step.{Step}

-- ---- the order

step_cmp_total : IsTotalOrder step_cmp
step_cmp_total =
    then_total (on_total (λ (s : Step). s.labels) nat_cmp_total) (then_total (on_total (λ (s : Step). s.rtype.0) nat_cmp_total) (on_total (λ (s : Step). s.place) nat_cmp_total))

nat_less : (x y : ℕ) → x < y → nat_cmp x y ≡ Less
nat_less x y less = grind (arith, nat_tests)

nat_tied : (x y : ℕ) (then : Ordering) → x ≡ y → ordering_then (nat_cmp x y) then ≡ then
nat_tied x y then same = grind (arith, nat_tests)

-- fewer labels come first
pub fewer_first : (a b : Step) → a.labels < b.labels → step_cmp a b ≡ Less
fewer_first a b fewer =
    λ i. ordering_then (nat_less a.labels b.labels fewer i) (ordering_then (nat_cmp a.rtype.0 b.rtype.0) (nat_cmp a.place b.place))

-- and of as many labels, DS before DNSKEY
pub ds_first : (a b : Step) → a.labels ≡ b.labels → a.rtype.0 < b.rtype.0 → step_cmp a b ≡ Less
ds_first a b same less =
    nat_tied a.labels b.labels (ordering_then (nat_cmp a.rtype.0 b.rtype.0) (nat_cmp a.place b.place)) same
    ∙ ap (λ (r : Ordering). ordering_then r (nat_cmp a.place b.place)) (nat_less a.rtype.0 b.rtype.0 less)

step_order : IsStrictWeakOrder (λ (x : Step) (y : Step). is_lt (step_cmp x y))
step_order = ranks_by step_cmp_total (λ (s : Step). s)

-- what comes before a step is done before it
pub earlier : (steps : List Step) (step other : Step) (i : ℕ) → IsSorted step_cmp steps → i < length steps → step ≡ get_or steps i step
    → Contains steps other → step_cmp other step ≡ Less → Contains (take i steps) other
earlier steps step other i rising within at among less =
    let j : ℕ = among.0 in
    let below : j < length steps = among.1 in
    ⊎_elim
    (λ (before : j < i). let size = length-take-le i steps (omega arith) in (j, omega (arith, size, before), get_or-take i steps j other before ∙ among.2))
    (λ (behind : i ≤ j).
    let far = sorted_far (λ (x : Step) (y : Step). is_lt (step_cmp x y)) step_order steps rising i j step behind below in
    let there : get_or steps j step ≡ other = get_or_default steps j step other below ∙ among.2 in
    let test : is_lt (step_cmp other step) ≡ false = (λ k. is_lt (step_cmp (sym there k) (at k))) ∙ far in
    absurd (false≢true (sym test ∙ ap is_lt less)))
    (cases_lt j i)

-- a step is for one RRset
pub one_rrset : (rrsets : List ReceivedRrset) (step : Step) (a b : ReceivedRrset) → IsStepOf rrsets step a → IsStepOf rrsets step b → a ≡ b
one_rrset rrsets step a b first second =
    sym first.at ∙ get_or_default rrsets step.place a b first.below ∙ second.at

-- ---- how they are made

module _ (rrsets : List ReceivedRrset) where
  module _ (i : ℕ) (rrset : ReceivedRrset) (steps : List Step) (within : i < length rrsets) (at : rrset ≡ get_or rrsets i rrset) (so_far : AreStepsTo rrsets i steps) where
    here : (other : ReceivedRrset) (place : ℕ) → place ≡ i → get_or rrsets place other ≡ other → other ≡ rrset
    here other place same there =
        sym there ∙ ap (λ (k : ℕ). get_or rrsets k other) same ∙ get_or_default rrsets i other rrset within ∙ sym at

    pub step_more : (step : Step) → IsInChain rrset → step.place ≡ i → step.labels ≡ length rrset.owner → step.rtype.0 ≡ rrset.rtype
        → AreStepsTo rrsets (i + 1) (steps ++ step ∷ [])
    step_more step in_chain place labels rtype =
        let for_it : IsStepOf rrsets step rrset = record {
          below = omega (arith, place, within);
          at = ap (λ (k : ℕ). get_or rrsets k rrset) place ∙ sym at;
          labels = labels;
          rtype = rtype;
        } in
        record {
          each = λ other among. ⊎_elim (λ (before : Contains steps other). so_far.each other before)
              (λ (last : step ≡ other). (rrset, subst (λ (s : Step). IsStepOf rrsets s rrset) last for_it, in_chain))
              (Contains-push_cases steps step other among);
          every = λ k other below inside there is. ⊎_elim
              (λ (before : k < i). let found = so_far.every k other before inside there is in
              (found.0, Contains-append_left steps (step ∷ []) found.0 found.1, found.2))
              (λ (behind : i ≤ k). let same : k ≡ i = omega (arith, below, behind) in
              (step, Contains-push steps step, subst (λ (r : ReceivedRrset). IsStepOf rrsets step r) (sym (here other k same there)) for_it))
              (cases_lt k i);
        }

    pub step_skip : ¬ IsInChain rrset → AreStepsTo rrsets (i + 1) steps
    step_skip outside = record {
      each = so_far.each;
      every = λ k other below inside there is. ⊎_elim (λ (before : k < i). so_far.every k other before inside there is)
          (λ (behind : i ≤ k). let same : k ≡ i = omega (arith, below, behind) in
          absurd (outside (subst IsInChain (here other k same there) is)))
          (cases_lt k i);
    }

  pub sorted_steps : (n : ℕ) (steps sorted : List Step) → length rrsets ≤ n → AreStepsTo rrsets n steps → IsPermutation steps sorted
      → IsSorted step_cmp sorted → AreSteps rrsets sorted
  sorted_steps n steps sorted past so_far moved rising = record {
    each = λ step among. so_far.each step (Contains-permutation sorted steps step (IsPermutation-sym steps sorted moved) among);
    every = λ rrset among in_chain.
        let below : among.0 < length rrsets = among.1 in
        let found = so_far.every among.0 rrset (omega (arith, below, past)) below among.2 in_chain in
        (found.0, Contains-permutation steps sorted found.0 moved found.1, found.2);
    rising = rising;
  }
