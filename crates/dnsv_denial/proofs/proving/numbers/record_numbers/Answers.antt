use Rattle.std.proofs.Common.{◌≡◌, ◌+◌, ◌≤◌, ℕ, List, [], ◌∷◌, ◌++◌, length, get_or, map, take, sym, ap, ◌∙◌, subst, arith, length-append}
use Rattle.std.proofs.lemmas.List.{take_more, take_all}
use Rattle.std.specs.List.{list_any}
use Rattle.std.specs.List.Sorted.{IsPermutation}
use Rattle.dnsv_proof_forms.specs.records.Numbers.{numbers_of, number_at}
use Rattle.dnsv_canonical.specs.declared.number.RecordNumber.{RecordNumber}
use Rattle.dnsv_denial.proofs.lemmas.proving.NumberLemmas.{AreDistinctOf, number_eq, no_numbers, one_more, known_already, in_order}
use Rattle.dnsv_denial.proofs.proving.numbers.record_numbers.Goals as goal
use Rattle.dnsv_denial.proofs.proving.numbers.record_numbers.Goals.{then-not-contains, else-not-contains}

pub loop-place-init : goal.loop-place-init
loop-place-init c = subst (λ items. AreDistinctOf [] items × (length items ≤ 0)) (sym c.new-numbers.ensures) (no_numbers, omega arith)

pub push-requires : goal.push-requires
push-requires c = (omega arith, omega (arith, c.loop-place.invariant.1, c.loop-place-test.true, c.deref-place-items.ensures.1))

pub loop-place-preserved : goal.loop-place-preserved
loop-place-preserved c =
    let places = c.deref-place-items.result.now in
    let i = c.loop-place.place-index in
    let at : ℕ → RecordNumber = number_at (numbers_of c.args.records.now) in
    let p : ℕ = get_or places i 0 in
    let numbers = c.loop-place.numbers.items in
    let next : take (i + 1) places ≡ take i places ++ p ∷ [] = take_more places i 0 c.loop-place-test.true in
    let any : list_any (λ y. number_eq y c.number-number.result) numbers ≡ c.contains.result =
    subst (λ xs. list_any (λ y. number_eq y c.number-number.result) xs ≡ c.contains.result) c.deref.ensures.0 (sym c.contains.ensures.value) in
    let known : list_any (λ y. number_eq y (at p)) numbers ≡ c.contains.result =
    subst (λ n. list_any (λ y. number_eq y n) numbers ≡ c.contains.result) c.number-number.ensures any in
    let So_far : List RecordNumber → Type 0 = λ xs. AreDistinctOf (map at (take (i + 1) places)) xs × (length xs ≤ i + 1) in
    elim c.if-not-contains.branch [
      | then-not-contains w ↦
          subst So_far (sym (ap (λ v. v.items) w.numbers-is ∙ w.push.ensures.items ∙ ap (λ n. numbers ++ n ∷ []) c.number-number.ensures))
          (one_more places at i p numbers next c.loop-place.invariant.0 (known ∙ w.if-not-contains.true), omega (arith, length-append numbers (at p ∷ []), c.loop-place.invariant.1))
      | else-not-contains w ↦
          subst So_far (sym (ap (λ v. v.items) w.numbers-is))
          (known_already places at i p numbers next c.loop-place.invariant.0 (known ∙ w.if-not-contains.false), omega (arith, c.loop-place.invariant.1))
    ]

pub returns : goal.returns
returns c =
    let at : ℕ → RecordNumber = number_at (numbers_of c.args.records.now) in
    let numbers = c.loop-place.numbers.items in
    let all : take c.loop-place.place-index c.deref-place-items.result.now ≡ c.args.places.now.items = take_all c.loop-place.place-index c.deref-place-items.result.now (omega (arith, c.loop-place-test.false)) ∙ c.deref-place-items.ensures.0 in
    in_order (map at c.args.places.now.items) numbers c.sort_unstable.new.self (subst (λ ps. AreDistinctOf (map at ps) numbers) all c.loop-place.invariant.0)
    (subst (λ xs. IsPermutation xs c.sort_unstable.new.self) c.deref_mut.ensures.value c.sort_unstable.ensures.permutation)
    (c.sort_unstable.ensures.len ∙ ap length c.deref_mut.ensures.value) c.sort_unstable.ensures.sorted
