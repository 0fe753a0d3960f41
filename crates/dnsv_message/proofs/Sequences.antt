-- Things one after another, and the first of them that doesn't stand at its place.
use Rattle.std.proofs.Common.{◌≡◌, ◌⊎◌, ◌≤◌, ℕ, zero, suc, ◌+◌, ◌-◌, ◌<◌, List, [], ◌∷◌, ◌++◌, length, refl, sym, ap, subst, ◌∙◌, inl, inr, ⊎_elim, arith, append_assoc, length-append}
use Rattle.std.proofs.lemmas.List.{append-nil}
use Rattle.dnsv_message.specs.Grammar.{InOrder, FirstFault}

-- some of `count` things are read, and the rest of them stand from the place on
pub record Reading {X E : Type 0} (At : ℕ → X → ℕ → Type 0) (Faulty : ℕ → ℕ → E → Type 0) (count first start : ℕ) (read : List X) (place done : ℕ) : Type 0 where
  pub size : length read ≡ done
  pub order : (rest : List X) (end : ℕ) → InOrder At place rest end → InOrder At start (read ++ rest) end
  pub fault : (error : E) → FirstFault At Faulty (count - done) (first + done) place error → FirstFault At Faulty count first start error

module _ {X E : Type 0} {At : ℕ → X → ℕ → Type 0} {Faulty : ℕ → ℕ → E → Type 0} {count first start : ℕ} where
  pub Reading-start : Reading At Faulty count first start [] start 0
  Reading-start = record {
    size = refl;
    order = λ rest end order. order;
    fault = λ error fault.
        let all : count - 0 ≡ count = omega arith in
        let from : first + 0 ≡ first = omega arith in
        subst (λ n. FirstFault At Faulty count n start error) from (subst (λ n. FirstFault At Faulty n (first + 0) start error) all fault);
  }

  module _ {read : List X} {place done : ℕ} (reading : Reading At Faulty count first start read place done) where
    pub Reading-next : (x : X) (next : ℕ) → done < count → At place x next → Reading At Faulty count first start (read ++ x ∷ []) next (done + 1)
    Reading-next x next more at = record {
      size = omega (arith, reading.size, length-append read (x ∷ []));
      order = λ rest end order. subst (λ xs. InOrder At start xs end) (sym (append_assoc read (x ∷ []) rest)) (reading.order (x ∷ rest) end (next, at, order));
      fault = λ error fault.
          let left : count - done ≡ suc (count - (done + 1)) = omega arith in
          let numbered : first + (done + 1) ≡ suc (first + done) = omega arith in
          reading.fault error (subst (λ n. FirstFault At Faulty n (first + done) place error) (sym left)
          (inr (x, next, at, subst (λ n. FirstFault At Faulty (count - (done + 1)) n next error) numbered fault)));
    }

    -- the thing at the place is faulty, so it is the first that is
    pub Reading-fault : (error : E) → done < count → Faulty (first + done) place error → FirstFault At Faulty count first start error
    Reading-fault error more faulty =
        let left : count - done ≡ suc (count - (done + 1)) = omega arith in
        reading.fault error (subst (λ n. FirstFault At Faulty n (first + done) place error) (sym left) (inl faulty))

    pub Reading-order : InOrder At start read place
    Reading-order = subst (λ xs. InOrder At start xs place) (append-nil read) (reading.order [] place refl)

pub InOrder-append : {X : Type 0} (At : ℕ → X → ℕ → Type 0) (xs ys : List X) (start middle end : ℕ) → InOrder At start xs middle → InOrder At middle ys end → InOrder At start (xs ++ ys) end
InOrder-append At [] ys start middle end front behind = subst (λ n. InOrder At n ys end) front behind
InOrder-append At (x ∷ xs) ys start middle end front behind =
    (front.0, front.1, InOrder-append At xs ys front.0 middle end front.2 behind)

module _ {X E : Type 0} (At : ℕ → X → ℕ → Type 0) (Faulty : ℕ → ℕ → E → Type 0) where
  -- a fault among the first things is the fault of all
  pub FirstFault-front : (count more first start : ℕ) (error : E) → FirstFault At Faulty count first start error → FirstFault At Faulty (count + more) first start error
  FirstFault-front zero more first start error fault = absurd fault
  FirstFault-front (suc count) more first start error fault =
      let size : suc count + more ≡ suc (count + more) = omega arith in
      rw size (⊎_elim (λ (here : Faulty first start error). inl here)
      (λ (later : (x : X) × (next : ℕ) × At start x next × FirstFault At Faulty count (suc first) next error).
      inr (later.0, later.1, later.2, FirstFault-front count more (suc first) later.1 error later.3)) fault)

  -- and so is a fault behind things that all stand
  pub FirstFault-behind : (xs : List X) (count more first start middle : ℕ) (error : E) → InOrder At start xs middle → length xs ≡ count → FirstFault At Faulty more (first + count) middle error → FirstFault At Faulty (count + more) first start error
  FirstFault-behind [] count more first start middle error front size fault =
      let none : count + more ≡ more = omega (arith, size) in
      let same : first + count ≡ first = omega (arith, size) in
      rw none (subst (λ n. FirstFault At Faulty more first n error) front (subst (λ n. FirstFault At Faulty more n middle error) same fault))
  FirstFault-behind (x ∷ xs) count more first start middle error front size fault =
      let left : count + more ≡ suc (length xs + more) = omega (arith, size) in
      let number : first + count ≡ suc first + length xs = omega (arith, size) in
      rw left (inr (
        x,
        front.0,
        front.1,
        FirstFault-behind xs (length xs) more (suc first) front.0 middle error front.2 refl
            (subst (λ n. FirstFault At Faulty more n middle error) number fault),
      ))

-- Where a place has at most one thing, things one after another are the same; where it never has a thing
-- and a fault, neither do they; and where a place has one fault, so do they.
module _ {X E : Type 0} (At : ℕ → X → ℕ → Type 0) (Faulty : ℕ → ℕ → E → Type 0)
    (same : (place : ℕ) (x y : X) (end other : ℕ) → At place x end → At place y other → (x ≡ y) × (end ≡ other))
    (sound : (number place : ℕ) (x : X) (end : ℕ) (error : E) → At place x end → Faulty number place error → ⊥)
    (one : (number place : ℕ) (error other : E) → Faulty number place error → Faulty number place other → error ≡ other) where
  pub InOrder-same : (xs ys : List X) (place end other : ℕ) → length xs ≡ length ys → InOrder At place xs end → InOrder At place ys other → (xs ≡ ys) × (end ≡ other)
  InOrder-same [] [] place end other size order also = (refl, order ∙ sym also)
  InOrder-same [] (y ∷ ys) place end other size order also = absurd (omega (arith, size))
  InOrder-same (x ∷ xs) [] place end other size order also = absurd (omega (arith, size))
  InOrder-same (x ∷ xs) (y ∷ ys) place end other size order also =
      let heads = same place x y order.0 also.0 order.1 also.1 in
      let tails = InOrder-same xs ys order.0 end other (omega (arith, size)) order.2 (subst (λ n. InOrder At n ys other) (sym heads.1) also.2) in
      (ap (λ z. z ∷ xs) heads.0 ∙ ap (λ zs. y ∷ zs) tails.0, tails.1)

  pub InOrder-sound : (xs : List X) (count number place end : ℕ) (error : E) → length xs ≡ count → InOrder At place xs end → FirstFault At Faulty count number place error → ⊥
  InOrder-sound [] count number place end error size order fault =
      let none : count ≡ 0 = omega (arith, size) in
      subst (λ n. FirstFault At Faulty n number place error) none fault
  InOrder-sound (x ∷ xs) count number place end error size order fault =
      let some : count ≡ suc (length xs) = omega (arith, size) in
      ⊎_elim (λ (here : Faulty number place error). sound number place x order.0 error order.1 here)
      (λ (later : (y : X) × (next : ℕ) × At place y next × FirstFault At Faulty (length xs) (suc number) next error).
      let heads = same place x later.0 order.0 later.1 order.1 later.2 in
      InOrder-sound xs (length xs) (suc number) order.0 end error refl order.2
      (subst (λ n. FirstFault At Faulty (length xs) (suc number) n error) (sym heads.1) later.3))
      (subst (λ n. FirstFault At Faulty n number place error) some fault)

  pub FirstFault-same : (count number place : ℕ) (error other : E) → FirstFault At Faulty count number place error → FirstFault At Faulty count number place other → error ≡ other
  FirstFault-same zero number place error other fault also = absurd fault
  FirstFault-same (suc count) number place error other fault also = ⊎_elim
      (λ (here : Faulty number place error). ⊎_elim
      (λ (here' : Faulty number place other). one number place error other here here')
      (λ (later' : (y : X) × (next : ℕ) × At place y next × FirstFault At Faulty count (suc number) next other).
      absurd (sound number place later'.0 later'.1 error later'.2 here))
      also)
      (λ (later : (x : X) × (next : ℕ) × At place x next × FirstFault At Faulty count (suc number) next error). ⊎_elim
      (λ (here' : Faulty number place other). absurd (sound number place later.0 later.1 other later.2 here'))
      (λ (later' : (y : X) × (next : ℕ) × At place y next × FirstFault At Faulty count (suc number) next other).
      let heads = same place later.0 later'.0 later.1 later'.1 later.2 later'.2 in
      FirstFault-same count (suc number) later.1 error other later.3
      (subst (λ n. FirstFault At Faulty count (suc number) n other) (sym heads.1) later'.3))
      also)
      fault

-- Where each place has a thing or a fault, so many things stand one after another, or there is a first fault.
pub InOrder-or_fault : {X E : Type 0} (At : ℕ → X → ℕ → Type 0) (Faulty : ℕ → ℕ → E → Type 0)
    → ((number place : ℕ) → ((x : X) × (end : ℕ) × At place x end) ⊎ ((error : E) × Faulty number place error))
    → (count number place : ℕ)
    → ((xs : List X) × (end : ℕ) × InOrder At place xs end × (length xs ≡ count)) ⊎ ((error : E) × FirstFault At Faulty count number place error)
InOrder-or_fault At Faulty each zero number place = inl ([], place, refl, refl)
InOrder-or_fault {X} {E} At Faulty each (suc count) number place = ⊎_elim
    (λ (here : (x : X) × (end : ℕ) × At place x end). ⊎_elim
    (λ (rest : (xs : List X) × (end : ℕ) × InOrder At here.1 xs end × (length xs ≡ count)).
    inl (here.0 ∷ rest.0, rest.1, (here.1, here.2, rest.2), ap suc rest.3))
    (λ (later : (error : E) × FirstFault At Faulty count (suc number) here.1 error). inr (later.0, inr (here.0, here.1, here.2, later.1)))
    (InOrder-or_fault At Faulty each count (suc number) here.1))
    (λ (wrong : (error : E) × Faulty number place error). inr (wrong.0, inl wrong.1))
    (each number place)

-- things that end within a limit end there together
pub InOrder-within : {X : Type 0} (At : ℕ → X → ℕ → Type 0) (limit : ℕ) → ((place : ℕ) (x : X) (end : ℕ) → At place x end → end ≤ limit) → (xs : List X) (place end : ℕ) → place ≤ limit → InOrder At place xs end → end ≤ limit
InOrder-within At limit within [] place end here order = omega (arith, order)
InOrder-within At limit within (x ∷ xs) place end here order =
    InOrder-within At limit within xs order.0 end (within place x order.0 order.1) order.2

-- the first so many of them, and the others
pub InOrder-split : {X : Type 0} (At : ℕ → X → ℕ → Type 0) (a b : ℕ) (xs : List X) (place end : ℕ) → length xs ≡ a + b → InOrder At place xs end
    → (ys zs : List X) × (middle : ℕ) × (length ys ≡ a) × (length zs ≡ b) × InOrder At place ys middle × InOrder At middle zs end
InOrder-split At zero b xs place end size order = ([], xs, place, refl, omega (arith, size), refl, order)
InOrder-split At (suc a) b [] place end size order = absurd (omega (arith, size))
InOrder-split At (suc a) b (x ∷ xs) place end size order =
    let rest = InOrder-split At a b xs order.0 end (omega (arith, size)) order.2 in
    (x ∷ rest.0, rest.1, rest.2, ap suc rest.3, rest.4, (order.0, order.1, rest.5), rest.6)
