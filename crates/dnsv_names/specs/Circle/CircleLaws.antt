-- The laws of circles, for proofs, for any total order: `canonical_cmp_total` is that of names, and
-- `nat_list_cmp_total` of std that of octets.
use Rattle.std.proofs.Common.{◌≡◌, ◌≢◌, List, [], ◌∷◌, ◌⊎◌, refl, sym, ap, ◌∙◌, inl, inr, ⊎_elim}
use Rattle.std.proofs.lemmas.Cmp.{tied_itself, tied_back, alike_right, back_total}
use Rattle.std.specs.declared.cmp.Ordering.{Ordering}
use Rattle.std.specs.declared.cmp.Ordering.TheVariants.{Less, Equal, Greater}
use Rattle.std.specs.Ordering.{ordering_reverse, flip_args, is_lt, is_eq}
use Rattle.std.specs.Bool.{Decides}
use Rattle.std.proofs.lemmas.Bool.Decides.{Decides-and, Decides-or, Decides-not}
use Rattle.std.specs.Cmp.{IsTotalOrder}
use Rattle.dnsv_names.specs.Circle.{between, is_between, Gap, is_in_gap, has, IsMember, IsSuccessor}

is_lt_Decides : (o : Ordering) → Decides (is_lt o) (o ≡ Less)
is_lt_Decides Less = (λ yes. refl, λ less. refl)
is_lt_Decides Equal = (λ yes. cc, λ less. cc)
is_lt_Decides Greater = (λ yes. cc, λ less. cc)

is_eq_Decides : (o : Ordering) → Decides (is_eq o) (o ≡ Equal)
is_eq_Decides Less = (λ yes. cc, λ tied. cc)
is_eq_Decides Equal = (λ yes. refl, λ tied. refl)
is_eq_Decides Greater = (λ yes. cc, λ tied. cc)

-- whether the three comparisons put x into the gap
between_cases : (o p q : Ordering) → between o p q ⊎ ¬ between o p q
between_cases Less Less Less = inl (refl, refl)
between_cases Less Less Equal = inr (λ in_gap. cc)
between_cases Less Less Greater = inr (λ in_gap. cc)
between_cases Less Equal q = inr (λ in_gap. cc)
between_cases Less Greater q = inr (λ in_gap. cc)
between_cases Greater Less q = inl (inl refl)
between_cases Greater p Less = inl (inr refl)
between_cases Greater Equal Equal = inr (λ in_gap. ⊎_elim (λ (p : Equal ≡ Less). cc) (λ (q : Equal ≡ Less). cc) in_gap)
between_cases Greater Equal Greater =
    inr (λ in_gap. ⊎_elim (λ (p : Equal ≡ Less). cc) (λ (q : Greater ≡ Less). cc) in_gap)
between_cases Greater Greater Equal =
    inr (λ in_gap. ⊎_elim (λ (p : Greater ≡ Less). cc) (λ (q : Equal ≡ Less). cc) in_gap)
between_cases Greater Greater Greater =
    inr (λ in_gap. ⊎_elim (λ (p : Greater ≡ Less). cc) (λ (q : Greater ≡ Less). cc) in_gap)
between_cases Equal Equal q = inr (λ in_gap. in_gap refl)
between_cases Equal Less q = inl (λ same. cc)
between_cases Equal Greater q = inl (λ same. cc)

is_between_Decides : (o p q : Ordering) → Decides (is_between o p q) (between o p q)
is_between_Decides Less p q = Decides-and (is_lt p) (is_lt q) (is_lt_Decides p) (is_lt_Decides q)
is_between_Decides Greater p q = Decides-or (is_lt p) (is_lt q) (is_lt_Decides p) (is_lt_Decides q)
is_between_Decides Equal p q = Decides-not (is_eq p) (is_eq_Decides p)

-- the test of the gap
pub is_in_gap_Decides : {K : Type 0} (cmp : K → K → Ordering) (owner next x : K) → Decides (is_in_gap cmp owner next x) (Gap cmp owner next x)
is_in_gap_Decides cmp owner next x =
    let test = is_between_Decides (cmp owner next) (cmp owner x) (cmp x next) in
    (λ yes. record { lies = test.0 yes }, λ gap. test.1 gap.lies)

tied_or_not : (o : Ordering) → (o ≡ Equal) ⊎ (o ≢ Equal)
tied_or_not Less = inr (λ tied. cc)
tied_or_not Equal = inl refl
tied_or_not Greater = inr (λ tied. cc)

-- of three values none of which are equal, n is behind x in the circle from o on, or x behind n
other_way : (o_x o_n n_x : Ordering) → o_x ≢ Equal → n_x ≢ Equal → ¬ between o_x o_n n_x
    → between o_n o_x (ordering_reverse n_x)
other_way Equal o_n n_x p q outside = absurd (p refl)
other_way o_x o_n Equal p q outside = absurd (q refl)
other_way Less Equal Less p q outside = p
other_way Less Equal Greater p q outside = p
other_way Greater Equal Less p q outside = p
other_way Greater Equal Greater p q outside = p
other_way Less Less Less p q outside = absurd (outside (refl, refl))
other_way Less Less Greater p q outside = (refl, refl)
other_way Less Greater n_x p q outside = inl refl
other_way Greater Less n_x p q outside = absurd (outside (inl refl))
other_way Greater Greater Less p q outside = absurd (outside (inr refl))
other_way Greater Greater Greater p q outside = inr refl

-- of two values that aren't equal, seen from a third, one lies between the other and it
turns : (o_x p_x o_p : Ordering) → o_x ≢ Equal → p_x ≢ Equal → o_p ≢ Equal
    → between o_x o_p p_x ⊎ between p_x (ordering_reverse o_p) o_x
turns Equal p_x o_p a b c = absurd (a refl)
turns o_x Equal o_p a b c = absurd (b refl)
turns o_x p_x Equal a b c = absurd (c refl)
turns Less Less Less a b c = inl (refl, refl)
turns Less Less Greater a b c = inr (refl, refl)
turns Less Greater o_p a b c = inr (inr refl)
turns Greater Less o_p a b c = inl (inr refl)
turns Greater Greater Less a b c = inl (inl refl)
turns Greater Greater Greater a b c = inr (inl refl)

-- of two values that aren't equal, seen from a third that not both equal, one lies between the third and the other
before_other : (o_n o_m n_m : Ordering) → n_m ≢ Equal → (o_n ≡ Equal → o_m ≡ Equal → ⊥)
    → between o_m o_n n_m ⊎ between o_n o_m (ordering_reverse n_m)
before_other o_n o_m Equal differ apart = absurd (differ refl)
before_other Equal Equal n_m differ apart = absurd (apart refl refl)
before_other Equal Less n_m differ apart = inr (λ tied. cc)
before_other Equal Greater n_m differ apart = inr (λ tied. cc)
before_other Less Equal n_m differ apart = inl (λ tied. cc)
before_other Greater Equal n_m differ apart = inl (λ tied. cc)
before_other Less Less Less differ apart = inl (refl, refl)
before_other Less Less Greater differ apart = inr (refl, refl)
before_other Less Greater n_m differ apart = inl (inl refl)
before_other Greater Less n_m differ apart = inr (inl refl)
before_other Greater Greater Less differ apart = inl (inr refl)
before_other Greater Greater Greater differ apart = inr (inr refl)

module _ {K : Type 0} {cmp : K → K → Ordering} (total : IsTotalOrder cmp) where
  back : (x y : K) → cmp x y ≡ Greater → cmp y x ≡ Less
  back x y p = total.antisymm y x ∙ ap ordering_reverse p

  pub gap_cases : (owner next x : K) → Gap cmp owner next x ⊎ ¬ Gap cmp owner next x
  gap_cases owner next x =
      ⊎_elim (λ (inside : between (cmp owner next) (cmp owner x) (cmp x next)). inl (record { lies = inside }))
      (λ (outside : ¬ between (cmp owner next) (cmp owner x) (cmp x next)). inr (λ gap. outside gap.lies))
      (between_cases (cmp owner next) (cmp owner x) (cmp x next))

  -- equal values lie in the same gaps, and gaps with equal ends are the same
  pub gap_respects : {owner next x : K} (owner' next' x' : K) → cmp owner owner' ≡ Equal → cmp next next' ≡ Equal
      → cmp x x' ≡ Equal → Gap cmp owner next x → Gap cmp owner' next' x'
  gap_respects {owner} {next} {x} owner' next' x' o n e gap =
      let ends : cmp owner next ≡ cmp owner' next' = total.congr owner owner' next o ∙ alike_right total next next' owner' n in
      let behind : cmp owner x ≡ cmp owner' x' = total.congr owner owner' x o ∙ alike_right total x x' owner' e in
      let ahead : cmp x next ≡ cmp x' next' = total.congr x x' next e ∙ alike_right total next next' x' n in
      record { lies = rw (← ends, ← behind, ← ahead) gap.lies }

  outside_owner : (owner next : K) (ends : Ordering) → cmp owner next ≡ ends
      → between ends (cmp owner owner) (cmp owner next) → ⊥
  outside_owner owner next Less is p = let itself = tied_itself total owner in cc
  outside_owner owner next Equal is p = p (tied_itself total owner)
  outside_owner owner next Greater is p =
      let itself = tied_itself total owner in
      ⊎_elim (λ (a : cmp owner owner ≡ Less). cc) (λ (b : cmp owner next ≡ Less). cc) p

  -- the owner is not in its gap
  pub gap_without_owner : {owner next : K} → Gap cmp owner next owner → ⊥
  gap_without_owner {owner} {next} gap = outside_owner owner next (cmp owner next) refl gap.lies

  outside_next : (owner next : K) (ends : Ordering) → cmp owner next ≡ ends
      → between ends (cmp owner next) (cmp next next) → ⊥
  outside_next owner next Less is p = let itself = tied_itself total next in cc
  outside_next owner next Equal is p = p is
  outside_next owner next Greater is p =
      let itself = tied_itself total next in
      ⊎_elim (λ (a : cmp owner next ≡ Less). cc) (λ (b : cmp next next ≡ Less). cc) p

  -- nor is the next
  pub gap_without_next : {owner next : K} → Gap cmp owner next next → ⊥
  gap_without_next {owner} {next} gap = outside_next owner next (cmp owner next) refl gap.lies

  nested : (o n y m : K) (ends : Ordering) → cmp o n ≡ ends → (inner : Ordering) → cmp o y ≡ inner
      → between ends inner (cmp y n) → between inner (cmp o m) (cmp m y) → between ends (cmp o m) (cmp m n)
  nested o n y m Less is Less oy p q = (q.0, total.trans m y n q.1 p.1)
  nested o n y m Less is Equal oy p q = absurd (cc)
  nested o n y m Less is Greater oy p q = absurd (cc)
  nested o n y m Greater is Less oy p q = inl q.0
  nested o n y m Greater is Equal oy p q =
      absurd (⊎_elim (λ (a : Equal ≡ Less). cc) (λ (b : cmp y n ≡ Less). let alike = total.congr o y n oy in cc) p)
  nested o n y m Greater is Greater oy p q =
      ⊎_elim (λ (a : Greater ≡ Less). absurd (cc))
      (λ (b : cmp y n ≡ Less). ⊎_elim (λ (c : cmp o m ≡ Less). inl c) (λ (d : cmp m y ≡ Less). inr (total.trans m y n d b)) q) p
  nested o n y m Equal is Less oy p q = λ tied. cc
  nested o n y m Equal is Equal oy p q = absurd (p refl)
  nested o n y m Equal is Greater oy p q = λ tied.
      ⊎_elim (λ (c : cmp o m ≡ Less). cc)
      (λ (d : cmp m y ≡ Less). let less = total.trans m y o d (back o y oy) in let back_tied = tied_back total o m tied in cc) q

  -- a gap that ends inside of another with the same owner lies in it
  pub gap_nested : {owner next y x : K} → Gap cmp owner next y → Gap cmp owner y x → Gap cmp owner next x
  gap_nested {owner} {next} {y} {x} outer inner =
      record { lies = nested owner next y x (cmp owner next) refl (cmp owner y) refl outer.lies inner.lies }

  -- equal values are members of the same lists
  has_respects : (members : List K) (x y : K) → cmp x y ≡ Equal → has cmp members x → has cmp members y
  has_respects [] x y tied p = absurd p
  has_respects (member ∷ members) x y tied p =
      ⊎_elim (λ (here : cmp x member ≡ Equal). inl (sym (total.congr x y member tied) ∙ here)) (λ (there : has cmp members x). inr (has_respects members x y tied there)) p

  pub member_respects : {members : List K} {x : K} (y : K) → cmp x y ≡ Equal → IsMember cmp members x
      → IsMember cmp members y
  member_respects {members} {x} y tied p = record { there = has_respects members x y tied p.there }

  -- one member more
  pub member_first : (member : K) (members : List K) → IsMember cmp (member ∷ members) member
  member_first member members = record { there = inl (tied_itself total member) }

  pub member_more : (member : K) {members : List K} {x : K} → IsMember cmp members x → IsMember cmp (member ∷ members) x
  member_more member p = record { there = inr p.there }

  pub member_split : {member : K} {members : List K} {x : K} → IsMember cmp (member ∷ members) x
      → (cmp x member ≡ Equal) ⊎ IsMember cmp members x
  member_split {member} {members} {x} p =
      ⊎_elim (λ (here : cmp x member ≡ Equal). inl here) (λ (there : has cmp members x). inr (record { there = there })) p.there

  -- the successor, when a member is added
  nearer : (members : List K) (owner next member : K) → IsSuccessor cmp members owner next
      → Gap cmp owner next member → IsSuccessor cmp (member ∷ members) owner member
  nearer members owner next member old inside = record {
    member = member_first member members;
    none_between = λ x there gap.
        ⊎_elim (λ (here : cmp x member ≡ Equal). gap_without_next (gap_respects owner member member (tied_itself total owner) (tied_itself total member) here gap))
        (λ (later : IsMember cmp members x). old.none_between x later (gap_nested inside gap)) (member_split there);
  }

  farther : (members : List K) (owner next member : K) → IsSuccessor cmp members owner next
      → ¬ Gap cmp owner next member → IsSuccessor cmp (member ∷ members) owner next
  farther members owner next member old outside = record {
    member = member_more member old.member;
    none_between = λ x there gap.
        ⊎_elim (λ (here : cmp x member ≡ Equal). outside (gap_respects owner next member (tied_itself total owner) (tied_itself total next) here gap))
        (λ (later : IsMember cmp members x). old.none_between x later gap) (member_split there);
  }

  successor : (owner first : K) (rest : List K) → (next : K) × IsSuccessor cmp (first ∷ rest) owner next
  successor owner first [] = (
    first,
    record {
      member = member_first first [];
      none_between = λ x there gap.
          ⊎_elim (λ (here : cmp x first ≡ Equal). gap_without_next (gap_respects owner first first (tied_itself total owner) (tied_itself total first) here gap))
          (λ (later : IsMember cmp [] x). later.there) (member_split there);
    },
  )
  successor owner first (second ∷ rest) =
      let old = successor owner second rest in
      ⊎_elim (λ (inside : Gap cmp owner old.0 first). (first, nearer (second ∷ rest) owner old.0 first old.1 inside))
      (λ (outside : ¬ Gap cmp owner old.0 first). (old.0, farther (second ∷ rest) owner old.0 first old.1 outside))
      (gap_cases owner old.0 first)

  -- in a circle with a member each value has a successor
  pub successor_among : (members : List K) (some owner : K) → IsMember cmp members some
      → (next : K) × IsSuccessor cmp members owner next
  successor_among [] some owner member = absurd member.there
  successor_among (first ∷ rest) some owner member = successor owner first rest

  -- equal values have the same successors
  pub successor_respects : {members : List K} {owner next : K} (owner' : K) → cmp owner owner' ≡ Equal
      → IsSuccessor cmp members owner next → IsSuccessor cmp members owner' next
  successor_respects {members} {owner} {next} owner' tied old = record {
    member = old.member;
    none_between = λ x member gap. old.none_between x member
        (gap_respects owner next x (tied_back total owner owner' tied) (tied_itself total next) (tied_itself total x) gap);
  }

  apart : (o x n : K) → cmp o x ≢ Equal → cmp n x ≢ Equal → ¬ Gap cmp o x n → Gap cmp o n x
  apart o x n p q outside =
      record {
        lies =
            rw (total.antisymm x n) (other_way (cmp o x) (cmp o n) (cmp n x) p q (λ inside. outside (record { lies = inside })));
      }

  one_inside : (o p x : K) → cmp o x ≢ Equal → cmp p x ≢ Equal → cmp o p ≢ Equal → Gap cmp o x p ⊎ Gap cmp p x o
  one_inside o p x a b c =
      ⊎_elim (λ (inside : between (cmp o x) (cmp o p) (cmp p x)). inl (record { lies = inside }))
      (λ (inside : between (cmp p x) (ordering_reverse (cmp o p)) (cmp o x)). inr (record { lies = rw (total.antisymm p o) inside }))
      (turns (cmp o x) (cmp p x) (cmp o p) a b c)

  -- the gap, seen from its other end
  turned : (o n x : K) (ends : Ordering) → cmp o n ≡ ends → between ends (cmp o x) (cmp x n)
      → between ends (cmp x n) (cmp o x)
  turned o n x Less is p = (p.1, p.0)
  turned o n x Greater is p = ⊎_elim (λ (a : cmp o x ≡ Less). inr a) (λ (b : cmp x n ≡ Less). inl b) p
  turned o n x Equal is p = λ tied. p (total.congr o n x is ∙ tied_back total x n tied)

  turned_back : (o n x : K) (ends : Ordering) → cmp o n ≡ ends → between ends (cmp x n) (cmp o x)
      → between ends (cmp o x) (cmp x n)
  turned_back o n x Less is p = (p.1, p.0)
  turned_back o n x Greater is p = ⊎_elim (λ (a : cmp x n ≡ Less). inr a) (λ (b : cmp o x ≡ Less). inl b) p
  turned_back o n x Equal is p = λ tied. p (alike_right total n o x (tied_back total o n is) ∙ tied_back total o x tied)

module _ {K : Type 0} {cmp : K → K → Ordering} (total : IsTotalOrder cmp) where
  has_turned : (members : List K) (x : K) → has cmp members x → has (flip_args cmp) members x
  has_turned [] x p = absurd p
  has_turned (member ∷ members) x p =
      ⊎_elim (λ (here : cmp x member ≡ Equal). inl (tied_back total x member here)) (λ (there : has cmp members x). inr (has_turned members x there)) p

  has_turned_back : (members : List K) (x : K) → has (flip_args cmp) members x → has cmp members x
  has_turned_back [] x p = absurd p
  has_turned_back (member ∷ members) x p =
      ⊎_elim (λ (here : cmp member x ≡ Equal). inl (tied_back total member x here)) (λ (there : has (flip_args cmp) members x). inr (has_turned_back members x there)) p

  -- the member before a value: none lies between the two
  predecessor : (x first : K) (rest : List K)
      → (owner : K) × IsMember cmp (first ∷ rest) owner × ((y : K) → IsMember cmp (first ∷ rest) y → ¬ Gap cmp owner x y)
  predecessor x first rest =
      let found = successor (back_total total) x first rest in (
        found.0,
        record { there = has_turned_back (first ∷ rest) found.0 found.1.member.there },
        λ y member gap. found.1.none_between y (record { there = has_turned (first ∷ rest) y member.there })
            (record { lies = turned total found.0 x y (cmp found.0 x) refl gap.lies }),
      )

  lies_in_a_gap : (first : K) (rest : List K) (x : K) → ¬ IsMember cmp (first ∷ rest) x →
      (owner : K) × IsMember cmp (first ∷ rest) owner × ((next : K) → IsSuccessor cmp (first ∷ rest) owner next → Gap cmp owner next x)
  lies_in_a_gap first rest x absent =
      let found = predecessor x first rest in
      let other : (y : K) → IsMember cmp (first ∷ rest) y → cmp y x ≢ Equal = λ y member tied. absent (member_respects total x tied member) in (
        found.0,
        found.1,
        λ next successor. apart total found.0 x next (other found.0 found.1) (other next successor.member) (found.2 next successor.member),
      )

  -- What equals no member lies in the gap of one: some member's, whatever its successor.
  pub lies_in_a_gap_among : (members : List K) (some x : K) → IsMember cmp members some → ¬ IsMember cmp members x
      → (owner : K) × IsMember cmp members owner × ((next : K) → IsSuccessor cmp members owner next → Gap cmp owner next x)
  lies_in_a_gap_among [] some x member absent = absurd member.there
  lies_in_a_gap_among (first ∷ rest) some x member absent = lies_in_a_gap first rest x absent

  -- And in that of one member alone.
  pub one_gap : {members : List K} {x : K} (o n p m : K) → IsMember cmp members o → IsMember cmp members p
      → IsSuccessor cmp members o n → IsSuccessor cmp members p m → Gap cmp o n x → Gap cmp p m x
      → ¬ IsMember cmp members x → cmp o p ≡ Equal
  one_gap {members} {x} o n p m o_member p_member o_successor p_successor o_gap p_gap absent =
      ⊎_elim (λ (tied : cmp o p ≡ Equal). tied)
      (λ (differ : cmp o p ≢ Equal). absurd (⊎_elim
      (λ (inside : Gap cmp o x p). o_successor.none_between p p_member (gap_nested total o_gap inside))
      (λ (inside : Gap cmp p x o). p_successor.none_between o o_member (gap_nested total p_gap inside))
      (one_inside total o p x (λ tied. absent (member_respects total x tied o_member)) (λ tied. absent (member_respects total x tied p_member)) differ)))
      (tied_or_not (cmp o p))

  owner_side : (o n c x : K) (ends at_c : Ordering) → cmp o n ≡ ends → cmp o c ≡ at_c
      → ¬ between ends at_c (cmp c n) → between ends (cmp o x) (cmp x n) → cmp c x ≡ Less
      → (cmp o c ≡ Equal) ⊎ ((cmp c o ≡ Less) × (cmp o x ≡ Less))
  owner_side o n c x ends Equal is at outside inside first = inl at
  owner_side o n c x Less Greater is at outside inside first = inr (back total o c at, inside.0)
  owner_side o n c x Equal Greater is at outside inside first = absurd (outside (λ tied. cc))
  owner_side o n c x Greater Greater is at outside inside first =
      ⊎_elim (λ (behind : cmp o x ≡ Less). inr (back total o c at, behind))
      (λ (ahead : cmp x n ≡ Less). absurd (outside (inr (total.trans c x n first ahead)))) inside
  owner_side o n c x Less Less is at outside inside first = absurd (outside (refl, total.trans c x n first inside.1))
  owner_side o n c x Equal Less is at outside inside first = absurd (outside (λ tied. cc))
  owner_side o n c x Greater Less is at outside inside first = absurd (outside (inl refl))

  -- Where a value lies in a gap and one before it doesn't, the owner is that one or between the two.
  pub owner_between : (o n c x : K) → ¬ Gap cmp o n c → Gap cmp o n x → cmp c x ≡ Less
      → (cmp o c ≡ Equal) ⊎ ((cmp c o ≡ Less) × (cmp o x ≡ Less))
  owner_between o n c x outside inside first =
      owner_side o n c x (cmp o n) (cmp o c) refl refl (λ lies. outside (record { lies = lies })) inside.lies first

  next_side : (o n x y : K) (ends at_y : Ordering) → cmp o n ≡ ends → cmp y n ≡ at_y → ¬ between ends (cmp o y) at_y
      → between ends (cmp o x) (cmp x n) → cmp x y ≡ Less
      → (cmp n y ≡ Equal) ⊎ ((cmp x n ≡ Less) × (cmp n y ≡ Less))
  next_side o n x y ends Equal is at outside inside first = inl (tied_back total y n at)
  next_side o n x y Less Greater is at outside inside first = inr (inside.1, back total y n at)
  next_side o n x y Equal Greater is at outside inside first =
      absurd (outside (λ tied. let alike = total.congr o y n tied in cc))
  next_side o n x y Greater Greater is at outside inside first =
      ⊎_elim (λ (behind : cmp o x ≡ Less). absurd (outside (inl (total.trans o x y behind first))))
      (λ (ahead : cmp x n ≡ Less). inr (ahead, back total y n at)) inside
  next_side o n x y Less Less is at outside inside first = absurd (outside (total.trans o x y inside.0 first, refl))
  next_side o n x y Equal Less is at outside inside first =
      absurd (outside (λ tied. let alike = total.congr o y n tied in cc))
  next_side o n x y Greater Less is at outside inside first = absurd (outside (inr refl))

  -- Where a value lies in a gap and one behind it doesn't, the next is that one or between the two.
  pub next_between : (o n x y : K) → ¬ Gap cmp o n y → Gap cmp o n x → cmp x y ≡ Less
      → (cmp n y ≡ Equal) ⊎ ((cmp x n ≡ Less) × (cmp n y ≡ Less))
  next_between o n x y outside inside first =
      next_side o n x y (cmp o n) (cmp y n) refl refl (λ lies. outside (record { lies = lies })) inside.lies first

  -- So where a member comes behind a value of a gap, the next comes behind the value too, and not behind the member.
  pub next_is_behind : {members : List K} {o n x m : K} → IsSuccessor cmp members o n → IsMember cmp members m
      → Gap cmp o n x → cmp x m ≡ Less → (cmp x n ≡ Less) × ¬ (cmp m n ≡ Less)
  next_is_behind {members} {o} {n} {x} {m} successor member gap first =
      ⊎_elim
      (λ (tied : cmp n m ≡ Equal). (alike_right total n m x tied ∙ first, λ less. let other = tied_back total n m tied in cc))
      (λ (inside : (cmp x n ≡ Less) × (cmp n m ≡ Less)). (inside.0, λ less. let other = total.trans n m n inside.1 less in let itself = tied_itself total n in cc))
      (next_between o n x m (successor.none_between m member) gap first)

  -- A value has one successor.
  pub one_successor : {members : List K} {o : K} (n m : K) → IsSuccessor cmp members o n
      → IsSuccessor cmp members o m → cmp n m ≡ Equal
  one_successor {members} {o} n m first second =
      ⊎_elim (λ (tied : cmp n m ≡ Equal). tied)
      (λ (differ : cmp n m ≢ Equal). absurd (⊎_elim
      (λ (inside : between (cmp o m) (cmp o n) (cmp n m)). second.none_between n first.member (record { lies = inside }))
      (λ (inside : between (cmp o n) (cmp o m) (ordering_reverse (cmp n m))). first.none_between m second.member (record { lies = rw (total.antisymm m n) inside }))
      (before_other (cmp o n) (cmp o m) (cmp n m) differ (λ o_n o_m. differ (sym (total.congr o n m o_n) ∙ o_m)))))
      (tied_or_not (cmp n m))
