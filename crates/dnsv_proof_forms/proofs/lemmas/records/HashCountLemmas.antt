-- How many hashes are made: a sum over parameters, each once, whatever their order.
use Rattle.std.proofs.Common.{◌≡◌, ◌↔◌, ◌⊎◌, ℕ, ◌+◌, ◌*◌, ◌≤◌, List, [], ◌∷◌, ◌++◌, length, map, refl, sym, ap, ◌∙◌, subst, inl, inr, ⊎_elim, arith}
use Rattle.std.proofs.lemmas.Cmp.{tied_itself}
use Rattle.std.proofs.lemmas.List.{map-append}
use Rattle.std.proofs.lemmas.List.Sums.{sum_by-append, sum_by-cons}
use Rattle.std.specs.List.{AllByRecursion, sum_by}
use Rattle.std.specs.List.Sorted.{IsStrictlySortedBy}
use Rattle.std.specs.Prelude.{Contains, min}
use Rattle.std.specs.declared.cmp.Ordering.TheVariants.{Less}
use Rattle.dnsv_names.specs.Count.{count_limit, counted}
use Rattle.dnsv_names.specs.Name.{Labels}
use Rattle.dnsv_records.specs.declared.nsec3.Nsec3Parameters.{Nsec3Parameters}
use Rattle.dnsv_zones.specs.chains.HashedNames.{hashes_for}
use Rattle.dnsv_zones.specs.chains.Nsec3Chain.{Parameters}
use Rattle.dnsv_zones.specs.chains.Rdata.{parameters_of}
use Rattle.dnsv_canonical.proofs.CanonicalLemmas.{IsMember, IsMember-from_contains, Contains-from_member}
use Rattle.dnsv_canonical.specs.Evidence.{AreParameters, IsDistinct}
use Rattle.dnsv_proof_forms.specs.records.ParametersOrder.{parameters_cmp}
use Rattle.dnsv_proof_forms.specs.declared.records.name_hashes.NameHashes.{NameHashes}
use Rattle.dnsv_proof_forms.proofs.lemmas.records.ParametersLemmas.{parameters_total}

-- ---- one after another

counted_twice : (limit before a b : ℕ) → min (min (before + a) limit + b) limit ≡ min (before + (a + b)) limit
counted_twice limit before a b = omega arith

still : (limit before : ℕ) → before ≤ limit → before ≡ min (before + 0) limit
still limit before few = omega arith

nothing_before : (n : ℕ) → 0 + n ≡ n
nothing_before n = omega arith

pub none_counted : (name : Labels) (before : ℕ) → before ≤ count_limit → before ≡ counted before (hashes_for name [])
none_counted name before few = still count_limit before few

pub one_counted : (name : Labels) (sets : List NameHashes) (set : NameHashes) (before so_far after : ℕ)
    → so_far ≡ counted before (hashes_for name (map (λ each. each.parameters.now) sets))
    → after ≡ counted so_far ((2 * length name + 1) * (set.parameters.now.iterations.0 + 1))
    → after ≡ counted before (hashes_for name (map (λ each. each.parameters.now) (sets ++ set ∷ [])))
one_counted name sets set before so_far after is next =
    let f : Nsec3Parameters → ℕ = λ each. (2 * length name + 1) * (each.iterations.0 + 1) in
    let its : List Nsec3Parameters = map (λ (each : NameHashes). each.parameters.now) sets in
    let last : sum_by f (set.parameters.now ∷ []) ≡ f set.parameters.now = nothing_before (f set.parameters.now) in
    let whole : sum_by f (map (λ (each : NameHashes). each.parameters.now) (sets ++ set ∷ [])) ≡ sum_by f its + f set.parameters.now =
    ap (sum_by f) (map-append (λ (each : NameHashes). each.parameters.now) sets (set ∷ [])) ∙ sum_by-append f its (set.parameters.now ∷ []) ∙ ap (λ n. sum_by f its + n) last in
    next ∙ ap (λ n. counted n (f set.parameters.now)) is ∙ counted_twice count_limit before (sum_by f its) (f set.parameters.now) ∙ ap (counted before) (sym whole)

-- ---- whatever the order

-- the list without one that it has
record Without {X : Type 0} (f : X → ℕ) (x : X) (ys : List X) : Type 0 where
  pub rest : List X
  pub less : sum_by f ys ≡ f x + sum_by f rest
  pub others : (z : X) → IsMember z ys → (z ≡ x) ⊎ IsMember z rest

without : {X : Type 0} (f : X → ℕ) (x : X) (ys : List X) → IsMember x ys → Without f x ys
without f x [] member = absurd member
without f x (y ∷ ys) (inl same) = record {
  rest = ys;
  less = sum_by-cons f y ys ∙ ap (λ z. f z + sum_by f ys) (sym same);
  others = λ z member. ⊎_elim (λ is. inl (is ∙ sym same)) (λ later. inr later) member;
}
without f x (y ∷ ys) (inr later) =
    let less = without f x ys later in
    record {
      rest = y ∷ less.rest;
      less = let a = sum_by-cons f y ys in let b = less.less in let c = sum_by-cons f y less.rest in omega (arith, a, b, c);
      others = λ z member. ⊎_elim (λ is. inr (inl is)) (λ other. ⊎_elim (λ same. inl same) (λ left. inr (inr left)) (less.others z other)) member;
    }

-- a list without repeats comes to no more than a list that has all of its elements
no_more : {X : Type 0} (f : X → ℕ) (xs ys : List X) → IsDistinct xs → ((x : X) → IsMember x xs → IsMember x ys) → sum_by f xs ≤ sum_by f ys
no_more f [] ys distinct all = omega arith
no_more f (x ∷ xs) ys distinct all =
    let less = without f x ys (all x (inl refl)) in
    let rest : sum_by f xs ≤ sum_by f less.rest =
    no_more f xs less.rest distinct.1 (λ z member.
    ⊎_elim (λ same. absurd (distinct.0 (Contains-from_member xs x (subst (λ w. IsMember w xs) same member)))) (λ left. left) (less.others z (all z (inr member)))) in
    omega (arith, less.less, rest, sum_by-cons f x xs)

-- lists of the same elements without repeats come to the same
same_sum : {X : Type 0} (f : X → ℕ) (xs ys : List X) → IsDistinct xs → IsDistinct ys → ((x : X) → Contains xs x ↔ Contains ys x) → sum_by f xs ≡ sum_by f ys
same_sum f xs ys once_x once_y members =
    let one : sum_by f xs ≤ sum_by f ys = no_more f xs ys once_x (λ x there. IsMember-from_contains ys x ((members x).0 (Contains-from_member xs x there))) in
    let other : sum_by f ys ≤ sum_by f xs = no_more f ys xs once_y (λ x there. IsMember-from_contains xs x ((members x).1 (Contains-from_member ys x there))) in
    omega (arith, one, other)

member_after : (P : Parameters → Type 0) (xs : List Nsec3Parameters) (x : Nsec3Parameters) → AllByRecursion P (map parameters_of xs) → IsMember x xs → P (parameters_of x)
member_after P [] x all there = absurd there
member_after P (y ∷ ys) x all there =
    ⊎_elim (λ (same : x ≡ y). subst (λ z. P (parameters_of z)) (sym same) all.0) (λ (later : IsMember x ys). member_after P ys x all.1 later) there

rising_once : (xs : List Nsec3Parameters) → IsStrictlySortedBy parameters_cmp (map parameters_of xs) → IsDistinct xs
unfolding IsStrictlySortedBy
rising_once [] rises = tt
rising_once (x ∷ xs) rises = (
  λ again. let less : parameters_cmp (parameters_of x) (parameters_of x) ≡ Less = member_after (λ y. parameters_cmp (parameters_of x) y ≡ Less) xs x rises.0 (IsMember-from_contains xs x again) in
      let tied = tied_itself parameters_total (parameters_of x) in cc,
  rising_once xs rises.1,
)

-- the hashes of the parameters in their order are those of the parameters in any
pub hashes_in_any_order : (name : Labels) (received : List (List ℕ)) (kept sets all : List Nsec3Parameters) → AreParameters received kept
    → IsStrictlySortedBy parameters_cmp (map parameters_of sets) → ((each : Nsec3Parameters) → Contains kept each ↔ Contains sets each)
    → AreParameters received all → hashes_for name sets ≡ hashes_for name all
hashes_in_any_order name received kept sets all are rises members others =
    same_sum (λ each. (2 * length name + 1) * (each.iterations.0 + 1)) sets all (rising_once sets rises) others.distinct (λ x. (
      λ there. (others.members x).1 ((are.members x).0 ((members x).1 there)),
      λ there. (members x).0 ((are.members x).1 ((others.members x).0 there)),
    ))
