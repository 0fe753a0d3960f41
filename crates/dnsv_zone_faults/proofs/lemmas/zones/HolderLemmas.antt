-- Which DNSKEY RRsets hold which keys.
use Rattle.std.proofs.Common.{◌≡◌, ◌↔◌, ◌⊎◌, ℕ, ◌+◌, ◌<◌, ◌≤◌, inl, inr, ⊎_elim, List, [], ◌∷◌, ◌++◌, Some, length, map, get_or, refl, sym, ap, ◌∙◌, subst, arith, IsTrue, length-append}
use Rattle.std.proofs.Math.Seq.{get_or-append_seam}
use Rattle.std.proofs.lemmas.Bool.{cases_lt}
use Rattle.std.proofs.lemmas.List.{get_or_append_left}
use Rattle.std.proofs.lemmas.List.Kept.{Contains-dedup_nat, Contains-from_dedup}
use Rattle.std.proofs.lemmas.List.Sorted.{Contains-permutation, IsPermutation-sym}
use Rattle.std.proofs.lemmas.Map.Keys.{IsStrictlyIncreasing-dedup}
use Rattle.std.proofs.lemmas.Option.{get_or_from_slice_get, slice_get-get_or, slice_get_within}
use Rattle.std.specs.List.{dedup}
use Rattle.std.specs.List.Sorted.{IsStrictlyIncreasing}
use Rattle.std.specs.Ordering.{nat_cmp}
use Rattle.std.specs.Prelude.{Contains, IsPermutation, IsSorted, IsSortedByKey, slice_get}
use lib.Dec.{eqb}
use Rattle.dnsv_verifier.proofs.AskLemmas.{adds_more, adds_nothing}
use Rattle.dnsv_verifier.proofs.NumberLemmas.{contains_from_map, contains_map}
use Rattle.dnsv_verifier.specs.Asking.{AddsJust}
use Rattle.dnsv_mending.specs.declared.facts.keys.DnskeyFacts.{DnskeyFacts}
use Rattle.dnsv_mending.specs.declared.facts.zone.ZoneKey.{ZoneKey}
use Rattle.dnsv_zone_faults.specs.Zones.HolderSearch.{AreHolders, AreHoldersOf, AreHoldersOfEach, AreHoldings, AreOfKey, HasTrusted, Holds, IsHoldingIn, IsHoldingOf, holding_of, key_of}
use Rattle.dnsv_zone_faults.specs.declared.zone.holders.Holding.{Holding}

-- ---- one RRset after another

-- in one of the first of them
pub record IsHoldingTo (dnskeys : List DnskeyFacts) (n : ℕ) (holding : Holding) : Type 0 where
  pub is : IsHoldingIn dnskeys holding
  pub before : is.h < n

pub none_held : (dnskeys : List DnskeyFacts) (old : List Holding) → AddsJust (IsHoldingTo dnskeys 0) old old
none_held dnskeys old = adds_nothing (IsHoldingTo dnskeys 0) old (λ holding to. let before = to.before in omega (arith, before))

pub more_held : (dnskeys : List DnskeyFacts) (i : ℕ) (dnskey : DnskeyFacts) (a b c : List Holding) → i < length dnskeys → dnskey ≡ get_or dnskeys i dnskey
    → AddsJust (IsHoldingTo dnskeys i) a b → AddsJust (IsHoldingOf i dnskey) b c → AddsJust (IsHoldingTo dnskeys (i + 1)) a c
more_held dnskeys i dnskey a b c within at so_far adds =
    let there : slice_get dnskeys i ≡ Some dnskey = slice_get-get_or dnskeys i dnskey within ∙ ap (λ x. Some x) (sym at) in
    adds_more (IsHoldingTo dnskeys i) (IsHoldingOf i dnskey) (IsHoldingTo dnskeys (i + 1)) a b c so_far adds
    (λ holding to. let before = to.before in record { is = to.is; before = omega (arith, before) })
    (λ holding of. record { is = record { h = i; dnskey = dnskey; at = there; of = of }; before = omega arith })
    (λ holding to.
    let its = to.is in
    let before = to.before in
    ⊎_elim
    (λ (earlier : its.h < i). inl (record { is = its; before = earlier }))
    (λ (later : i ≤ its.h).
    let place : its.h ≡ i = omega (arith, later, before) in
    let same : its.dnskey ≡ dnskey =
    let both : Some its.dnskey ≡ Some dnskey = sym its.at ∙ ap (λ (n : ℕ). slice_get dnskeys n) place ∙ there in cc both in
    inr (subst (λ (d : DnskeyFacts). IsHoldingOf i d holding) same (subst (λ (n : ℕ). IsHoldingOf n its.dnskey holding) place its.of)))
    (cases_lt its.h i))

pub holdings_are : (dnskeys : List DnskeyFacts) (n : ℕ) (found sorted : List Holding) → length dnskeys ≤ n → AddsJust (IsHoldingTo dnskeys n) [] found
    → IsPermutation found sorted → IsSortedByKey key_of nat_cmp sorted → AreHoldings dnskeys sorted
holdings_are dnskeys n found sorted past adds moved ordered = record {
  sorted = ordered;
  only = λ holding there.
      let back = Contains-permutation sorted found holding (IsPermutation-sym found sorted moved) there in
      ⊎_elim (λ (none : Contains [] holding). absurd (let within = none.1 in omega (arith, within)))
      (λ (to : IsHoldingTo dnskeys n holding). to.is) (adds.only holding back);
  all = λ holding is.
      let inside = slice_get_within dnskeys is.h is.dnskey is.at in
      Contains-permutation found sorted holding moved (adds.added holding (record { is = is; before = omega (arith, inside, past) }));
}

-- ---- of a key

pub holders_are : (own : List Holding) (found sorted holders : List ℕ) → found ≡ map (λ (each : Holding). each.holder) own → IsPermutation found sorted
    → IsSorted nat_cmp sorted → holders ≡ dedup eqb sorted → AreHoldersOf own holders
holders_are own found sorted holders are moved ordered is =
    let holder_of : Holding → ℕ = λ each. each.holder in record {
      rising = subst IsStrictlyIncreasing (sym is) (IsStrictlyIncreasing-dedup sorted ordered);
      only = λ h there.
          let among = Contains-from_dedup eqb sorted h (subst (λ (ns : List ℕ). Contains ns h) is there) in
          let back = subst (λ (ns : List ℕ). Contains ns h) are (Contains-permutation sorted found h (IsPermutation-sym found sorted moved) among) in
          contains_from_map holder_of own h back;
      all = λ holding there.
          let here = subst (λ (ns : List ℕ). Contains ns holding.holder) (sym are) (contains_map holder_of own holding there) in
          subst (λ (ns : List ℕ). Contains ns holding.holder) (sym is) (Contains-dedup_nat sorted holding.holder (Contains-permutation found sorted holding.holder moved here));
    }

module _ (dnskeys : List DnskeyFacts) (holdings own : List Holding) (place : ℕ) (are : AreHoldings dnskeys holdings) (of : AreOfKey holdings place own) where
  -- what an RRset holds is there
  holding_there : (h : ℕ) (dnskey : DnskeyFacts) (holds : Holds dnskeys place h dnskey) → Contains own (holding_of h dnskey.is_trusted holds.held)
  holding_there h dnskey holds =
      let holding = holding_of h dnskey.is_trusted holds.held in
      of.all holding (are.all holding (record { h = h; dnskey = dnskey; at = holds.at; of = record { source = holds.held; among = holds.among; is = refl } })) holds.key

  -- and what is there an RRset holds
  pub record IsHeldAs (holding : Holding) : Type 0 where
    pub dnskey : DnskeyFacts
    pub holds : Holds dnskeys place holding.holder dnskey
    pub trusted : holding.is_trusted ≡ dnskey.is_trusted

  held_as : (holding : Holding) → Contains own holding → IsHeldAs holding
  held_as holding there =
      let in_one = are.only holding (of.among holding there) in
      let is = in_one.of.is in
      let place_is : holding.holder ≡ in_one.h = ap (λ (x : Holding). x.holder) is in
      record {
        dnskey = in_one.dnskey;
        holds = record {
          at = ap (λ (n : ℕ). slice_get dnskeys n) place_is ∙ in_one.at;
          held = in_one.of.source;
          among = in_one.of.among;
          key = sym (ap (λ (x : Holding). x.key) is) ∙ of.its holding there;
        };
        trusted = ap (λ (x : Holding). x.is_trusted) is;
      }

  pub key_is : (facts : ZoneKey) → (IsTrue facts.is_trusted ↔ HasTrusted own) → AreHoldersOf own facts.holders.items → AreHolders dnskeys place facts
  key_is facts test holders = record {
    trusted = (
      λ yes.
          let has = test.0 yes in
          let found = held_as has.holding has.among in
          record { h = has.holding.holder; dnskey = found.dnskey; holds = found.holds; trusted = subst IsTrue found.trusted has.trusted },
      λ by. test.1 (record { holding = holding_of by.h by.dnskey.is_trusted by.holds.held; among = holding_there by.h by.dnskey by.holds; trusted = by.trusted }),
    );
    rising = holders.rising;
    holders = λ h. (
      λ there.
          let from = holders.only h there in
          let found = held_as from.0 from.1 in
          (found.dnskey, subst (λ (n : ℕ). Holds dnskeys place n found.dnskey) from.2 found.holds),
      λ by. holders.all (holding_of h by.0.is_trusted by.1.held) (holding_there h by.0 by.1),
    );
  }

-- ---- of each key

pub none_of_each : (dnskeys : List DnskeyFacts) (keys : List ZoneKey) → keys ≡ [] → AreHoldersOfEach dnskeys 0 keys
none_of_each dnskeys keys none = record {
  length_is = ap length none;
  each = λ place facts at. absurd (let never : slice_get {X = ZoneKey} [] place ≡ Some facts = subst (λ (each : List ZoneKey). slice_get each place ≡ Some facts) none at in cc never);
}

-- one at the end of a list
pub at_end : {X : Type 0} (xs : List X) (x : X) (place : ℕ) (y : X) → slice_get (xs ++ x ∷ []) place ≡ Some y
    → (slice_get xs place ≡ Some y) ⊎ ((place ≡ length xs) × (x ≡ y))
at_end {X} xs x place y at = ⊎_elim
    (λ (earlier : place < length xs).
    let same : get_or (xs ++ x ∷ []) place y ≡ get_or xs place y = get_or_append_left xs (x ∷ []) y place earlier in
    inl (slice_get-get_or xs place y earlier ∙ ap (λ (z : X). Some z) (sym same ∙ get_or_from_slice_get (xs ++ x ∷ []) place y y at)))
    (λ (last : length xs ≤ place).
    let inside = slice_get_within (xs ++ x ∷ []) place y at in
    let size = length-append xs (x ∷ []) in
    let place_is : place ≡ length xs = omega (arith, inside, size, last) in
    let value : get_or (xs ++ x ∷ []) place y ≡ x = ap (λ (i : ℕ). get_or (xs ++ x ∷ []) i y) place_is ∙ get_or-append_seam xs x [] y in
    inr (place_is, sym value ∙ get_or_from_slice_get (xs ++ x ∷ []) place y y at))
    (cases_lt place (length xs))

pub more_of_each : (dnskeys : List DnskeyFacts) (n : ℕ) (old : List ZoneKey) (key : ZoneKey) → AreHoldersOfEach dnskeys n old → AreHolders dnskeys n key
    → AreHoldersOfEach dnskeys (n + 1) (old ++ key ∷ [])
more_of_each dnskeys n old key so_far one = record {
  length_is = length-append old (key ∷ []) ∙ ap (λ (k : ℕ). k + 1) so_far.length_is;
  each = λ place facts at. ⊎_elim
      (λ (earlier : slice_get old place ≡ Some facts). so_far.each place facts earlier)
      (λ (last : (place ≡ length old) × (key ≡ facts)).
      let place_is : n ≡ place = sym so_far.length_is ∙ sym last.0 in
      subst (λ (k : ZoneKey). AreHolders dnskeys place k) last.1 (subst (λ (p : ℕ). AreHolders dnskeys p key) place_is one))
      (at_end old key place facts at);
}
