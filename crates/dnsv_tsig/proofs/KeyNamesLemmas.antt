-- The names of keys in a tree.
use Rattle.std.proofs.Common.{◌≡◌, ◌||◌, ◌∙◌, ℕ, Bool, true, false, List, [], ◌∷◌, ◌++◌, Option, Some, None, Vec, cond, is_some, refl, sym, ap}
use Rattle.std.proofs.lemmas.Bool.{false≢true}
use Rattle.std.specs.BTreeMap.{is_at}
use Rattle.std.specs.BTreeSet.{BTreeSet, insert_key}
use Rattle.std.specs.Bool.{Decides, one_answer}
use Rattle.std.specs.Cmp.Lexicographic.{bytes_decides, slice_cmp, texts_ties}
use Rattle.std.specs.List.{find, list_any}
use Rattle.std.specs.Ordering.{is_eq, match_ordering, nat_cmp}
use Rattle.std.specs.Str.{bytes_eq}
use Rattle.std.specs.declared.cmp.Ordering.{Ordering}
use Rattle.std.specs.declared.cmp.Ordering.TheVariants.{Less, Equal, Greater}
use Rattle.dnsv_names.specs.Name.{Labels, SameName, lower_case, same_name, wire}
use Rattle.dnsv_names.specs.Order.ByWireLaws.{same_name_equiv, same_wire}
use Rattle.dnsv_names.specs.Order.OrderLaws.{same_name_Decides}
use Rattle.dnsv_tsig.specs.Key.{SharedKey, key_named}
use Rattle.dnsv_tsig.specs.KeyFile.{IsKeyLine}
use Rattle.dnsv_tsig.specs.KeyNames.{AreNamesOf, has_name}
use Rattle.dnsv_tsig.specs.KeyReading.{IsKeyText}
use Rattle.dnsv_tsig.proofs.KeyLemmas.{some_key}

-- ---- a tree of octets

or_same : (b c : Bool) → (b || (b || c)) ≡ (b || c)
or_same true c = refl
or_same false c = refl

or_swap : (a b c : Bool) → (a || (b || c)) ≡ (b || (a || c))
or_swap true true c = refl
or_swap true false c = refl
or_swap false b c = refl

module _ {Y : Type 0} where
  abbrev own_cmp : Vec ℕ Y → Vec ℕ Y → Ordering
  own_cmp a b = slice_cmp nat_cmp a.items b.items

  abbrev is_own : List ℕ → Vec ℕ Y → Bool
  is_own octets own = is_at (λ (each : Vec ℕ Y). slice_cmp nat_cmp octets each.items) own

  list_more : (octets : List ℕ) (all : List (Vec ℕ Y)) (own : Vec ℕ Y)
      → list_any (is_own octets) (insert_key own_cmp all own) ≡ (bytes_eq octets own.items || list_any (is_own octets) all)
  list_more octets [] own = ap (λ b. b || false) (sym (texts_ties octets own.items))
  list_more octets (x ∷ xs) own =
      elim (own_cmp own x) as (λ (o : Ordering). own_cmp own x ≡ o
      → list_any (is_own octets) (match_ordering o (own ∷ x ∷ xs) (x ∷ xs) (x ∷ insert_key own_cmp xs own))
      ≡ (bytes_eq octets own.items || (is_own octets x || list_any (is_own octets) xs))) [
        | Less ↦ λ _. ap (λ b. b || (is_own octets x || list_any (is_own octets) xs)) (sym (texts_ties octets own.items))
        | Equal ↦ λ same.
            let equal : own.items ≡ x.items = (bytes_decides own.items x.items).0 (texts_ties own.items x.items ∙ ap is_eq same) in
            sym (ap (λ b. b || (is_own octets x || list_any (is_own octets) xs)) (ap (bytes_eq octets) equal ∙ texts_ties octets x.items)
            ∙ or_same (is_own octets x) (list_any (is_own octets) xs))
        | Greater ↦ λ _. ap (λ b. is_own octets x || b) (list_more octets xs own)
            ∙ or_swap (is_own octets x) (bytes_eq octets own.items) (list_any (is_own octets) xs)
      ] refl

-- wire forms in lower case are the same where the names are equal
same_octets : (a b : Labels) → bytes_eq (wire (lower_case a)) (wire (lower_case b)) ≡ same_name a b
same_octets a b =
    let octets : Decides (bytes_eq (wire (lower_case a)) (wire (lower_case b))) (wire (lower_case a) ≡ wire (lower_case b)) = bytes_decides (wire (lower_case a)) (wire (lower_case b)) in
    let names : Decides (bytes_eq (wire (lower_case a)) (wire (lower_case b))) (SameName a b) = (
      λ alike. same_wire (lower_case a) (lower_case b) (octets.0 alike),
      λ same. octets.1 (ap wire same),
    ) in
    one_answer (bytes_eq (wire (lower_case a)) (wire (lower_case b))) (same_name a b) names (same_name_Decides a b)

-- a name more
pub name_more : {Y : Type 0} (old new : BTreeSet (Vec ℕ Y)) (own : Vec ℕ Y) (name : Labels) → own.items ≡ wire (lower_case name)
    → new.keys ≡ insert_key own_cmp old.keys own → (each : Labels)
    → has_name new each ≡ (same_name each name || has_name old each)
name_more old new own name same inserted each =
    ap (list_any (is_own (wire (lower_case each)))) inserted ∙ list_more (wire (lower_case each)) old.keys own
    ∙ ap (λ octets. bytes_eq (wire (lower_case each)) octets || has_name old each) same
    ∙ ap (λ b. b || has_name old each) (same_octets each name)

-- ---- the names of a ring

found_more : {X : Type 0} (test : X → Bool) (xs : List X) (x : X) → is_some (find test (xs ++ x ∷ [])) ≡ (test x || is_some (find test xs))
found_more test [] x = elim (test x) as (λ b. is_some (cond b (Some x) None) ≡ (b || false)) [
  | true ↦ refl
  | false ↦ refl
]
found_more test (y ∷ ys) x =
    elim (test y) as (λ b. is_some (cond b (Some y) (find test (ys ++ x ∷ []))) ≡ (test x || is_some (cond b (Some y) (find test ys)))) [
      | true ↦ elim (test x) as (λ c. true ≡ (c || true)) [
        | true ↦ refl
        | false ↦ refl
      ]
      | false ↦ found_more test ys x
    ]

is_none : {X : Type 0} (found : Option X) → is_some found ≡ false → found ≡ None
is_none None none = refl
is_none (Some x) none = absurd (false≢true (sym none))

pub no_names : {Y : Type 0} (names : BTreeSet (Vec ℕ Y)) (ring : List SharedKey) → names.keys ≡ [] → ring ≡ [] → AreNamesOf names ring
no_names {Y} names ring empty none =
    record { same = λ name. ap (list_any (λ (each : Vec ℕ Y). is_own (wire (lower_case name)) each)) empty ∙ sym (ap (λ (keys : List SharedKey). is_some (key_named name keys)) none) }

-- the key's name is a new one
pub unnamed : {Y : Type 0} (names : BTreeSet (Vec ℕ Y)) (ring : List SharedKey) (name : Labels) → AreNamesOf names ring
    → has_name names name ≡ false → key_named name ring ≡ None
unnamed names ring name are new = is_none (key_named name ring) (sym (are.same name) ∙ new)

-- a key of the ring has the name
pub named : {Y : Type 0} (names : BTreeSet (Vec ℕ Y)) (ring : List SharedKey) (name : Labels) → AreNamesOf names ring
    → has_name names name ≡ true → key_named name ring ≡ None → ⊥
named names ring name are again none = false≢true (sym (ap is_some none) ∙ sym (are.same name) ∙ again)

pub names_more : {Y : Type 0} (old new : BTreeSet (Vec ℕ Y)) (ring : List SharedKey) (name : Labels) (key : SharedKey) → AreNamesOf old ring
    → ((each : Labels) → has_name new each ≡ (same_name each name || has_name old each)) → key.name ≡ name
    → AreNamesOf new (ring ++ key ∷ [])
names_more old new ring name key are more same =
    record {
      same = λ each.
          more each ∙ ap (λ b. same_name each name || b) (are.same each)
          ∙ ap (λ b. b || is_some (key_named each ring)) (same_name_equiv.symm each name ∙ ap (λ (own : Labels). same_name own each) (sym same))
          ∙ sym (found_more (λ (own : SharedKey). same_name own.name each) ring key);
    }

-- the key of a line, whose name is a new one and then is there
pub named_more : {Y : Type 0} (old new : BTreeSet (Vec ℕ Y)) (before : List SharedKey) {line : List ℕ} {name : Labels} {coded : List ℕ} → IsKeyText line name coded
    → AreNamesOf old before → has_name old name ≡ false
    → ((each : Labels) → has_name new each ≡ (same_name each name || has_name old each))
    → (key : SharedKey) × IsKeyLine line key × (key_named key.name before ≡ None) × AreNamesOf new (before ++ key ∷ [])
named_more old new before {line} {name} {coded} text are unseen more =
    let some = some_key text in (
      some.0,
      some.1,
      ap (λ (each : Labels). key_named each before) some.2 ∙ unnamed old before name are unseen,
      names_more old new before name some.0 are more some.2,
    )
