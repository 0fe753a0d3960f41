-- Keys and signatures by their numbers, and the entries of their pairs.
use Rattle.std.proofs.Common.{◌≡◌, ℕ, ◌+◌, ◌<◌, ◌≤◌, ⊎_elim, inl, inr, List, [], ◌∷◌, ◌++◌, length, get_or, take, map, refl, sym, ap, ◌∙◌, subst, arith}
use Rattle.std.proofs.lemmas.Cmp.{tied_back}
use Rattle.std.proofs.lemmas.List.{take_all, take_more}
use Rattle.std.proofs.lemmas.List.Elements.{Contains-append_left, Contains-push, Contains-push_cases}
use Rattle.std.proofs.lemmas.List.Sorted.{Contains-permutation, IsPermutation-sym}
use Rattle.std.specs.List.{Contains}
use Rattle.std.specs.List.Sorted.{IsPermutation}
use Rattle.std.specs.declared.cmp.Ordering.TheVariants.{Equal}
use Rattle.dnsv_verifier.specs.Admissible.{DnskeyRecord}
use Rattle.dnsv_verifier.specs.Asking.{AddsJust, CanSign, ComesOfSome, GivesEach, GivesMore, IsAny, IsEntryOfMade, MadeSignature, NumberedName, entry_with, key_name_cmp, name_of_key, named_by}
use Rattle.dnsv_verifier.specs.Numbers.{AllOfParts, AreOfParts, IsNumberedKey, IsNumberedSignature, IsPairBy, IsPairIn, IsPairOf, PartLists, entry_of, part_of_key}
use Rattle.dnsv_verifier.specs.declared.entry.Entry.{Entry}
use Rattle.dnsv_verifier.specs.declared.entry.parts.EntryNumbers.{EntryNumbers}
use Rattle.dnsv_verifier.proofs.AskLemmas.{adds_same}
use Rattle.dnsv_verifier.proofs.NamedLemmas.{key_name_cmp_total, made_by_name, made_can_sign, named_key}
use Rattle.dnsv_verifier.proofs.NumberLemmas.{contains_from_map, contains_map, entry_is}

-- ---- lists with something of each

module _ {Y X : Type 0} (P : Y → X → Type 0) (Q : Y → Type 0) where
  pub gives_pushed : (y : Y) (old : List X) (x : X) → P y x → GivesMore P Q y old (old ++ x ∷ [])
  gives_pushed y old x it = record {
    kept = λ z found. Contains-append_left old (x ∷ []) z found;
    only = λ z found. ⊎_elim (λ before. inl before) (λ same. inr (subst (P y) same it)) (Contains-push_cases old x z found);
    all = λ asks. (x, Contains-push old x, it);
  }

  pub gives_nothing : (y : Y) (old : List X) → (Q y → ⊥) → GivesMore P Q y old old
  gives_nothing y old none = record { kept = λ x found. found; only = λ x found. inl found; all = λ asks. absurd (none asks) }

  pub each_none : (ys : List Y) → GivesEach P Q (take 0 ys) []
  each_none ys = record { only = λ x found. absurd (omega (arith, found.1)); all = λ y among asks. absurd (omega (arith, among.1)) }

  pub each_more : (ys : List Y) (i : ℕ) (y : Y) (a b : List X) → i < length ys → y ≡ get_or ys i y
      → GivesEach P Q (take i ys) a → GivesMore P Q y a b → GivesEach P Q (take (i + 1) ys) b
  each_more ys i y a b within is so_far more =
      let longer : take (i + 1) ys ≡ take i ys ++ y ∷ [] = take_more ys i y within ∙ ap (λ z. take i ys ++ z ∷ []) (sym is) in
      subst (λ (zs : List Y). GivesEach P Q zs b) (sym longer) (record {
        only = λ x found. ⊎_elim
            (λ before. let from = so_far.only x before in record { source = from.source; among = Contains-append_left (take i ys) (y ∷ []) from.source from.among; is = from.is })
            (λ new. record { source = y; among = Contains-push (take i ys) y; is = new })
            (more.only x found);
        all = λ z among asks. ⊎_elim
            (λ before. let one = so_far.all z before asks in (one.0, more.kept one.0 one.1, one.2))
            (λ same. let one = more.all (subst Q (sym same) asks) in (one.0, one.1, subst (λ (w : Y). P w one.0) same one.2))
            (Contains-push_cases (take i ys) y z among);
      })

  pub each_all : (ys : List Y) (i : ℕ) (a : List X) → length ys ≤ i → GivesEach P Q (take i ys) a → GivesEach P Q ys a
  each_all ys i a past so_far = subst (λ (zs : List Y). GivesEach P Q zs a) (take_all i ys past) so_far

  pub each_moved : (ys : List Y) (a b : List X) → IsPermutation a b → GivesEach P Q ys a → GivesEach P Q ys b
  each_moved ys a b moves each = record {
    only = λ x found. each.only x (Contains-permutation b a x (IsPermutation-sym a b moves) found);
    all = λ y among asks. let one = each.all y among asks in (one.0, Contains-permutation a b one.0 moves one.1, one.2);
  }

-- ---- pairs

-- those of the signatures that have the key's name are enough
pub pairs_named : (key : NumberedName) (signatures named : List NumberedName)
    → ((each : NumberedName) → Contains named each → Contains signatures each)
    → ((each : NumberedName) → Contains named each → key_name_cmp each.name key.name ≡ Equal)
    → ((each : NumberedName) → Contains signatures each → key_name_cmp each.name key.name ≡ Equal → Contains named each)
    → (a b : List EntryNumbers) → AddsJust (ComesOfSome (IsPairOf key.number) named) a b → AddsJust (IsPairIn signatures key) a b
pairs_named key signatures named among just all a b adds =
    adds_same (ComesOfSome (IsPairOf key.number) named) (IsPairIn signatures key) a b adds
    (λ pair of. record { source = of.source; among = among of.source of.among; is = record { named = just of.source of.among; is = of.is } })
    (λ pair by. record { source = by.source; among = all by.source by.among by.is.named; is = by.is.is })

module _ (parts : PartLists) (keys : List DnskeyRecord) (mades : List MadeSignature) (numbered signatures : List NumberedName)
    (of_keys : GivesEach (IsNumberedKey parts) CanSign keys numbered) (of_made : GivesEach (IsNumberedSignature parts) IsAny mades signatures) where
  -- the entry of a pair
  entry_of_pair : (key : DnskeyRecord) (made : MadeSignature) (k s : NumberedName) (pair : EntryNumbers) → IsNumberedKey parts key k
      → IsNumberedSignature parts made s → IsPairOf k.number s pair → entry_of parts pair ≡ entry_with made.part key
  entry_of_pair key made k s pair its_key its_made is =
      ap (entry_of parts) is ∙ entry_is parts (record { key = k.number; signature = s.number }) (part_of_key key) made.part its_key.value its_made.value

  entry_by_pair : (k s : NumberedName) (pair : EntryNumbers) → ComesOfSome (IsNumberedKey parts) keys k
      → ComesOfSome (IsNumberedSignature parts) mades s → IsPairBy k s pair → ComesOfSome (IsEntryOfMade keys) mades (entry_of parts pair)
  entry_by_pair k s pair key made by =
      let named : key_name_cmp (named_by made.source.rrsig) (name_of_key key.source) ≡ Equal =
      (λ i. key_name_cmp (sym made.is.same i) (sym key.is.same i)) ∙ by.named in
      record {
        source = made.source;
        among = made.among;
        is = record {
          source = key.source;
          among = key.among;
          is = record {
            made = made_by_name made.source.rrsig key.source key.is.signs named;
            is = entry_of_pair key.source made.source k s pair key.is made.is by.is;
          };
        };
      }

  module _ (pairs : List EntryNumbers) (adds : AddsJust (ComesOfSome (IsPairIn signatures) numbered) [] pairs) where
    pair_from : (pair : EntryNumbers) → Contains pairs pair → ComesOfSome (IsPairIn signatures) numbered pair
    pair_from pair found = ⊎_elim (λ old. absurd (omega (arith, old.1))) (λ from. from) (adds.only pair found)

    entry_there : (entry : Entry) → ComesOfSome (IsEntryOfMade keys) mades entry → Contains (map (entry_of parts) pairs) entry
    entry_there entry from =
        let made = from.source in
        let key = from.is.source in
        let by = from.is.is in
        let one_key = of_keys.all key from.is.among (made_can_sign made.rrsig key by.made) in
        let one_made = of_made.all made from.among tt in
        let pair : EntryNumbers = record { key = one_key.0.number; signature = one_made.0.number } in
        let named : key_name_cmp one_made.0.name one_key.0.name ≡ Equal =
        (λ i. key_name_cmp (one_made.2.same i) (one_key.2.same i))
        ∙ tied_back key_name_cmp_total (name_of_key key) (named_by made.rrsig) (named_key made.rrsig key by.made) in
        let there : Contains pairs pair = adds.added pair (record {
          source = one_key.0;
          among = one_key.1;
          is = record { source = one_made.0; among = one_made.1; is = record { named = named; is = refl } };
        }) in
        subst (λ (e : Entry). Contains (map (entry_of parts) pairs) e)
        (entry_of_pair key made one_key.0 one_made.0 pair one_key.2 one_made.2 refl ∙ sym by.is)
        (contains_map (entry_of parts) pairs pair there)

    -- the pairs give just the entries
    pub entries_of_pairs : AddsJust (ComesOfSome (IsEntryOfMade keys) mades) [] (map (entry_of parts) pairs)
    entries_of_pairs = record {
      kept = λ entry found. absurd (omega (arith, found.1));
      added = entry_there;
      only = λ entry found.
          let from = contains_from_map (entry_of parts) pairs entry found in
          let pair = pair_from from.0 from.1 in
          inr (subst (λ (e : Entry). ComesOfSome (IsEntryOfMade keys) mades e) from.2
          (entry_by_pair pair.source pair.is.source from.0 (of_keys.only pair.source pair.among) (of_made.only pair.is.source pair.is.among) pair.is.is));
    }

    pub pairs_of_parts : AllOfParts parts pairs
    pairs_of_parts each found =
        let pair = pair_from each found in
        let key = of_keys.only pair.source pair.among in
        let made = of_made.only pair.is.source pair.is.among in
        subst (λ (n : EntryNumbers). AreOfParts parts n) (sym pair.is.is.is) (record { key = key.is.within; signature = made.is.within })
