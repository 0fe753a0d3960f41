-- Filters and first appearances, as a loop goes over a list.
pub mod AppearanceLemmas
pub mod RunLemmas
use Rattle.std.proofs.Common.{◌≡◌, ℕ, ◌+◌, ◌<◌, ◌≤◌, ◌==◌, Bool, true, false, cond, not, ◌&&◌, ◌||◌, List, [], ◌∷◌, ◌++◌, length, get_or, take, map, if◌then◌else◌, refl, sym, ap, ◌∙◌, append_assoc, arith}
use Rattle.std.specs.List.{enumerate_from, filter, list_any}
use lib.Seq.{take-append-le, take-append_seam}
use Rattle.std.proofs.lemmas.List.Folds.{list_any_more, list_any_at}
use Rattle.std.proofs.lemmas.List.Elements.{filter_more, filter-append}
use Rattle.std.proofs.lemmas.List.{append-nil, map-append, length-map}
use Rattle.std.proofs.Math.Dec.{eqb-suc-zero}
use Rattle.std.proofs.lemmas.Cmp.{nat_eq_equiv, on_equiv, lists_equiv}
use Rattle.std.specs.Cmp.{IsEquivalence}
use Rattle.dnsv_names.specs.Name.{Labels, lower_case, same_name}
use Rattle.dnsv_message.specs.declared.record.Record.{Record}
use Rattle.dnsv_message.specs.declared.record.Section.{Section}
use Rattle.dnsv_canonical.specs.Rrsets.{ReceivedRrset, appears_first, first_appearances, is_grouped, same_rrset, is_signature, rrset_of}

module _ {X : Type 0} (p q : X → Bool) where
  -- whether one of those that pass the first test passes the second
  pub any_of_filter : (xs : List X) → list_any q (filter p xs) ≡ list_any (λ x. p x && q x) xs
  any_of_filter [] = refl
  any_of_filter (x ∷ xs) =
      elim (p x) as (λ b. list_any q (cond b (x ∷ filter p xs) (filter p xs)) ≡ ((b && q x) || list_any (λ y. p y && q y) xs)) [
        | true ↦ ap (λ b. q x || b) (any_of_filter xs)
        | false ↦ any_of_filter xs
      ]

-- an element at the end is behind so many places
pub placed-push : {X : Type 0} (k : ℕ) (xs : List X) (x : X) → enumerate_from k (xs ++ x ∷ []) ≡ enumerate_from k xs ++ (k + length xs, x) ∷ []
placed-push {X} k [] x = ap {B = List (ℕ × X)} (λ n. (n, x) ∷ []) (omega arith)
placed-push {X} k (y ∷ ys) x =
    ap (λ placed. (k, y) ∷ placed) (placed-push (k + 1) ys x ∙ ap {B = List (ℕ × X)} (λ n. enumerate_from (k + 1) ys ++ (n, x) ∷ []) (omega arith))

module _ {X : Type 0} (same : X → X → Bool) where
  -- what comes behind an element changes nothing of whether it appears first
  appear_as_before : (whole more : List X) (k : ℕ) (xs : List X) → k + length xs ≤ length whole → filter (appears_first same (whole ++ more)) (enumerate_from k xs) ≡ filter (appears_first same whole) (enumerate_from k xs)
  appear_as_before whole more k [] within = refl
  appear_as_before whole more k (x ∷ xs) within =
      ap (λ earlier. cond (not (list_any (λ y. same y x) earlier)) ((k, x) ∷ filter (appears_first same (whole ++ more)) (enumerate_from (k + 1) xs)) (filter (appears_first same (whole ++ more)) (enumerate_from (k + 1) xs)))
      (take-append-le k whole more (omega arith))
      ∙ ap (λ rest. cond (appears_first same whole (k, x)) ((k, x) ∷ rest) rest) (appear_as_before whole more (k + 1) xs (omega arith))

  last_appears : (k : ℕ) (x : X) (appeared : Bool) → map (λ (placed : ℕ × X). placed.1) (cond (not appeared) ((k, x) ∷ []) []) ≡ cond appeared [] (x ∷ [])
  last_appears k x true = refl
  last_appears k x false = refl

  -- an element at the end appears where it is the same as no earlier one
  pub first_appearances-push : (xs : List X) (x : X) → first_appearances same (xs ++ x ∷ []) ≡ first_appearances same xs ++ cond (list_any (λ y. same y x) xs) [] (x ∷ [])
  first_appearances-push xs x =
      let test : ℕ × X → Bool = appears_first same (xs ++ x ∷ []) in
      ap (λ placed. map (λ (p : ℕ × X). p.1) (filter test placed)) (placed-push 0 xs x ∙ ap {B = List (ℕ × X)} (λ n. enumerate_from 0 xs ++ (n, x) ∷ []) (omega arith))
      ∙ ap (map (λ (p : ℕ × X). p.1)) (filter-append test (enumerate_from 0 xs) ((length xs, x) ∷ []))
      ∙ map-append (λ (p : ℕ × X). p.1) (filter test (enumerate_from 0 xs)) (filter test ((length xs, x) ∷ []))
      ∙ ap (λ placed. map (λ (p : ℕ × X). p.1) placed ++ map (λ (p : ℕ × X). p.1) (filter test ((length xs, x) ∷ []))) (appear_as_before xs (x ∷ []) 0 xs (omega arith))
      ∙ ap (λ earlier. first_appearances same xs ++ map (λ (p : ℕ × X). p.1) (cond (not (list_any (λ y. same y x) earlier)) ((length xs, x) ∷ []) [])) (take-append_seam xs (x ∷ []))
      ∙ ap (λ ys. first_appearances same xs ++ ys) (last_appears (length xs) x (list_any (λ y. same y x) xs))

-- an element that may come is kept where it comes and is the same as no earlier one
first_appearances_more : {X : Type 0} (same : X → X → Bool) (xs : List X) (x : X) (comes : Bool) → first_appearances same (xs ++ cond comes (x ∷ []) []) ≡ first_appearances same xs ++ cond (comes && not (list_any (λ y. same y x) xs)) (x ∷ []) []
first_appearances_more same xs x comes =
    elim comes as (λ b. first_appearances same (xs ++ cond b (x ∷ []) []) ≡ first_appearances same xs ++ cond (b && not (list_any (λ y. same y x) xs)) (x ∷ []) []) [
      | true ↦ first_appearances-push same xs x ∙ ap (λ ys. first_appearances same xs ++ ys) (elim (list_any (λ y. same y x) xs) as (λ any. cond any [] (x ∷ []) ≡ cond (not any) (x ∷ []) []) [ true ↦ refl | false ↦ refl ])
      | false ↦ ap (first_appearances same) (append-nil xs) ∙ sym (append-nil (first_appearances same xs))
    ]

map_cond : {X Y : Type 0} (f : X → Y) (x : X) (b : Bool) → map f (cond b (x ∷ []) []) ≡ cond b (f x ∷ []) []
map_cond f x b = elim b as (λ t. map f (cond t (x ∷ []) []) ≡ cond t (f x ∷ []) []) [ true ↦ refl | false ↦ refl ]

-- the RRsets that appeared in the first i records, and the next record's where it is the first of one
pub rrsets_more : (message : ℕ) (section : Section) (records earlier : List Record) (i : ℕ) (d : Record) → i < length earlier → map (rrset_of message section records) (first_appearances same_rrset (filter is_grouped (take (i + 1) earlier))) ≡ map (rrset_of message section records) (first_appearances same_rrset (filter is_grouped (take i earlier))) ++ cond (is_grouped (get_or earlier i d) && not (list_any (λ r. is_grouped r && same_rrset r (get_or earlier i d)) (take i earlier))) (rrset_of message section records (get_or earlier i d) ∷ []) []
rrsets_more message section records earlier i d within =
    let x : Record = get_or earlier i d in
    let g : Record → ReceivedRrset = rrset_of message section records in
    ap (λ rs. map g (first_appearances same_rrset rs)) (filter_more is_grouped earlier i d within)
    ∙ ap (map g) (first_appearances_more same_rrset (filter is_grouped (take i earlier)) x (is_grouped x))
    ∙ map-append g (first_appearances same_rrset (filter is_grouped (take i earlier))) _
    ∙ ap (λ rs. map g (first_appearances same_rrset (filter is_grouped (take i earlier))) ++ rs)
    (map_cond g x _ ∙ ap (λ b. cond (is_grouped x && not b) (g x ∷ []) []) (any_of_filter is_grouped (λ r. same_rrset r x) (take i earlier)))

pub same_name_equiv : IsEquivalence same_name
same_name_equiv = on_equiv lower_case (lists_equiv (lists_equiv nat_eq_equiv))

-- whether there is none among those that pass the test
no_element : (test : Record → Bool) (records : List Record) → (length (map (λ (r : Record). r.rdata) (filter test records)) == 0) ≡ not (list_any test records)
no_element test [] = refl
no_element test (x ∷ xs) =
    elim (test x) as (λ b. (length (map (λ (r : Record). r.rdata) (cond b (x ∷ filter test xs) (filter test xs))) == 0) ≡ not (b || list_any test xs)) [
      | true ↦ eqb-suc-zero _
      | false ↦ no_element test xs
    ]

pub same_rrset_itself : (x : Record) → same_rrset x x ≡ true
same_rrset_itself x = λ i. nat_eq_equiv.refl x.rtype.0 i && same_name_equiv.refl x.name i

-- the RDATA of the RRset that the record belongs to
abbrev pub rdata_of : List Record → Record → List (List ℕ)
rdata_of records first = map (λ r. r.rdata) (filter (same_rrset first) (filter is_grouped records))

-- whether the RRset that the record belongs to appeared among the first n
abbrev pub had_at : List Record → ℕ → Record → Bool
had_at records n first = list_any (λ r. is_grouped r && same_rrset r first) (take n records)

module _ (records : List Record) (i : ℕ) (x : Record) (within : i < length records) (at : x ≡ get_or records i x) where
  -- the signatures over an RRset up to the next record, by the test on it
  pub signatures_next : (owner : Labels) (rtype : ℕ) (before after : List (List ℕ)) (signs : Bool) → before ≡ map (λ r. r.rdata) (filter (is_signature owner rtype) (take i records)) → is_signature owner rtype x ≡ signs → after ≡ before ++ (if signs then x.rdata ∷ [] else []) → after ≡ map (λ r. r.rdata) (filter (is_signature owner rtype) (take (i + 1) records))
  signatures_next owner rtype before after signs was is more =
      let rdata : Record → List ℕ = λ r. r.rdata in
      let test : Record → Bool = is_signature owner rtype in
      more ∙ (λ j. was j ++ cond (sym is j) (x.rdata ∷ []) []) ∙ ap (λ rs. map rdata (filter test (take i records)) ++ rs) (sym (map_cond rdata x (test x)))
      ∙ sym (map-append rdata (filter test (take i records)) (cond (test x) (x ∷ []) []))
      ∙ ap (λ (r : Record). map rdata (filter test (take i records) ++ cond (test r) (r ∷ []) [])) at
      ∙ ap (map rdata) (sym (filter_more test records i x within))

  module _ (grouped : is_grouped x ≡ true) where
    -- the RRset of a record has RDATA
    some_rdata : (length (rdata_of records x) == 0) ≡ false
    some_rdata =
        let own : Record → Bool = same_rrset x in
        let itself : is_grouped x && own x ≡ true = λ j. grouped j && same_rrset_itself x j in
        no_element own (filter is_grouped records)
        ∙ ap not (any_of_filter is_grouped own records ∙ list_any_at (λ r. is_grouped r && own r) records i x within (ap (λ r. is_grouped r && own r) (sym at) ∙ itself))

    -- what was taken for a record is empty where one of its RRset came before
    pub had_is : {B : Type 0} (f : B → List ℕ) (taken : List B) → map f taken ≡ (if had_at records i x then [] else rdata_of records x) → had_at records i x ≡ (length taken == 0)
    had_is f taken is =
        sym (elim (had_at records i x) as (λ b. (length (if b then [] else rdata_of records x) == 0) ≡ b) [ true ↦ refl | false ↦ some_rdata ])
        ∙ ap (λ rs. length rs == 0) (sym is) ∙ ap (λ n. n == 0) (length-map taken f)

    -- what is left for each RRset once the record took its own
    pub left_after : (first : Record) (before after : List (List ℕ)) → before ≡ (if had_at records i first then [] else rdata_of records first) → after ≡ (if same_rrset x first then [] else before) → after ≡ (if had_at records (i + 1) first then [] else rdata_of records first)
    left_after first before after was is =
        let test : Record → Bool = λ r. is_grouped r && same_rrset r first in
        is ∙ ap (λ rs. if same_rrset x first then [] else rs) was
        ∙ both (same_rrset x first) (had_at records i first)
        ∙ (λ j. if (had_at records i first || (sym grouped j && same_rrset x first)) then [] else rdata_of records first)
        ∙ ap (λ (r : Record). if (had_at records i first || test r) then [] else rdata_of records first) at
        ∙ ap (λ b. if b then [] else rdata_of records first) (sym (list_any_more test records i x within))
      where
        both : (s had : Bool) → (if s then [] else (if had then [] else rdata_of records first)) ≡ (if (had || s) then [] else rdata_of records first)
        both true true = refl
        both true false = refl
        both false true = refl
        both false false = refl

module _ (message : ℕ) (section : Section) (records : List Record) (i : ℕ) (x : Record) (within : i < length records) (at : x ≡ get_or records i x) where
  abbrev appeared_at : ℕ → List ReceivedRrset
  appeared_at n = map (rrset_of message section records) (first_appearances same_rrset (filter is_grouped (take n records)))

  -- the RRsets up to the next record by the two tests on it
  next_rrset : (grouped appeared : Bool) → is_grouped x ≡ grouped → list_any (λ r. is_grouped r && same_rrset r x) (take i records) ≡ appeared → appeared_at (i + 1) ≡ appeared_at i ++ cond (grouped && not appeared) (rrset_of message section records x ∷ []) []
  next_rrset grouped appeared grouped_is appeared_is =
      rrsets_more message section records records i x within
      ∙ ap (λ (r : Record). appeared_at i ++ cond (is_grouped r && not (list_any (λ s. is_grouped s && same_rrset s r) (take i records))) (rrset_of message section records r ∷ []) []) (sym at)
      ∙ (λ j. appeared_at i ++ cond (grouped_is j && not (appeared_is j)) (rrset_of message section records x ∷ []) [])

  module _ (old before : List ReceivedRrset) (so_far : before ≡ old ++ appeared_at i) where
    pub rrset_appears : is_grouped x ≡ true → list_any (λ r. is_grouped r && same_rrset r x) (take i records) ≡ false → before ++ rrset_of message section records x ∷ [] ≡ old ++ appeared_at (i + 1)
    rrset_appears grouped appeared =
        ap (λ gs. gs ++ rrset_of message section records x ∷ []) so_far ∙ append_assoc old (appeared_at i) (rrset_of message section records x ∷ [])
        ∙ ap (λ gs. old ++ gs) (sym (next_rrset true false grouped appeared))

    pub rrset_appeared : is_grouped x ≡ true → list_any (λ r. is_grouped r && same_rrset r x) (take i records) ≡ true → before ≡ old ++ appeared_at (i + 1)
    rrset_appeared grouped appeared = so_far ∙ ap (λ gs. old ++ gs) (sym (next_rrset true true grouped appeared ∙ append-nil (appeared_at i)))
