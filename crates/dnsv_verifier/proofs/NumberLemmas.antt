-- Entries by numbers: they rise as their numbers do, and have the members that their numbers stand for.
use Rattle.std.proofs.Common.{◌≡◌, ◌↔◌, ◌⊎◌, ℕ, ◌+◌, ◌<◌, take, ⊎_elim, inl, inr, List, [], ◌∷◌, ◌++◌, ◌&&◌, length, get_or, cond, map, refl, sym, ap, ◌∙◌, subst, arith, true, false, nat_eq}
use Rattle.std.proofs.lemmas.Bool.{cases_order}
use Rattle.std.proofs.lemmas.Bool.Decides.{nat_tests}
use Rattle.std.proofs.lemmas.Cmp.{eq_by_cmp_equiv, nat_cmp_total, nat_list_cmp_total, on_total, then_total, tied_itself}
use Rattle.std.proofs.lemmas.List.{append-nil, get_or-map, length-map, map-append, take_more}
use Rattle.std.proofs.lemmas.List.Kept.{Contains-dedup, Contains-from_dedup, IsStrictlySortedBy-dedup}
use Rattle.std.proofs.lemmas.List.Sorted.{Contains-permutation, IsPermutation-sym}
use Rattle.std.proofs.lemmas.Map.Keys.{Less-from_sorted}
use Rattle.std.specs.Cmp.{IsTotalOrder, both_tied, nat_cmp_is, unsigned_ties}
use Rattle.std.specs.Cmp.Derive.{then_next}
use Rattle.std.specs.Cmp.Lexicographic.{pointwise, texts_ties}
use Rattle.std.specs.List.{AllByRecursion, Contains, HoldsAt, dedup, filter}
use Rattle.std.specs.List.Sorted.{IsPermutation, IsSorted, IsStrictlySortedBy}
use Rattle.std.specs.Ordering.{eq_by_cmp, nat_cmp, ordering_then}
use Rattle.std.specs.declared.cmp.Ordering.{Ordering}
use Rattle.std.specs.declared.cmp.Ordering.TheVariants.{Less, Equal, Greater}
use Rattle.dnsv_names.specs.Octets.{octets_cmp}
use Rattle.dnsv_canonical.proofs.CanonicalLemmas.{IsMember, IsMember-from_contains, Contains-from_member}
use Rattle.dnsv_verifier.specs.Entry.{entry_cmp}
use Rattle.dnsv_verifier.specs.EntryLaws.{octet_Equal, octets_Equal, then_Equal}
use Rattle.dnsv_verifier.specs.Numbers.{AllOfParts, AreOfParts, PartLists, answers_of, entry_of, key_cmp, key_of, numbers_cmp, signature_cmp, signature_of}
use Rattle.dnsv_verifier.specs.Table.{hoped_answer, is_unknown}
use Rattle.dnsv_verifier.specs.declared.answer.Answer.{Answer}
use Rattle.dnsv_verifier.specs.declared.answer.Answer.TheVariants.{Unknown}
use Rattle.dnsv_verifier.specs.declared.entry.Entry.{Entry}
use Rattle.dnsv_verifier.specs.declared.entry.parts.EntryNumbers.{EntryNumbers}
use Rattle.dnsv_verifier.specs.declared.entry.parts.KeyPart.{KeyPart}
use Rattle.dnsv_verifier.specs.declared.entry.parts.SignaturePart.{SignaturePart}
use Rattle.dnsv_verifier.proofs.TableLemmas.{answered, is_eq-Equal, member-map, unknown_stands}

-- ---- members of mapped lists

pub member_from_map : {X Y : Type 0} (f : X → Y) (xs : List X) (y : Y) → IsMember y (map f xs) → (x : X) × IsMember x xs × (f x ≡ y)
member_from_map f [] y member = absurd member
member_from_map f (x ∷ xs) y member =
    ⊎_elim (λ (here : y ≡ f x). (x, inl refl, sym here))
    (λ (later : IsMember y (map f xs)). let rest = member_from_map f xs y later in (rest.0, inr rest.1, rest.2)) member

pub contains_from_map : {X Y : Type 0} (f : X → Y) (xs : List X) (y : Y) → Contains (map f xs) y → (x : X) × Contains xs x × (f x ≡ y)
contains_from_map f xs y found =
    let from = member_from_map f xs y (IsMember-from_contains (map f xs) y found) in
    (from.0, Contains-from_member xs from.0 from.1, from.2)

pub contains_map : {X Y : Type 0} (f : X → Y) (xs : List X) (x : X) → Contains xs x → Contains (map f xs) (f x)
contains_map f xs x found = Contains-from_member (map f xs) (f x) (member-map f xs x (IsMember-from_contains xs x found))

pub at_front : {X : Type 0} (x : X) (xs : List X) → Contains (x ∷ xs) x
at_front x xs = Contains-from_member (x ∷ xs) x (inl refl)

pub further : {X : Type 0} (x : X) (xs : List X) (y : X) → Contains xs y → Contains (x ∷ xs) y
further x xs y found = Contains-from_member (x ∷ xs) y (inr (IsMember-from_contains xs y found))

-- ---- the orders

pub key_cmp_total : IsTotalOrder key_cmp
key_cmp_total =
    then_total (on_total (λ (part : KeyPart). part.algorithm.0) nat_cmp_total) (on_total (λ (part : KeyPart). part.key) nat_list_cmp_total)

pub signature_cmp_total : IsTotalOrder signature_cmp
signature_cmp_total =
    then_total (on_total (λ (part : SignaturePart). part.signed_data) nat_list_cmp_total) (on_total (λ (part : SignaturePart). part.signature) nat_list_cmp_total)

pub numbers_cmp_total : IsTotalOrder numbers_cmp
numbers_cmp_total =
    then_total (on_total (λ (each : EntryNumbers). each.key) nat_cmp_total) (on_total (λ (each : EntryNumbers). each.signature) nat_cmp_total)

-- entries are ordered by their keys and then by their signatures
by_parts : (parts : PartLists) (a b : EntryNumbers) → ordering_then (key_cmp (key_of parts a.key) (key_of parts b.key)) (signature_cmp (signature_of parts a.signature) (signature_of parts b.signature)) ≡ entry_cmp (entry_of parts a) (entry_of parts b)
by_parts parts a b =
    then_next (key_cmp (key_of parts a.key) (key_of parts b.key))
    (octets_cmp (signature_of parts a.signature).signed_data (signature_of parts b.signature).signed_data)
    (octets_cmp (signature_of parts a.signature).signature (signature_of parts b.signature).signature) refl refl

then_less : (p q : Ordering) → (p ≡ Less) → ordering_then p q ≡ Less
then_less p q less = ap (λ o. ordering_then o q) less

nat_less : (x y : ℕ) → nat_cmp x y ≡ Less → x < y
nat_less x y less = grind (arith, nat_tests)

-- the numbers of the keys decide, and then those of the signatures
either_less : (a b : EntryNumbers) → numbers_cmp a b ≡ Less → (a.key < b.key) ⊎ ((a.key ≡ b.key) × (a.signature < b.signature))
either_less a b less =
    ⊎_elim
    (λ (same : a.key ≡ b.key). inr (same, nat_less a.signature b.signature (ap (λ o. ordering_then o (nat_cmp a.signature b.signature)) (nat_cmp_is a.key b.key Equal same) ∙ less)))
    (⊎_elim (λ (below : a.key < b.key). inl below)
    (λ (above : b.key < a.key). let clash : Greater ≡ Less = ap (λ o. ordering_then o (nat_cmp a.signature b.signature)) (nat_cmp_is a.key b.key Greater above) ∙ less in absurd (cc)))
    (cases_order a.key b.key)

module _ (parts : PartLists) (keys : IsStrictlySortedBy key_cmp parts.keys) (signatures : IsStrictlySortedBy signature_cmp parts.signatures) where
  less_key : (a b : EntryNumbers) → AreOfParts parts b → a.key < b.key → entry_cmp (entry_of parts a) (entry_of parts b) ≡ Less
  less_key a b of less =
      sym (by_parts parts a b) ∙ then_less _ _ (Less-from_sorted key_cmp parts.keys a.key b.key _ keys less of.key)

  less_signature : (a b : EntryNumbers) → AreOfParts parts b → a.key ≡ b.key → a.signature < b.signature → entry_cmp (entry_of parts a) (entry_of parts b) ≡ Less
  less_signature a b of same less =
      let key : key_cmp (key_of parts a.key) (key_of parts b.key) ≡ Equal =
      ap (λ n. key_cmp (key_of parts a.key) (key_of parts n)) (sym same) ∙ tied_itself key_cmp_total (key_of parts a.key) in
      sym (by_parts parts a b)
      ∙ ap (λ o. ordering_then o (signature_cmp (signature_of parts a.signature) (signature_of parts b.signature))) key
      ∙ Less-from_sorted signature_cmp parts.signatures a.signature b.signature _ signatures less of.signature

  pub less_entry : (a b : EntryNumbers) → AreOfParts parts b → numbers_cmp a b ≡ Less → entry_cmp (entry_of parts a) (entry_of parts b) ≡ Less
  less_entry a b of less =
      ⊎_elim (λ (key : a.key < b.key). less_key a b of key) (λ (both : (a.key ≡ b.key) × (a.signature < b.signature)). less_signature a b of both.0 both.1) (either_less a b less)

  rising_behind : (a : EntryNumbers) (numbers : List EntryNumbers) → AllOfParts parts numbers → AllByRecursion (λ b. numbers_cmp a b ≡ Less) numbers → AllByRecursion (λ e. entry_cmp (entry_of parts a) e ≡ Less) (map (entry_of parts) numbers)
  rising_behind a [] all less = tt
  rising_behind a (b ∷ numbers) all less =
      (less_entry a b (all b (at_front b numbers)) less.0, rising_behind a numbers (λ n found. all n (further b numbers n found)) less.1)

  -- entries rise as their numbers do
  pub rising_entries : (numbers : List EntryNumbers) → AllOfParts parts numbers → IsStrictlySortedBy numbers_cmp numbers → IsStrictlySortedBy entry_cmp (map (entry_of parts) numbers)
  unfolding IsStrictlySortedBy
  rising_entries [] all rising = tt
  rising_entries (a ∷ numbers) all rising =
      let later : AllOfParts parts numbers = λ n found. all n (further a numbers n found) in
      (rising_behind a numbers later rising.0, rising_entries numbers later rising.1)

-- ---- putting numbers in order

pub numbers_Equal : (a b : EntryNumbers) → numbers_cmp a b ≡ Equal → a ≡ b
numbers_Equal a b e =
    let both = then_Equal (nat_cmp a.key b.key) (nat_cmp a.signature b.signature) e in
    λ i. record { key = octet_Equal a.key b.key both.0 i; signature = octet_Equal a.signature b.signature both.1 i }

exact_numbers : (a b : EntryNumbers) → eq_by_cmp numbers_cmp a b ≡ true → a ≡ b
exact_numbers a b e = numbers_Equal a b (is_eq-Equal (numbers_cmp a b) e)

-- dropping repeats of what is in order keeps each
pub same_numbers : (numbers sorted distinct : List EntryNumbers) → IsPermutation numbers sorted → distinct ≡ dedup (eq_by_cmp numbers_cmp) sorted → (each : EntryNumbers) → Contains distinct each ↔ Contains numbers each
same_numbers numbers sorted distinct moves is each = (
  λ found. Contains-permutation sorted numbers each (IsPermutation-sym numbers sorted moves) (Contains-from_dedup (eq_by_cmp numbers_cmp) sorted each (subst (λ (ns : List EntryNumbers). Contains ns each) is found)),
  λ found. subst (λ (ns : List EntryNumbers). Contains ns each) (sym is) (Contains-dedup (eq_by_cmp_equiv numbers_cmp_total) exact_numbers sorted each (Contains-permutation numbers sorted each moves found)),
)

-- ---- looking for a part

key_Equal : (a b : KeyPart) → key_cmp a b ≡ Equal → a ≡ b
key_Equal a b e =
    let both = then_Equal (nat_cmp a.algorithm.0 b.algorithm.0) (octets_cmp a.key b.key) e in
    λ i. record { algorithm = record { 0 = octet_Equal a.algorithm.0 b.algorithm.0 both.0 i }; key = octets_Equal a.key b.key both.1 i }

signature_Equal : (a b : SignaturePart) → signature_cmp a b ≡ Equal → a ≡ b
signature_Equal a b e =
    let both = then_Equal (octets_cmp a.signed_data b.signed_data) (octets_cmp a.signature b.signature) e in
    λ i. record { signed_data = octets_Equal a.signed_data b.signed_data both.0 i; signature = octets_Equal a.signature b.signature both.1 i }

pub key_found : (keys : List KeyPart) (asked : KeyPart) (number : ℕ) (d : KeyPart) → HoldsAt (λ part. key_cmp part asked ≡ Equal) keys number → get_or keys number d ≡ asked
key_found keys asked number d holds = key_Equal (get_or keys number d) asked (holds d)

pub signature_found : (signatures : List SignaturePart) (asked : SignaturePart) (number : ℕ) (d : SignaturePart) → HoldsAt (λ part. signature_cmp part asked ≡ Equal) signatures number → get_or signatures number d ≡ asked
signature_found signatures asked number d holds = signature_Equal (get_or signatures number d) asked (holds d)

-- ---- putting parts in order

pub key_ties : (x y : KeyPart) → (nat_eq x.algorithm.0 y.algorithm.0 && pointwise nat_eq x.key y.key) ≡ eq_by_cmp key_cmp x y
key_ties x y = both_tied _ _ _ _ (unsigned_ties x.algorithm.0 y.algorithm.0) (texts_ties x.key y.key)

pub signature_ties : (x y : SignaturePart) → (pointwise nat_eq x.signed_data y.signed_data && pointwise nat_eq x.signature y.signature) ≡ eq_by_cmp signature_cmp x y
signature_ties x y = both_tied _ _ _ _ (texts_ties x.signed_data y.signed_data) (texts_ties x.signature y.signature)

pub numbers_ties : (x y : EntryNumbers) → (nat_eq x.key y.key && nat_eq x.signature y.signature) ≡ eq_by_cmp numbers_cmp x y
numbers_ties x y = both_tied _ _ _ _ (unsigned_ties x.key y.key) (unsigned_ties x.signature y.signature)

pub rising_keys : (sorted kept : List KeyPart) → IsSorted key_cmp sorted → kept ≡ dedup (λ x y. nat_eq x.algorithm.0 y.algorithm.0 && pointwise nat_eq x.key y.key) sorted → IsStrictlySortedBy key_cmp kept
rising_keys sorted kept ordered is = subst (IsStrictlySortedBy key_cmp) (sym is) (IsStrictlySortedBy-dedup key_cmp_total key_ties sorted ordered)

pub rising_signatures : (sorted kept : List SignaturePart) → IsSorted signature_cmp sorted → kept ≡ dedup (λ x y. pointwise nat_eq x.signed_data y.signed_data && pointwise nat_eq x.signature y.signature) sorted → IsStrictlySortedBy signature_cmp kept
rising_signatures sorted kept ordered is = subst (IsStrictlySortedBy signature_cmp) (sym is) (IsStrictlySortedBy-dedup signature_cmp_total signature_ties sorted ordered)

pub rising_numbers : (sorted kept : List EntryNumbers) → IsSorted numbers_cmp sorted → kept ≡ dedup (λ x y. nat_eq x.key y.key && nat_eq x.signature y.signature) sorted → IsStrictlySortedBy numbers_cmp kept
rising_numbers sorted kept ordered is = subst (IsStrictlySortedBy numbers_cmp) (sym is) (IsStrictlySortedBy-dedup numbers_cmp_total numbers_ties sorted ordered)

-- sorting and dropping repeats keeps each
kept_part : {K : Type 0} (cmp : K → K → Ordering) → IsTotalOrder cmp → ((a b : K) → cmp a b ≡ Equal → a ≡ b) → (received sorted kept : List K) → IsPermutation received sorted → kept ≡ dedup (eq_by_cmp cmp) sorted → (k : K) → Contains received k → Contains kept k
kept_part {K} cmp total exact received sorted kept moves is k found =
    subst (λ (parts : List K). Contains parts k) (sym is)
    (Contains-dedup (eq_by_cmp_equiv total) (λ x y tied. exact x y (is_eq-Equal (cmp x y) tied)) sorted k (Contains-permutation received sorted k moves found))

pub kept_keys : (received sorted kept : List KeyPart) → IsPermutation received sorted → kept ≡ dedup (λ x y. nat_eq x.algorithm.0 y.algorithm.0 && pointwise nat_eq x.key y.key) sorted → (part : KeyPart) → Contains received part → Contains kept part
kept_keys received sorted kept moves is =
    kept_part key_cmp key_cmp_total key_Equal received sorted kept moves (is ∙ (λ i. dedup (λ x y. key_ties x y i) sorted))

pub kept_signatures : (received sorted kept : List SignaturePart) → IsPermutation received sorted → kept ≡ dedup (λ x y. pointwise nat_eq x.signed_data y.signed_data && pointwise nat_eq x.signature y.signature) sorted → (part : SignaturePart) → Contains received part → Contains kept part
kept_signatures received sorted kept moves is =
    kept_part signature_cmp signature_cmp_total signature_Equal received sorted kept moves (is ∙ (λ i. dedup (λ x y. signature_ties x y i) sorted))

pub kept_numbers : (sorted kept : List EntryNumbers) → kept ≡ dedup (λ x y. nat_eq x.key y.key && nat_eq x.signature y.signature) sorted → kept ≡ dedup (eq_by_cmp numbers_cmp) sorted
kept_numbers sorted kept is = is ∙ (λ i. dedup (λ x y. numbers_ties x y i) sorted)

-- ---- one entry more

pub entry_is : (parts : PartLists) (number : EntryNumbers) (key : KeyPart) (part : SignaturePart) → key_of parts number.key ≡ key → signature_of parts number.signature ≡ part → entry_of parts number ≡ record { algorithm = key.algorithm; key = key.key; signed_data = part.signed_data; signature = part.signature }
entry_is parts number key part its_key its_part =
    λ i. record { algorithm = (its_key i).algorithm; key = (its_key i).key; signed_data = (its_part i).signed_data; signature = (its_part i).signature }

-- ---- what a table says of its entries

-- the unknown entries, by their numbers
pub unknown_listed : (parts : PartLists) (answers : List (EntryNumbers × Answer)) → map (entry_of parts) (map (λ (each : EntryNumbers × Answer). each.0) (filter (λ (each : EntryNumbers × Answer). is_unknown each.1) answers)) ≡ map (λ (each : Entry × Answer). each.0) (filter (λ (each : Entry × Answer). is_unknown each.1) (answers_of parts answers))
unknown_listed parts [] = refl
unknown_listed parts (a ∷ answers) =
    elim (is_unknown a.1) as (λ b. map (entry_of parts) (map (λ (each : EntryNumbers × Answer). each.0) (cond b (a ∷ filter (λ (each : EntryNumbers × Answer). is_unknown each.1) answers) (filter (λ (each : EntryNumbers × Answer). is_unknown each.1) answers))) ≡ map (λ (each : Entry × Answer). each.0) (cond b ((entry_of parts a.0, a.1) ∷ filter (λ (each : Entry × Answer). is_unknown each.1) (answers_of parts answers)) (filter (λ (each : Entry × Answer). is_unknown each.1) (answers_of parts answers)))) [
      | true ↦ ap (λ rest. entry_of parts a.0 ∷ rest) (unknown_listed parts answers)
      | false ↦ unknown_listed parts answers
    ]

filter_pushed : (answers : List (EntryNumbers × Answer)) (a : EntryNumbers × Answer) → filter (λ (each : EntryNumbers × Answer). is_unknown each.1) (answers ++ a ∷ []) ≡ filter (λ (each : EntryNumbers × Answer). is_unknown each.1) answers ++ cond (is_unknown a.1) (a ∷ []) []
filter_pushed [] a = refl
filter_pushed (b ∷ answers) a =
    elim (is_unknown b.1) as (λ t. cond t (b ∷ filter (λ (each : EntryNumbers × Answer). is_unknown each.1) (answers ++ a ∷ [])) (filter (λ (each : EntryNumbers × Answer). is_unknown each.1) (answers ++ a ∷ [])) ≡ cond t (b ∷ filter (λ (each : EntryNumbers × Answer). is_unknown each.1) answers) (filter (λ (each : EntryNumbers × Answer). is_unknown each.1) answers) ++ cond (is_unknown a.1) (a ∷ []) []) [
      | true ↦ ap (λ rest. b ∷ rest) (filter_pushed answers a)
      | false ↦ filter_pushed answers a
    ]

-- an answer more
module _ {X : Type 0} (f : EntryNumbers × Answer → X) (answers : List (EntryNumbers × Answer)) (i : ℕ) (d : EntryNumbers × Answer) (within : i < length answers) where
  unknown_more : map f (filter (λ (each : EntryNumbers × Answer). is_unknown each.1) (take (i + 1) answers)) ≡ map f (filter (λ (each : EntryNumbers × Answer). is_unknown each.1) (take i answers)) ++ map f (cond (is_unknown (get_or answers i d).1) (get_or answers i d ∷ []) [])
  unknown_more =
      ap (λ xs. map f (filter (λ (each : EntryNumbers × Answer). is_unknown each.1) xs)) (take_more answers i d within)
      ∙ ap (map f) (filter_pushed (take i answers) (get_or answers i d))
      ∙ map-append f (filter (λ (each : EntryNumbers × Answer). is_unknown each.1) (take i answers)) (cond (is_unknown (get_or answers i d).1) (get_or answers i d ∷ []) [])

  pub one_unknown_more : (get_or answers i d).1 ≡ Unknown → map f (filter (λ (each : EntryNumbers × Answer). is_unknown each.1) (take i answers)) ++ f (get_or answers i d) ∷ [] ≡ map f (filter (λ (each : EntryNumbers × Answer). is_unknown each.1) (take (i + 1) answers))
  one_unknown_more unknown =
      sym (unknown_more ∙ ap (λ t. map f (filter (λ (each : EntryNumbers × Answer). is_unknown each.1) (take i answers)) ++ map f (cond t (get_or answers i d ∷ []) [])) (ap is_unknown unknown))

  pub none_unknown_more : is_unknown (get_or answers i d).1 ≡ false → map f (filter (λ (each : EntryNumbers × Answer). is_unknown each.1) (take i answers)) ≡ map f (filter (λ (each : EntryNumbers × Answer). is_unknown each.1) (take (i + 1) answers))
  none_unknown_more known =
      sym (unknown_more ∙ ap (λ t. map f (filter (λ (each : EntryNumbers × Answer). is_unknown each.1) (take i answers)) ++ map f (cond t (get_or answers i d ∷ []) [])) known
      ∙ append-nil (map f (filter (λ (each : EntryNumbers × Answer). is_unknown each.1) (take i answers))))

pub filter_answers : (parts : PartLists) (answers : List (EntryNumbers × Answer)) → filter (λ (each : EntryNumbers × Answer). is_unknown each.1) answers ≡ [] → filter (λ (each : Entry × Answer). is_unknown each.1) (answers_of parts answers) ≡ []
filter_answers parts [] none = refl
filter_answers parts (a ∷ answers) none =
    elim (is_unknown a.1) as (λ b. cond b (a ∷ filter (λ (each : EntryNumbers × Answer). is_unknown each.1) answers) (filter (λ (each : EntryNumbers × Answer). is_unknown each.1) answers) ≡ [] → cond b ((entry_of parts a.0, a.1) ∷ filter (λ (each : Entry × Answer). is_unknown each.1) (answers_of parts answers)) (filter (λ (each : Entry × Answer). is_unknown each.1) (answers_of parts answers)) ≡ []) [
      | true ↦ λ here. absurd (cc here)
      | false ↦ λ here. filter_answers parts answers here
    ] none

pub unknown_among : (parts : PartLists) (answers : List (EntryNumbers × Answer)) (i : ℕ) (d : EntryNumbers × Answer) → i < length answers → (get_or answers i d).1 ≡ Unknown → map (λ (each : Entry × Answer). each.0) (filter (λ (each : Entry × Answer). is_unknown each.1) (answers_of parts answers)) ≡ [] → ⊥
unknown_among parts answers i d within unknown none =
    let f : EntryNumbers × Answer → Entry × Answer = λ each. (entry_of parts each.0, each.1) in
    unknown_stands (map f answers) i (f (get_or answers i d)) (rw (length-map answers f) within) (sym (get_or-map f answers i d (f (get_or answers i d)) within)) unknown none

pub hoped_answers : (parts : PartLists) (answers : List (EntryNumbers × Answer)) → answers_of parts (map (λ (each : EntryNumbers × Answer). (each.0, hoped_answer each.1)) answers) ≡ map (λ (each : Entry × Answer). (each.0, hoped_answer each.1)) (answers_of parts answers)
hoped_answers parts [] = refl
hoped_answers parts (a ∷ answers) = ap (λ rest. (entry_of parts a.0, hoped_answer a.1) ∷ rest) (hoped_answers parts answers)

pub answered_numbers : (meaning : Entry → Answer) (parts : PartLists) (numbers : List EntryNumbers) → answers_of parts (map (λ each. (each, meaning (entry_of parts each))) numbers) ≡ answered meaning (map (entry_of parts) numbers)
answered_numbers meaning parts [] = refl
answered_numbers meaning parts (n ∷ numbers) = ap (λ rest. (entry_of parts n, meaning (entry_of parts n)) ∷ rest) (answered_numbers meaning parts numbers)
