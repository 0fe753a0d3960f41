-- What a table says, by the entries that it is made of.
use Rattle.std.proofs.Common.{◌≡◌, ℕ, zero, suc, ◌<◌, Bool, true, false, cond, inl, inr, ⊎_elim, List, [], ◌∷◌, Option, Some, None, length, get_or, map, refl, sym, ap, ◌∙◌, subst, arith}
use Rattle.std.proofs.lemmas.Cmp.{eq_by_cmp_equiv}
use Rattle.std.proofs.lemmas.Map.Keys.{IsDistinct-from_sorted}
use Rattle.std.proofs.lemmas.Map.Views.{lookup-from_Contains, Contains-keys_from_lookup}
use Rattle.std.specs.Cmp.{IsEquivalence}
use Rattle.std.specs.List.{AllByRecursion, Contains, IsDistinct, filter}
use Rattle.std.specs.List.Sorted.{IsStrictlySortedBy}
use Rattle.std.specs.Map.{keys_of, lookup}
use Rattle.std.specs.Option.{IsSome, unwrap_or}
use Rattle.std.specs.Ordering.{eq_by_cmp, is_eq}
use Rattle.std.specs.declared.cmp.Ordering.{Ordering}
use Rattle.std.specs.declared.cmp.Ordering.TheVariants.{Less, Equal}
use Rattle.dnsv_canonical.specs.Rrsets.{ReceivedRrset}
use Rattle.dnsv_canonical.proofs.CanonicalLemmas.{IsMember, IsMember-from_contains, Contains-from_member, rising_unique}
use Rattle.dnsv_verifier.specs.Admissible.{IsAsked}
use Rattle.dnsv_verifier.specs.Entry.{entry_cmp}
use Rattle.dnsv_verifier.specs.EntryLaws.{entry_cmp_total, entry_Equal}
use Rattle.dnsv_verifier.specs.Table.{IsTableOf, TableContents, hoped_answer, hopeful, is_unknown, table_answer, unknown_entries}
use Rattle.dnsv_verifier.specs.declared.answer.Answer.{Answer}
use Rattle.dnsv_verifier.specs.declared.answer.Answer.TheVariants.{Valid, Invalid, Unknown}
use Rattle.dnsv_verifier.specs.declared.entry.Entry.{Entry}

-- entries with what the meaning says of them
abbrev pub answered : (Entry → Answer) → List Entry → List (Entry × Answer)
answered meaning entries = map (λ entry. (entry, meaning entry)) entries

pub same_entry_equiv : IsEquivalence (eq_by_cmp entry_cmp)
same_entry_equiv = eq_by_cmp_equiv entry_cmp_total

pub is_eq-Equal : (order : Ordering) → is_eq order ≡ true → order ≡ Equal
is_eq-Equal Equal e = refl
is_eq-Equal order e = cc

pub exact_entries : (a b : Entry) → eq_by_cmp entry_cmp a b ≡ true → a ≡ b
exact_entries a b e = entry_Equal a b (is_eq-Equal (entry_cmp a b) e)

pub keys_of-answered : (meaning : Entry → Answer) (entries : List Entry) → keys_of (answered meaning entries) ≡ entries
keys_of-answered meaning [] = refl
keys_of-answered meaning (e ∷ entries) = ap (λ rest. e ∷ rest) (keys_of-answered meaning entries)

pub member-map : {X Y : Type 0} (f : X → Y) (xs : List X) (x : X) → IsMember x xs → IsMember (f x) (map f xs)
member-map f [] x member = absurd member
member-map f (y ∷ xs) x member = ⊎_elim (λ same. inl (ap f same)) (λ later. inr (member-map f xs x later)) member

none_of : (found : Option Answer) → (IsSome found → ⊥) → found ≡ None
none_of None none = refl
none_of (Some answer) none = absurd (none refl)

module _ (meaning : Entry → Answer) (moment : ℕ) (rrsets : List ReceivedRrset) (contents : TableContents)
    (is : IsTableOf meaning moment rrsets contents) where
  -- the table's answer of each asked entry
  pub says_as_its_verifier : (entry : Entry) → IsAsked moment rrsets entry → table_answer contents entry ≡ meaning entry
  says_as_its_verifier entry asked =
      let distinct : IsDistinct (eq_by_cmp entry_cmp) (keys_of (answered meaning is.entries)) =
      subst (IsDistinct (eq_by_cmp entry_cmp)) (sym (keys_of-answered meaning is.entries)) (IsDistinct-from_sorted entry_cmp is.entries is.rising) in
      let member = IsMember-from_contains is.entries entry ((is.asked entry).1 asked) in
      let listed : Contains (answered meaning is.entries) (entry, meaning entry) =
      Contains-from_member (answered meaning is.entries) (entry, meaning entry) (member-map (λ e. (e, meaning e)) is.entries entry member) in
      ap (λ (answers : List (Entry × Answer)). unwrap_or (lookup (λ each. is_eq (entry_cmp entry each)) answers) Unknown) is.answers
      ∙ ap (λ (found : Option Answer). unwrap_or found Unknown) (lookup-from_Contains same_entry_equiv entry (meaning entry) (answered meaning is.entries) distinct listed)

  -- of any other it knows nothing
  pub says_no_more : (entry : Entry) → (IsAsked moment rrsets entry → ⊥) → table_answer contents entry ≡ Unknown
  says_no_more entry unasked =
      let found = lookup (λ each. is_eq (entry_cmp entry each)) (answered meaning is.entries) in
      let none : found ≡ None =
      none_of found (λ some. unasked ((is.asked entry).0 (subst (λ (keys : List Entry). Contains keys entry) (keys_of-answered meaning is.entries) (Contains-keys_from_lookup exact_entries entry (answered meaning is.entries) some)))) in
      ap (λ (answers : List (Entry × Answer)). unwrap_or (lookup (λ each. is_eq (entry_cmp entry each)) answers) Unknown) is.answers
      ∙ ap (λ (answer : Option Answer). unwrap_or answer Unknown) none

  pub only_table : (other : TableContents) → IsTableOf meaning moment rrsets other → contents ≡ other
  only_table other its =
      let entries : is.entries ≡ its.entries =
      rising_unique entry_cmp entry_cmp_total entry_Equal is.entries its.entries is.rising its.rising
      (λ e m. IsMember-from_contains its.entries e ((its.asked e).1 ((is.asked e).0 (Contains-from_member is.entries e m))))
      (λ e m. IsMember-from_contains is.entries e ((is.asked e).1 ((its.asked e).0 (Contains-from_member its.entries e m)))) in
      let answers : contents.answers ≡ other.answers =
      is.answers ∙ ap (answered meaning) entries ∙ sym its.answers in
      λ i. record { moment = (is.of_moment ∙ sym its.of_moment) i; rrsets = (is.of_rrsets ∙ sym its.of_rrsets) i; answers = answers i }

-- what stands among the Unknown ones is Unknown
unknown_is : (meaning : Entry → Answer) (entries : List Entry) (entry : Entry)
    → IsMember entry (map (λ each. each.0) (filter (λ each. is_unknown each.1) (answered meaning entries)))
    → meaning entry ≡ Unknown
unknown_is meaning [] entry member = absurd member
unknown_is meaning (e ∷ entries) entry member =
    elim (meaning e) as (λ a. meaning e ≡ a → IsMember entry (map (λ each. each.0) (cond (is_unknown a) ((e, a) ∷ filter (λ each. is_unknown each.1) (answered meaning entries)) (filter (λ each. is_unknown each.1) (answered meaning entries)))) → meaning entry ≡ Unknown) [
      | Unknown ↦ λ says m. ⊎_elim (λ same. ap meaning same ∙ says) (λ later. unknown_is meaning entries entry later) m
      | Valid ↦ λ says m. unknown_is meaning entries entry m
      | Invalid ↦ λ says m. unknown_is meaning entries entry m
    ] refl member

-- each entry that the meaning says Unknown of stands among them
among_unknown : (meaning : Entry → Answer) (entries : List Entry) (entry : Entry) → IsMember entry entries
    → meaning entry ≡ Unknown
    → IsMember entry (map (λ each. each.0) (filter (λ each. is_unknown each.1) (answered meaning entries)))
among_unknown meaning [] entry member unknown = absurd member
among_unknown meaning (e ∷ entries) entry member unknown =
    elim (meaning e) as (λ a. meaning e ≡ a → IsMember entry (map (λ each. each.0) (cond (is_unknown a) ((e, a) ∷ filter (λ each. is_unknown each.1) (answered meaning entries)) (filter (λ each. is_unknown each.1) (answered meaning entries))))) [
      | Unknown ↦ λ says. ⊎_elim (λ same. inl same) (λ later. inr (among_unknown meaning entries entry later unknown)) member
      | Valid ↦ λ says. ⊎_elim (λ same. let clash : Unknown ≡ Valid = sym unknown ∙ ap meaning same ∙ says in absurd (cc)) (λ later. among_unknown meaning entries entry later unknown) member
      | Invalid ↦ λ says. ⊎_elim (λ same. let clash : Unknown ≡ Invalid = sym unknown ∙ ap meaning same ∙ says in absurd (cc)) (λ later. among_unknown meaning entries entry later unknown) member
    ] refl

-- hoping for the best of each answer
pub hoped-answered : (meaning later : Entry → Answer) (entries : List Entry)
    → ((entry : Entry) → IsMember entry entries → hoped_answer (meaning entry) ≡ later entry)
    → map (λ each. (each.0, hoped_answer each.1)) (answered meaning entries) ≡ answered later entries
hoped-answered meaning later [] same = refl
hoped-answered meaning later (e ∷ entries) same =
    ap (λ (answer : Answer). (e, answer) ∷ map (λ each. (each.0, hoped_answer each.1)) (answered meaning entries)) (same e (inl refl))
    ∙ ap (λ rest. (e, later e) ∷ rest) (hoped-answered meaning later entries (λ entry member. same entry (inr member)))

module _ (meaning : Entry → Answer) (moment : ℕ) (rrsets : List ReceivedRrset) (contents : TableContents)
    (is : IsTableOf meaning moment rrsets contents) where
  -- the hopeful table is that of any verifier that says the hopeful answers
  pub hopeful_is_table : (later : Entry → Answer)
      → ((entry : Entry) → IsAsked moment rrsets entry → hoped_answer (meaning entry) ≡ later entry)
      → IsTableOf later moment rrsets (hopeful contents)
  hopeful_is_table later same = record {
    of_moment = is.of_moment;
    of_rrsets = is.of_rrsets;
    entries = is.entries;
    rising = is.rising;
    asked = is.asked;
    answers = ap (map (λ (each : Entry × Answer). (each.0, hoped_answer each.1))) is.answers ∙ hoped-answered meaning later is.entries (λ entry member. same entry ((is.asked entry).0 (Contains-from_member is.entries entry member)));
  }

  unknown_among : (entry : Entry) → Contains (unknown_entries contents) entry → meaning entry ≡ Unknown
  unknown_among entry found =
      unknown_is meaning is.entries entry (IsMember-from_contains _ entry (subst (λ (answers : List (Entry × Answer)). Contains (map (λ each. each.0) (filter (λ each. is_unknown each.1) answers)) entry) is.answers found))

  among_unknowns : (entry : Entry) → IsAsked moment rrsets entry → meaning entry ≡ Unknown → Contains (unknown_entries contents) entry
  among_unknowns entry asked unknown =
      let found = Contains-from_member _ entry (among_unknown meaning is.entries entry (IsMember-from_contains is.entries entry ((is.asked entry).1 asked)) unknown) in
      subst (λ (answers : List (Entry × Answer)). Contains (map (λ each. each.0) (filter (λ each. is_unknown each.1) answers)) entry) (sym is.answers) found

  pub later_hoped : (later : Entry → Answer)
      → ((entry : Entry) → Contains (unknown_entries contents) entry → later entry ≡ Valid)
      → ((entry : Entry) → IsAsked moment rrsets entry → (Contains (unknown_entries contents) entry → ⊥) → later entry ≡ meaning entry)
      → (entry : Entry) → IsAsked moment rrsets entry → hoped_answer (meaning entry) ≡ later entry
  later_hoped later turns stays entry asked =
      elim (meaning entry) as (λ a. meaning entry ≡ a → hoped_answer a ≡ later entry) [
        | Unknown ↦ λ says. sym (turns entry (among_unknowns entry asked says))
        | Valid ↦ λ says. sym (stays entry asked (λ found. let clash : Valid ≡ Unknown = sym says ∙ unknown_among entry found in absurd (cc)) ∙ says)
        | Invalid ↦ λ says. sym (stays entry asked (λ found. let clash : Invalid ≡ Unknown = sym says ∙ unknown_among entry found in absurd (cc)) ∙ says)
      ] refl

-- the entries of a part of the answers rise
all_filtered : (P : Entry → Type 0) (test : Entry × Answer → Bool) (answers : List (Entry × Answer))
    → AllByRecursion P (map (λ each. each.0) answers) → AllByRecursion P (map (λ each. each.0) (filter test answers))
all_filtered P test [] each = tt
all_filtered P test (a ∷ answers) each =
    elim (test a) as (λ b. AllByRecursion P (map (λ each. each.0) (cond b (a ∷ filter test answers) (filter test answers)))) [
      | true ↦ (each.0, all_filtered P test answers each.1)
      | false ↦ all_filtered P test answers each.1
    ]

pub rising_filtered : (test : Entry × Answer → Bool) (answers : List (Entry × Answer))
    → IsStrictlySortedBy entry_cmp (map (λ each. each.0) answers)
    → IsStrictlySortedBy entry_cmp (map (λ each. each.0) (filter test answers))
unfolding IsStrictlySortedBy
rising_filtered test [] rising = tt
rising_filtered test (a ∷ answers) rising =
    elim (test a) as (λ b. IsStrictlySortedBy entry_cmp (map (λ each. each.0) (cond b (a ∷ filter test answers) (filter test answers)))) [
      | true ↦ (all_filtered (λ y. entry_cmp a.0 y ≡ Less) test answers rising.0, rising_filtered test answers rising.1)
      | false ↦ rising_filtered test answers rising.1
    ]

-- an Unknown answer has its entry among those that are listed
unknown_first : (unknown : Bool) (a : Entry × Answer) (rest : List (Entry × Answer)) → unknown ≡ true
    → map (λ (each : Entry × Answer). each.0) (cond unknown (a ∷ rest) rest) ≡ [] → ⊥
unknown_first true a rest is none = cc
unknown_first false a rest is none = cc

unknown_later : (unknown : Bool) (a : Entry × Answer) (rest : List (Entry × Answer))
    → map (λ (each : Entry × Answer). each.0) (cond unknown (a ∷ rest) rest) ≡ []
    → map (λ (each : Entry × Answer). each.0) rest ≡ []
unknown_later true a rest none = absurd (cc)
unknown_later false a rest none = none

pub unknown_stands : (answers : List (Entry × Answer)) (i : ℕ) (each : Entry × Answer) → i < length answers
    → each ≡ get_or answers i each → each.1 ≡ Unknown
    → map (λ (each : Entry × Answer). each.0) (filter (λ each. is_unknown each.1) answers) ≡ [] → ⊥
unknown_stands [] i each within is unknown none = absurd (omega (arith, within))
unknown_stands (a ∷ answers) zero each within is unknown none =
    let itself : is_unknown a.1 ≡ true = ap (λ (e : Entry × Answer). is_unknown e.1) (sym is) ∙ ap is_unknown unknown in
    unknown_first (is_unknown a.1) a (filter (λ each. is_unknown each.1) answers) itself none
unknown_stands (a ∷ answers) (suc i) each within is unknown none =
    unknown_stands answers i each (omega (arith, within)) is unknown (unknown_later (is_unknown a.1) a (filter (λ each. is_unknown each.1) answers) none)
