-- What statements say, kept in a list that rises and in a tree.
use Rattle.std.proofs.Common.{◌≡◌, ◌+◌, ◌-◌, inl, inr, List, [], ◌∷◌, ◌++◌, length, get_or, map, refl, sym, ap, ◌∙◌, subst, arith, Bool, true, false, cond, Option, Some, None}
use Rattle.std.proofs.lemmas.Bool.{cases_lt}
use Rattle.std.proofs.lemmas.Cmp.{tied_itself}
use Rattle.std.proofs.lemmas.List.{append-nil, append_assoc, get_or_append_left, get_or_push, length_push, map-append}
use Rattle.std.proofs.lemmas.Map.Keys.{Less-from_sorted, sorted_from_all_adjacent}
use Rattle.std.proofs.lemmas.Map.Views.{All-before_last}
use Rattle.std.specs.List.{Contains}
use Rattle.std.specs.List.Sorted.{IsStrictlySortedBy}
use Rattle.std.specs.Ordering.{is_eq, ordering_reverse}
use Rattle.std.specs.declared.cmp.Ordering.{Ordering}
use Rattle.std.specs.declared.cmp.Ordering.TheVariants.{Less, Equal}
use Rattle.dnsv_verifier.specs.Entry.{entry_cmp}
use Rattle.dnsv_verifier.specs.EntryLaws.{entry_cmp_total, entry_Equal}
use Rattle.dnsv_statements.specs.Statements.{other_word}
use Rattle.dnsv_statements.specs.StatementsReading.{IsBehind, Lists, said_in}
use Rattle.dnsv_verifier.specs.declared.entry.Entry.{Entry}
use Rattle.dnsv_statements.specs.declared.statements.statement.Word.{Word}
use Rattle.dnsv_statements.specs.declared.statements.statement.Word.TheVariants.{Good, Bad}
use Rattle.dnsv_statements.proofs.StatementsLemmas.{is_eq_is}
use Rattle.dnsv_verifier.proofs.SearchLemmas.{not_listed, pairs_again}

abbrev pub entries_of : List (Entry × Word) → List Entry
entries_of said = map (λ each. each.0) said

is_eq-reverse : (o : Ordering) → is_eq (ordering_reverse o) ≡ is_eq o
is_eq-reverse Less = refl
is_eq-reverse o = refl

tied_back : (a b : Entry) → is_eq (entry_cmp a b) ≡ is_eq (entry_cmp b a)
tied_back a b = ap is_eq (entry_cmp_total.antisymm a b) ∙ is_eq-reverse (entry_cmp b a)

-- the same is said behind the same front
said_behind : (front xs ys : List (Entry × Word)) (each : Entry) → said_in xs each ≡ said_in ys each
    → said_in (front ++ xs) each ≡ said_in (front ++ ys) each
said_behind [] xs ys each same = same
said_behind (first ∷ front) xs ys each same =
    ap (λ (rest : Option Word). cond (is_eq (entry_cmp each first.0)) (Some first.1) rest) (said_behind front xs ys each same)

skip : (b : Bool) (word : Word) (rest whole behind : Option Word) → cond b (Some word) rest ≡ None
    → (rest ≡ None → whole ≡ behind) → cond b (Some word) whole ≡ behind
skip true word rest whole behind none next = cc
skip false word rest whole behind none next = next none

-- behind what says nothing of it
none_before : (front xs : List (Entry × Word)) (each : Entry) → said_in front each ≡ None
    → said_in (front ++ xs) each ≡ said_in xs each
none_before [] xs each none = refl
none_before (first ∷ front) xs each none =
    skip (is_eq (entry_cmp each first.0)) first.1 (said_in front each) (said_in (front ++ xs) each) (said_in xs each) none
    (λ rest. none_before front xs each rest)

-- a statement more at the front of a tree's
updated : (tree new : List (Entry × Word)) (entry : Entry) (word : Word) (each : Entry)
    → said_in new each ≡ cond (is_eq (entry_cmp entry each)) (Some word) (said_in tree each)
    → said_in new each ≡ said_in ((entry, word) ∷ tree) each
updated tree new entry word each updates =
    updates ∙ ap (λ b. cond b (Some word) (said_in tree each)) (tied_back entry each)

-- the last of a list is put into a tree
pub moved : (front tree new : List (Entry × Word)) (entry : Entry) (word : Word)
    → ((each : Entry) → said_in new each ≡ cond (is_eq (entry_cmp entry each)) (Some word) (said_in tree each))
    → (each : Entry) → said_in (front ++ new) each ≡ said_in ((front ++ (entry, word) ∷ []) ++ tree) each
moved front tree new entry word updates each =
    said_behind front new ((entry, word) ∷ tree) each (updated tree new entry word each (updates each))
    ∙ ap (λ (all : List (Entry × Word)). said_in all each) (sym (append_assoc front ((entry, word) ∷ []) tree))

-- an entry behind the last keeps the order
pub rising_more : (entries : List Entry) (entry : Entry) → IsStrictlySortedBy entry_cmp entries → IsBehind entries entry
    → IsStrictlySortedBy entry_cmp (entries ++ entry ∷ [])
rising_more entries entry rising behind =
    sorted_from_all_adjacent entry_cmp_total (entries ++ entry ∷ []) entry (λ k within.
    let count = length_push entries entry in
    elim (cases_lt (k + 1) (length entries)) [
      | inl inside ↦
          let here = get_or_append_left entries (entry ∷ []) entry k (omega (arith, inside)) in
          let next = get_or_append_left entries (entry ∷ []) entry (k + 1) inside in
          rw (here, next) (Less-from_sorted entry_cmp entries k (k + 1) entry rising (omega (arith, inside)) inside)
      | inr last ↦
          let here = get_or_append_left entries (entry ∷ []) entry k (omega (arith, count, within)) in
          let next = get_or_push entries entry entry (k + 1) (omega (arith, count, within, last)) in
          let place : length entries - 1 ≡ k = omega (arith, count, within, last) in
          rw (here, next) (subst (λ n. entry_cmp (get_or entries n entry) entry ≡ Less) place (behind entry (omega (arith, count, within, last))))
    ])

-- what is behind the last is new
pub new_behind : (said : List (Entry × Word)) (entry : Entry) → IsStrictlySortedBy entry_cmp (entries_of said ++ entry ∷ [])
    → said_in said entry ≡ None
new_behind said entry rising =
    let missing : Contains (entries_of said) entry → ⊥ = λ listed.
    let less : entry_cmp (get_or (entries_of said) listed.0 entry) entry ≡ Less = All-before_last entry_cmp (entries_of said) entry rising listed.0 entry listed.1 in
    let tied : entry_cmp (get_or (entries_of said) listed.0 entry) entry ≡ Equal = ap (λ e. entry_cmp e entry) listed.2 ∙ tied_itself entry_cmp_total entry in
    let clash : Less ≡ Equal = sym less ∙ tied in cc in
    ap (λ (all : List (Entry × Word)). said_in all entry) (sym (pairs_again said))
    ∙ not_listed entry_cmp entry_cmp_total entry_Equal (λ (each : Entry × Word). each.0) (λ (each : Entry × Word). each.1) said entry missing

one_said : (entry : Entry) (word : Word) → said_in ((entry, word) ∷ []) entry ≡ Some word
one_said entry word =
    let tied : is_eq (entry_cmp entry entry) ≡ true = ap is_eq (tied_itself entry_cmp_total entry) in
    ap (λ b. cond b (Some word) None) tied

none_more : (entry : Entry) (word : Word) (each : Entry) → is_eq (entry_cmp entry each) ≡ false
    → said_in ((entry, word) ∷ []) each ≡ None
none_more entry word each apart = ap (λ b. cond b (Some word) None) (sym (tied_back entry each) ∙ apart)

-- a new statement at the end
said_push : (said : List (Entry × Word)) (entry : Entry) (word : Word) → said_in said entry ≡ None → (each : Entry) (b : Bool)
    → is_eq (entry_cmp entry each) ≡ b → said_in (said ++ (entry, word) ∷ []) each ≡ cond b (Some word) (said_in said each)
said_push said entry word none each true tied =
    let same : entry ≡ each = entry_Equal entry each (is_eq_is (entry_cmp entry each) tied) in
    subst (λ e. said_in (said ++ (entry, word) ∷ []) e ≡ Some word) same (none_before said ((entry, word) ∷ []) entry none ∙ one_said entry word)
said_push said entry word none each false apart =
    said_behind said ((entry, word) ∷ []) [] each (none_more entry word each apart)
    ∙ ap (λ (all : List (Entry × Word)). said_in all each) (append-nil said)

no_word : (word : Word) → None ≡ Some word → ⊥
no_word word e = cc

-- a statement behind the last, where the tree is empty
pub lists_behind : (said tree : List (Entry × Word)) (entry : Entry) (word : Word) → length tree ≡ 0
    → IsStrictlySortedBy entry_cmp (entries_of said) → IsBehind (entries_of said) entry
    → Lists entry word (said ++ tree) ((said ++ (entry, word) ∷ []) ++ tree)
lists_behind said [] entry word none rising behind =
    let fresh = new_behind said entry (rising_more (entries_of said) entry rising behind) in
    record {
      free = λ e. no_word (other_word word) (sym fresh ∙ ap (λ (all : List (Entry × Word)). said_in all entry) (sym (append-nil said)) ∙ e);
      updates = λ each.
          ap (λ (all : List (Entry × Word)). said_in all each) (append-nil (said ++ (entry, word) ∷ []))
          ∙ said_push said entry word fresh each (is_eq (entry_cmp entry each)) refl
          ∙ ap (λ (all : List (Entry × Word)). cond (is_eq (entry_cmp entry each)) (Some word) (said_in all each)) (sym (append-nil said));
    }
lists_behind said (first ∷ tree) entry word none rising behind = absurd (omega (arith, none))

-- and it is called by no word yet
pub fresh_behind : (said tree : List (Entry × Word)) (entry : Entry) (word : Word) → length tree ≡ 0
    → IsStrictlySortedBy entry_cmp (entries_of said) → IsBehind (entries_of said) entry
    → said_in (said ++ tree) entry ≡ Some (other_word word) → ⊥
fresh_behind said tree entry word none rising behind e = (lists_behind said tree entry word none rising behind).free e

-- what is said first stays
found_before : (front xs : List (Entry × Word)) (each : Entry) (word : Word) → said_in front each ≡ Some word
    → said_in (front ++ xs) each ≡ Some word
found_before [] xs each word found = cc
found_before (first ∷ front) xs each word found =
    elim (is_eq (entry_cmp each first.0)) as (λ b. cond b (Some first.1) (said_in front each) ≡ Some word → cond b (Some first.1) (said_in (front ++ xs) each) ≡ Some word) [
      | true ↦ λ here. here
      | false ↦ λ later. found_before front xs each word later
    ] found

some_same : (a b : Word) → Some a ≡ Some b → a ≡ b
some_same a b e = cc

words_apart : (word : Word) → word ≡ other_word word → ⊥
words_apart Good e = cc
words_apart Bad e = cc

again : (said : List (Entry × Word)) (entry : Entry) (word : Word) (each : Entry) (b : Bool) → said_in said entry ≡ Some word
    → is_eq (entry_cmp entry each) ≡ b → said_in said each ≡ cond b (Some word) (said_in said each)
again said entry word each true found tied =
    subst (λ e. said_in said e ≡ Some word) (entry_Equal entry each (is_eq_is (entry_cmp entry each) tied)) found
again said entry word each false found apart = refl

same_of_two : (said word : Word) → (said ≡ other_word word → ⊥) → said ≡ word
same_of_two Good Good apart = refl
same_of_two Good Bad apart = absurd (apart refl)
same_of_two Bad Good apart = absurd (apart refl)
same_of_two Bad Bad apart = refl

-- a statement that is listed already
pub lists_again : (said tree : List (Entry × Word)) (entry : Entry) (word was : Word) → said_in said entry ≡ Some was
    → (was ≡ other_word word → ⊥) → Lists entry word (said ++ tree) (said ++ tree)
lists_again said tree entry word was found apart =
    let same : was ≡ word = same_of_two was word apart in
    let all : said_in (said ++ tree) entry ≡ Some word = found_before said tree entry was found ∙ ap Some same in
    record {
      free = λ e. words_apart word (some_same word (other_word word) (sym all ∙ e));
      updates = λ each. again (said ++ tree) entry word each (is_eq (entry_cmp entry each)) all refl;
    }

in_tree : (said tree new : List (Entry × Word)) (entry : Entry) (word : Word) → said_in said entry ≡ None → (each : Entry) (b : Bool)
    → is_eq (entry_cmp entry each) ≡ b → said_in new each ≡ cond b (Some word) (said_in tree each)
    → said_in (said ++ new) each ≡ cond b (Some word) (said_in (said ++ tree) each)
in_tree said tree new entry word none each true tied updates =
    let same : entry ≡ each = entry_Equal entry each (is_eq_is (entry_cmp entry each) tied) in
    none_before said new each (subst (λ e. said_in said e ≡ None) same none) ∙ updates
in_tree said tree new entry word none each false apart updates = said_behind said new tree each updates

-- a statement that the list lacks is put into the tree, which doesn't contradict it
pub lists_in_tree : (said tree new : List (Entry × Word)) (entry : Entry) (word : Word) → said_in said entry ≡ None
    → (said_in tree entry ≡ Some (other_word word) → ⊥)
    → ((each : Entry) → said_in new each ≡ cond (is_eq (entry_cmp entry each)) (Some word) (said_in tree each))
    → Lists entry word (said ++ tree) (said ++ new)
lists_in_tree said tree new entry word none free updates =
    record {
      free = λ e. free (sym (none_before said tree entry none) ∙ e);
      updates = λ each. in_tree said tree new entry word none each (is_eq (entry_cmp entry each)) refl (updates each);
    }

-- what is called by the other word
pub listed_before : (said tree : List (Entry × Word)) (entry : Entry) (word : Word) → said_in said entry ≡ Some word
    → said_in (said ++ tree) entry ≡ Some word
listed_before said tree entry word found = found_before said tree entry word found

pub listed_behind : (said tree : List (Entry × Word)) (entry : Entry) → said_in said entry ≡ None
    → said_in (said ++ tree) entry ≡ said_in tree entry
listed_behind said tree entry none = none_before said tree entry none

-- and it rises
pub rising_behind : (said : List (Entry × Word)) (entry : Entry) (word : Word) → IsStrictlySortedBy entry_cmp (entries_of said)
    → IsBehind (entries_of said) entry → IsStrictlySortedBy entry_cmp (entries_of (said ++ (entry, word) ∷ []))
rising_behind said entry word rising behind =
    subst (IsStrictlySortedBy entry_cmp) (sym (map-append (λ (each : Entry × Word). each.0) said ((entry, word) ∷ [])))
    (rising_more (entries_of said) entry rising behind)

-- ---- the beginning and the end

pub nothing_said : (said tree : List (Entry × Word)) → said ≡ [] → tree ≡ [] → said ++ tree ≡ []
nothing_said said tree none empty = λ i. none i ++ empty i

pub nothing_rises : (said : List (Entry × Word)) → said ≡ [] → IsStrictlySortedBy entry_cmp (entries_of said)
unfolding IsStrictlySortedBy
nothing_rises said none = subst (λ (all : List (Entry × Word)). IsStrictlySortedBy entry_cmp (entries_of all)) (sym none) tt

-- an empty tree says nothing more
pub without_tree : (said tree : List (Entry × Word)) → length tree ≡ 0 → (each : Entry) → said_in said each ≡ said_in (said ++ tree) each
without_tree said [] none each = ap (λ (all : List (Entry × Word)). said_in all each) (sym (append-nil said))
without_tree said (first ∷ tree) none each = absurd (omega (arith, none))

-- an empty list is that of an empty tree
pub none_in_tree : (tree listed : List (Entry × Word)) → listed ≡ [] → length tree ≡ 0 → listed ≡ tree
none_in_tree [] listed none empty = none
none_in_tree (first ∷ tree) listed none empty = absurd (omega (arith, empty))

pub empty_list : (said : List (Entry × Word)) → length said ≡ 0 → said ≡ []
empty_list [] empty = refl
empty_list (first ∷ said) empty = absurd (omega (arith, empty))
