-- What the verifier doesn't know, in order.
use Rattle.std.proofs.Common.{ℕ, ◌≡◌, ◌⊎◌, List, [], ◌∷◌, map, cond, refl, sym, ap, ◌∙◌, subst, inl, inr, ⊎_elim}
use Rattle.std.specs.Prelude.{filter}
use Rattle.std.specs.List.Sorted.{IsStrictlySortedBy}
use Rattle.dnsv_canonical.specs.Rrsets.{ReceivedRrset}
use Rattle.dnsv_canonical.proofs.CanonicalLemmas.{rising_unique, IsMember, Contains-from_member, IsMember-from_contains}
use Rattle.dnsv_verifier.specs.Entry.{entry_cmp}
use Rattle.dnsv_verifier.specs.EntryLaws.{entry_cmp_total, entry_Equal}
use Rattle.dnsv_verifier.specs.Table.{IsTableOf, TableContents, is_unknown, unknown_entries}
use Rattle.dnsv_verifier.specs.declared.answer.Answer.{Answer}
use Rattle.dnsv_verifier.specs.declared.answer.Answer.TheVariants.{Valid, Invalid, Unknown}
use Rattle.dnsv_verifier.specs.declared.entry.Entry.{Entry}
use Rattle.dnsv_verdict.specs.Verdict.{AreUnknown}
use Rattle.dnsv_chain.specs.Basis.{Basis}

-- there is one such list
pub one_unknown : (basis : Basis) (xs ys : List Entry) → AreUnknown basis xs → AreUnknown basis ys → xs ≡ ys
one_unknown basis xs ys first second =
    rising_unique entry_cmp entry_cmp_total entry_Equal xs ys first.rising second.rising
    (λ x m. IsMember-from_contains ys x ((second.members x).1 ((first.members x).0 (Contains-from_member xs x m))))
    (λ x m. IsMember-from_contains xs x ((first.members x).1 ((second.members x).0 (Contains-from_member ys x m))))

-- ---- the unknown entries of a table

-- with what its answer is, an entry more
abbrev OneMore : Entry → Answer → List Entry → List Entry
OneMore e answer rest = cond (is_unknown answer) (e ∷ rest) rest

abbrev Unknowns : (Entry → Answer) → List Entry → List Entry
Unknowns meaning entries =
    map (λ (each : Entry × Answer). each.0) (filter (λ (each : Entry × Answer). is_unknown each.1) (map (λ entry. (entry, meaning entry)) entries))

one_more : (meaning : Entry → Answer) (e : Entry) (entries : List Entry) (answer : Answer)
    → map (λ (each : Entry × Answer). each.0) (cond (is_unknown answer) ((e, answer) ∷ filter (λ each. is_unknown each.1) (map (λ entry. (entry, meaning entry)) entries)) (filter (λ each. is_unknown each.1) (map (λ entry. (entry, meaning entry)) entries)))
    ≡ OneMore e answer (Unknowns meaning entries)
one_more meaning e entries Valid = refl
one_more meaning e entries answer = refl

member_in : (e entry : Entry) (answer : Answer) (rest : List Entry) → ((entry ≡ e) × (answer ≡ Unknown)) ⊎ IsMember entry rest
    → IsMember entry (OneMore e answer rest)
member_in e entry Unknown rest (inl here) = inl here.0
member_in e entry Unknown rest (inr later) = inr later
member_in e entry answer rest (inl here) = cc
member_in e entry answer rest (inr later) = later

member_out : (e entry : Entry) (answer : Answer) (rest : List Entry) → IsMember entry (OneMore e answer rest)
    → ((entry ≡ e) × (answer ≡ Unknown)) ⊎ IsMember entry rest
member_out e entry Unknown rest (inl here) = inl (here, refl)
member_out e entry Unknown rest (inr later) = inr later
member_out e entry Valid rest later = inr later
member_out e entry Invalid rest later = inr later

unknown_in : (meaning : Entry → Answer) (entries : List Entry) (entry : Entry) → IsMember entry entries → meaning entry ≡ Unknown
    → IsMember entry (Unknowns meaning entries)
unknown_in meaning [] entry member unknown = absurd member
unknown_in meaning (e ∷ entries) entry member unknown =
    subst (λ xs. IsMember entry xs) (sym (one_more meaning e entries (meaning e)))
    (member_in e entry (meaning e) (Unknowns meaning entries)
    (⊎_elim (λ (same : entry ≡ e). inl (same, ap meaning (sym same) ∙ unknown))
    (λ (later : IsMember entry entries). inr (unknown_in meaning entries entry later unknown)) member))

unknown_out : (meaning : Entry → Answer) (entries : List Entry) (entry : Entry) → IsMember entry (Unknowns meaning entries)
    → IsMember entry entries × (meaning entry ≡ Unknown)
unknown_out meaning [] entry member = absurd member
unknown_out meaning (e ∷ entries) entry member =
    ⊎_elim (λ (here : (entry ≡ e) × (meaning e ≡ Unknown)). (inl here.0, ap meaning here.0 ∙ here.1))
    (λ (later : IsMember entry (Unknowns meaning entries)). let rest = unknown_out meaning entries entry later in (inr rest.0, rest.1))
    (member_out e entry (meaning e) (Unknowns meaning entries) (subst (λ xs. IsMember entry xs) (one_more meaning e entries (meaning e)) member))

-- those of a table are what its verifier is asked and doesn't know
pub table_unknown : (basis : Basis) (contents : TableContents) → IsTableOf basis.meaning basis.moment basis.rrsets contents
    → (xs : List Entry) → xs ≡ unknown_entries contents → IsStrictlySortedBy entry_cmp xs → AreUnknown basis xs
table_unknown basis contents is xs of rising =
    let same : xs ≡ Unknowns basis.meaning is.entries = of
    ∙ ap (λ answers. map (λ (each : Entry × Answer). each.0) (filter (λ (each : Entry × Answer). is_unknown each.1) answers)) is.answers in record {
      rising = rising;
      members = λ entry. (
        λ found. let out = unknown_out basis.meaning is.entries entry (subst (λ ys. IsMember entry ys) same (IsMember-from_contains xs entry found)) in
            ((is.asked entry).0 (Contains-from_member is.entries entry out.0), out.1),
        λ asked. Contains-from_member xs entry
            (subst (λ ys. IsMember entry ys) (sym same) (unknown_in basis.meaning is.entries entry (IsMember-from_contains is.entries entry ((is.asked entry).1 asked.0)) asked.1)),
      );
    }

-- where a table has none, none is what its verifier doesn't know
pub none_unknown : (basis : Basis) (contents : TableContents) → IsTableOf basis.meaning basis.moment basis.rrsets contents
    → unknown_entries contents ≡ [] → AreUnknown basis []
unfolding IsStrictlySortedBy
none_unknown basis contents is none = table_unknown basis contents is [] (sym none) tt

-- a table that was made as the hopeful one is that of the hopeful verifier
pub hoped_table : (hoped : Entry → Answer) (moment : ℕ) (rrsets : List ReceivedRrset) {made table : TableContents} → made ≡ table
    → IsTableOf hoped moment rrsets table → IsTableOf hoped moment rrsets made
hoped_table hoped moment rrsets is of_table = subst (λ each. IsTableOf hoped moment rrsets each) (sym is) of_table
