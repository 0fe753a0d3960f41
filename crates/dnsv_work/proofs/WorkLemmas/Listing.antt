-- What a verifier still has to check is asked.
use Rattle.std.proofs.Common.{◌≡◌, ◌⊎◌, ◌∙◌, ℕ, Bool, true, false, List, [], ◌∷◌, ap, cond, inl, inr, map, refl, subst, ⊎_elim}
use Rattle.std.specs.Prelude.{Contains, filter}
use Rattle.dnsv_canonical.specs.Rrsets.{ReceivedRrset}
use Rattle.dnsv_canonical.proofs.CanonicalLemmas.{Contains-from_member, IsMember, IsMember-from_contains}
use Rattle.dnsv_verifier.specs.Table.{TableContents, is_unknown, unknown_entries}
use Rattle.dnsv_verifier.specs.Within.{IsAskedWithin, IsTableWithin}
use Rattle.dnsv_verifier.specs.declared.answer.Answer.{Answer}
use Rattle.dnsv_verifier.specs.declared.entry.Entry.{Entry}

abbrev firsts : List (Entry × Answer) → List Entry
firsts pairs = map (λ (each : Entry × Answer). each.0) pairs

among : (unknown : Bool) (pair : Entry × Answer) (rest : List (Entry × Answer)) (entry : Entry) → IsMember entry (firsts (cond unknown (pair ∷ rest) rest))
    → (entry ≡ pair.0) ⊎ IsMember entry (firsts rest)
among true pair rest entry member = member
among false pair rest entry member = inr member

unknown_among : (pairs : List (Entry × Answer)) (entry : Entry) → IsMember entry (firsts (filter (λ (each : Entry × Answer). is_unknown each.1) pairs)) → IsMember entry (firsts pairs)
unknown_among [] entry member = absurd member
unknown_among (pair ∷ pairs) entry member =
    ⊎_elim (λ (here : entry ≡ pair.0). inl here)
    (λ (later : IsMember entry (firsts (filter (λ (each : Entry × Answer). is_unknown each.1) pairs))). inr (unknown_among pairs entry later))
    (among (is_unknown pair.1) pair (filter (λ (each : Entry × Answer). is_unknown each.1) pairs) entry member)

firsts_of : (meaning : Entry → Answer) (entries : List Entry) → firsts (map (λ (entry : Entry). (entry, meaning entry)) entries) ≡ entries
firsts_of meaning [] = refl
firsts_of meaning (entry ∷ entries) = ap (λ (rest : List Entry). entry ∷ rest) (firsts_of meaning entries)

-- each entry that a table has as unknown is asked
pub unknown_asked : (meaning : Entry → Answer) (from to : ℕ) (rrsets : List ReceivedRrset) (table : TableContents) → IsTableWithin meaning from to rrsets table
    → (unknown : List Entry) → unknown ≡ unknown_entries table → (entry : Entry) → Contains unknown entry → IsAskedWithin from to rrsets entry
unknown_asked meaning from to rrsets table is unknown are entry found =
    let member = IsMember-from_contains (unknown_entries table) entry (subst (λ (each : List Entry). Contains each entry) are found) in
    let listed = subst (λ (each : List Entry). IsMember entry each) (ap firsts is.answers ∙ firsts_of meaning is.entries) (unknown_among table.answers entry member) in
    (is.asked.members entry).0 (Contains-from_member is.entries entry listed)
