-- A table for a range is the verifier of each of its moments.
use Rattle.std.proofs.Common.{◌≡◌, ◌≤◌, ℕ, Option, List, [], ◌∷◌, refl, sym, ap, ◌∙◌, subst}
use Rattle.std.proofs.lemmas.Map.Keys.{IsDistinct-from_sorted}
use Rattle.std.proofs.lemmas.Map.Views.{lookup-from_Contains}
use Rattle.std.specs.List.{Contains, IsDistinct}
use Rattle.std.specs.Map.{keys_of, lookup}
use Rattle.std.specs.Option.{unwrap_or}
use Rattle.std.specs.Ordering.{eq_by_cmp, is_eq}
use Rattle.dnsv_canonical.proofs.CanonicalLemmas.{IsMember-from_contains, Contains-from_member}
use Rattle.dnsv_canonical.specs.Rrsets.{ReceivedRrset}
use Rattle.dnsv_verifier.proofs.TableLemmas.{answered, keys_of-answered, member-map, same_entry_equiv}
use Rattle.dnsv_verifier.specs.Admissible.{IsAsked}
use Rattle.dnsv_verifier.specs.Entry.{entry_cmp}
use Rattle.dnsv_verifier.specs.Table.{IsTableOf, TableContents, table_answer}
use Rattle.dnsv_verifier.specs.declared.answer.Answer.{Answer}
use Rattle.dnsv_verifier.specs.declared.answer.Answer.TheVariants.{Unknown}
use Rattle.dnsv_verifier.specs.declared.entry.Entry.{Entry}
use Rattle.dnsv_derivations.proofs.lemmas.intervals.MomentLemmas.{is_behind, is_first}
use Rattle.dnsv_verifier.specs.Within.{IsAskedWithin, IsTableWithin}

-- what two meanings say alike of each is the same list
alike : (a b : Entry → Answer) (entries : List Entry) → ((entry : Entry) → Contains entries entry → a entry ≡ b entry)
    → answered a entries ≡ answered b entries
alike a b [] same = refl
alike a b (entry ∷ entries) same =
    let rest : answered a entries ≡ answered b entries =
    alike a b entries (λ each there. same each (is_behind entry entries each there)) in
    let first : a entry ≡ b entry = same entry (is_first entry entries) in
    λ i. (entry, first i) ∷ rest i

-- a table of what one verifier says is that of another that answers alike what is asked
pub table_alike : (a b : Entry → Answer) (moment : ℕ) (rrsets : List ReceivedRrset)
    → ((entry : Entry) → IsAsked moment rrsets entry → a entry ≡ b entry)
    → (contents : TableContents) → IsTableOf a moment rrsets contents → IsTableOf b moment rrsets contents
table_alike a b moment rrsets same contents of = record {
  of_moment = of.of_moment;
  of_rrsets = of.of_rrsets;
  entries = of.entries;
  rising = of.rising;
  asked = of.asked;
  answers = of.answers ∙ alike a b of.entries (λ entry there. same entry ((of.asked entry).0 there));
}

module _ (meaning : Entry → Answer) (from to : ℕ) (rrsets : List ReceivedRrset) (within : TableContents)
    (is : IsTableWithin meaning from to rrsets within) where
  -- it says what the verifier says of each entry that is asked at a moment of the range
  pub says_within : (entry : Entry) → IsAskedWithin from to rrsets entry → table_answer within entry ≡ meaning entry
  says_within entry asked =
      let distinct : IsDistinct (eq_by_cmp entry_cmp) (keys_of (answered meaning is.entries)) =
      subst (IsDistinct (eq_by_cmp entry_cmp)) (sym (keys_of-answered meaning is.entries))
      (IsDistinct-from_sorted entry_cmp is.entries is.asked.rising) in
      let member = IsMember-from_contains is.entries entry ((is.asked.members entry).1 asked) in
      let listed : Contains (answered meaning is.entries) (entry, meaning entry) =
      Contains-from_member (answered meaning is.entries) (entry, meaning entry) (member-map (λ e. (e, meaning e)) is.entries entry member) in
      ap (λ (answers : List (Entry × Answer)). unwrap_or (lookup (λ each. is_eq (entry_cmp entry each)) answers) Unknown) is.answers
      ∙ ap (λ (found : Option Answer). unwrap_or found Unknown)
      (lookup-from_Contains same_entry_equiv entry (meaning entry) (answered meaning is.entries) distinct listed)

  module _ (moment : ℕ) (begins : from ≤ moment) (ends : moment ≤ to) where
    at_moment_of : (entry : Entry) → IsAsked moment rrsets entry → table_answer within entry ≡ meaning entry
    at_moment_of entry asked = says_within entry (record { moment = moment; begins = begins; ends = ends; asked = asked })

    -- asked in the verifier's place, it gives the verifier's table of the moment
    pub table_by_range : (contents : TableContents) → IsTableOf (table_answer within) moment rrsets contents → IsTableOf meaning moment rrsets contents
    table_by_range = table_alike (table_answer within) meaning moment rrsets at_moment_of

    -- and the other way
    pub range_by_table : (contents : TableContents) → IsTableOf meaning moment rrsets contents → IsTableOf (table_answer within) moment rrsets contents
    range_by_table = table_alike meaning (table_answer within) moment rrsets (λ entry asked. sym (at_moment_of entry asked))
