-- A table of answers is what a verifier says, and there is one for the answers.
use Rattle.std.proofs.Common.{◌≡◌, ℕ, List, [], ◌∷◌, Option, length, map, refl, sym, ap, ◌∙◌, subst, inl, inr, arith}
use Rattle.std.proofs.lemmas.Map.Keys.{IsDistinct-from_sorted}
use Rattle.std.proofs.lemmas.Map.Views.{lookup-from_Contains}
use Rattle.std.specs.List.{IsDistinct, zip}
use Rattle.std.specs.Map.{keys_of, lookup}
use Rattle.std.specs.Option.{unwrap_or}
use Rattle.std.specs.Ordering.{eq_by_cmp, is_eq}
use Rattle.dnsv_canonical.specs.Rrsets.{ReceivedRrset}
use Rattle.dnsv_canonical.proofs.CanonicalLemmas.{Contains-from_member, IsMember, IsMember-from_contains, rising_unique}
use Rattle.dnsv_verifier.specs.Asked.{IsNumberAsked}
use Rattle.dnsv_verifier.specs.Entry.{entry_cmp}
use Rattle.dnsv_verifier.specs.EntryLaws.{entry_cmp_total, entry_Equal}
use Rattle.dnsv_verifier.specs.Table.{IsTableOf, TableContents, table_answer}
use Rattle.dnsv_verifier.specs.Within.{AreAskedWithin, IsTableWithin}
use Rattle.dnsv_verifier.specs.declared.answer.Answer.{Answer}
use Rattle.dnsv_verifier.specs.declared.answer.Answer.TheVariants.{Unknown}
use Rattle.dnsv_verifier.specs.declared.entry.Entry.{Entry}
use Rattle.dnsv_verifier.proofs.TableLemmas.{same_entry_equiv}
use Rattle.dnsv_answers.specs.Answered.{IsAnsweredTable, IsAnsweredTableWithin, IsNumberAskedWithin}
use Rattle.dnsv_answers.proofs.AnsweredLemmas.{are_asked_then, number_from}

-- what is listed for the entry, Unknown where nothing is
abbrev listed : List (Entry × Answer) → Entry → Answer
listed all entry = unwrap_or (lookup (λ each. is_eq (entry_cmp entry each)) all) Unknown

module _ (all : List (Entry × Answer)) (distinct : IsDistinct (eq_by_cmp entry_cmp) (keys_of all)) where
  looked_up : (entry : Entry) (answer : Answer) → IsMember (entry, answer) all → answer ≡ listed all entry
  looked_up entry answer member =
      sym (ap (λ (found : Option Answer). unwrap_or found Unknown)
      (lookup-from_Contains same_entry_equiv entry answer all distinct (Contains-from_member all (entry, answer) member)))

  each_looked_up : (entries : List Entry) (said : List Answer) → length said ≡ length entries
      → ((pair : Entry × Answer) → IsMember pair (zip entries said) → IsMember pair all)
      → zip entries said ≡ map (λ entry. (entry, listed all entry)) entries
  each_looked_up [] said each among = refl
  each_looked_up (entry ∷ entries) [] each among = absurd (omega (arith, each))
  each_looked_up (entry ∷ entries) (answer ∷ said) each among =
      λ i. (entry, looked_up entry answer (among (entry, answer) (inl refl)) i)
      ∷ each_looked_up entries said (omega (arith, each)) (λ pair there. among pair (inr there)) i

keys_zipped : (entries : List Entry) (said : List Answer) → length said ≡ length entries → keys_of (zip entries said) ≡ entries
keys_zipped [] said each = refl
keys_zipped (entry ∷ entries) [] each = absurd (omega (arith, each))
keys_zipped (entry ∷ entries) (answer ∷ said) each = ap (λ (rest : List Entry). entry ∷ rest) (keys_zipped entries said (omega (arith, each)))

-- two rising lists of what is asked are one
one_list_asked : (from to : ℕ) (rrsets : List ReceivedRrset) (a b : List Entry) → AreAskedWithin from to rrsets a → AreAskedWithin from to rrsets b → a ≡ b
one_list_asked from to rrsets a b are also =
    rising_unique entry_cmp entry_cmp_total entry_Equal a b are.rising also.rising
    (λ entry member. IsMember-from_contains b entry ((also.members entry).1 ((are.members entry).0 (Contains-from_member a entry member))))
    (λ entry member. IsMember-from_contains a entry ((are.members entry).1 ((also.members entry).0 (Contains-from_member b entry member))))

module _ (from to : ℕ) (rrsets : List ReceivedRrset) (said : List Answer) (table : TableContents) (is : IsAnsweredTableWithin from to rrsets said table) where
  -- it is the table of what it says
  pub answered_within : IsTableWithin (table_answer table) from to rrsets table
  answered_within =
      let pairs = zip is.entries said in
      let distinct : IsDistinct (eq_by_cmp entry_cmp) (keys_of pairs) =
      subst (IsDistinct (eq_by_cmp entry_cmp)) (sym (keys_zipped is.entries said is.each)) (IsDistinct-from_sorted entry_cmp is.entries is.asked.rising) in record {
        of_rrsets = is.of_rrsets;
        entries = is.entries;
        asked = is.asked;
        answers = is.answers
            ∙ each_looked_up pairs distinct is.entries said is.each (λ pair there. there)
            ∙ ap (λ (all : List (Entry × Answer)). map {B = Entry × Answer} (λ entry. (entry, listed all entry)) is.entries) (sym is.answers);
      }

  -- there are as many answers as entries
  pub answered_count_within : (count : ℕ) → IsNumberAskedWithin from to rrsets count → length said ≡ count
  answered_count_within count asked =
      is.each
      ∙ ap (λ (entries : List Entry). length entries) (one_list_asked from to rrsets is.entries asked.entries is.asked asked.asked)
      ∙ sym asked.is

  pub one_answered_within : (other : TableContents) → IsAnsweredTableWithin from to rrsets said other → table ≡ other
  one_answered_within other its =
      let entries = one_list_asked from to rrsets is.entries its.entries is.asked its.asked in
      let answers : table.answers ≡ other.answers = is.answers ∙ ap (λ (each : List Entry). zip each said) entries ∙ sym its.answers in
      λ i. record { moment = (is.of_moment ∙ sym its.of_moment) i; rrsets = (is.of_rrsets ∙ sym its.of_rrsets) i; answers = answers i }

pub one_number_within : (from to : ℕ) (rrsets : List ReceivedRrset) (a b : ℕ) → IsNumberAskedWithin from to rrsets a → IsNumberAskedWithin from to rrsets b → a ≡ b
one_number_within from to rrsets a b x y =
    x.is
    ∙ ap (λ (entries : List Entry). length entries) (one_list_asked from to rrsets x.entries y.entries x.asked y.asked)
    ∙ sym y.is

-- ---- one moment

module _ (moment : ℕ) (rrsets : List ReceivedRrset) (said : List Answer) (table : TableContents) (is : IsAnsweredTable moment rrsets said table) where
  pub answered_is_table : IsTableOf (table_answer table) moment rrsets table
  answered_is_table =
      let within = answered_within moment moment rrsets said table is in
      record {
        of_moment = is.of_moment;
        of_rrsets = is.of_rrsets;
        entries = within.entries;
        rising = within.asked.rising;
        asked = are_asked_then moment rrsets within.entries within.asked;
        answers = within.answers;
      }

  pub answered_count : (count : ℕ) → IsNumberAsked moment rrsets count → length said ≡ count
  answered_count count asked = answered_count_within moment moment rrsets said table is count (number_from moment rrsets count asked)

  pub one_answered_table : (other : TableContents) → IsAnsweredTable moment rrsets said other → table ≡ other
  one_answered_table other its = one_answered_within moment moment rrsets said table is other its
