-- A table with answers by number.
use Rattle.std.proofs.Common.{◌≡◌, ◌↔◌, ◌⊎◌, ◌<◌, ◌≤◌, inl, inr, ℕ, List, [], ◌∷◌, Result, Ok, Err, IfErr, Some, None, length, map, refl, sym, ap, ◌∙◌, arith, subst}
use Rattle.std.proofs.lemmas.List.{length-map}
use Rattle.std.proofs.lemmas.Option.{slice_get_past}
use Rattle.std.specs.List.{Contains, zip}
use Rattle.dnsv_canonical.specs.Rrsets.{ReceivedRrset}
use Rattle.dnsv_timeline.specs.Range.{Moments}
use Rattle.dnsv_verifier.specs.Admissible.{IsAsked}
use Rattle.dnsv_verifier.specs.Asked.{IsNumberAsked}
use Rattle.dnsv_verifier.specs.Table.{TableContents, with_answers}
use Rattle.dnsv_verifier.specs.Within.{AreAskedWithin, IsAskedWithin, IsTableWithin}
use Rattle.dnsv_verifier.specs.declared.answer.Answer.{Answer}
use Rattle.dnsv_verifier.specs.declared.answer.Answer.TheVariants.{Unknown}
use Rattle.dnsv_verifier.specs.declared.entry.Entry.{Entry}
use Rattle.dnsv_answers.specs.AnswerFile.{AnswersContents, AreMiscounted, AreSoMany}
use Rattle.dnsv_answers.specs.Answered.{IsAnsweredTableWithin, IsNumberAskedWithin}
use Rattle.dnsv_answers.specs.declared.error.AnswersError.{AnswersError}
use Rattle.dnsv_answers.specs.declared.error.AnswersError.TheVariants.{Count, OutOfMemory}
use Rattle.dnsv_answers.specs.declared.said.SaidAnswer.{SaidAnswer}

same_entries : (entries : List Entry) → map (λ (each : Entry × Answer). each.0) (map (λ entry. (entry, Unknown)) entries) ≡ entries
same_entries [] = refl
same_entries (entry ∷ entries) = ap (λ (rest : List Entry). entry ∷ rest) (same_entries entries)

-- the entries of which nothing is known, with these answers
pub answered_by : (from to : ℕ) (rrsets : List ReceivedRrset) (asked : TableContents) → asked.moment ≡ from
    → IsTableWithin (λ entry. Unknown) from to rrsets asked → (said : List Answer) → length said ≡ length asked.answers
    → IsAnsweredTableWithin from to rrsets said (with_answers asked said)
answered_by from to rrsets asked of_moment is said each = record {
  of_moment = of_moment;
  of_rrsets = is.of_rrsets;
  entries = is.entries;
  asked = is.asked;
  each = each ∙ ap (λ (answers : List (Entry × Answer)). length answers) is.answers ∙ length-map is.entries (λ (entry : Entry). (entry, Unknown));
  answers = ap (λ (entries : List Entry). zip entries said)
      (ap (λ (answers : List (Entry × Answer)). map (λ each. each.0) answers) is.answers ∙ same_entries is.entries);
}

-- ---- how many there are

-- where there are so many, they aren't miscounted
pub none_miscounted : (contents : AnswersContents) (count : ℕ) (fault : AnswersError) → AreSoMany contents count → AreMiscounted contents count fault → ⊥
none_miscounted contents count fault are (inl few) = let less : length contents.said < count = few.0 in omega (arith, are, less)
none_miscounted contents count fault are (inr more) =
    let none = slice_get_past contents.said count (omega (arith, are)) in
    let bad : Some more.0 ≡ None = sym more.1 ∙ none in cc

-- a miscount is told once
pub one_miscount : (contents : AnswersContents) (count : ℕ) (a b : AnswersError) → AreMiscounted contents count a → AreMiscounted contents count b → a ≡ b
one_miscount contents count a b (inl x) (inl y) = x.1 ∙ sym y.1
one_miscount contents count a b (inl x) (inr y) =
    let few : length contents.said < count = x.0 in
    let none = slice_get_past contents.said count (omega (arith, few)) in
    let bad : Some y.0 ≡ None = sym y.1 ∙ none in cc
one_miscount contents count a b (inr x) (inl y) =
    let few : length contents.said < count = y.0 in
    let none = slice_get_past contents.said count (omega (arith, few)) in
    let bad : Some x.0 ≡ None = sym x.1 ∙ none in cc
one_miscount contents count a b (inr x) (inr y) =
    let both : Some x.0 ≡ Some y.0 = sym x.1 ∙ y.1 in
    let same : x.0 ≡ y.0 = cc in
    x.2 ∙ ap (λ (each : SaidAnswer). Count (Some each.line)) same ∙ sym y.2

-- as many are asked as the table has answers, so a fault of the table is one of these
number_asked : (from to : ℕ) (rrsets : List ReceivedRrset) (asked : TableContents) → IsTableWithin (λ entry. Unknown) from to rrsets asked
    → IsNumberAskedWithin from to rrsets (length asked.answers)
number_asked from to rrsets asked is = record {
  entries = is.entries;
  asked = is.asked;
  is = ap (λ (answers : List (Entry × Answer)). length answers) is.answers ∙ length-map is.entries (λ (entry : Entry). (entry, Unknown));
}

pub fault_of_asked : (from to : ℕ) (rrsets : List ReceivedRrset) (asked : TableContents) → IsTableWithin (λ entry. Unknown) from to rrsets asked
    → (contents : AnswersContents) (error : AnswersError) → (error ≡ OutOfMemory) ⊎ AreMiscounted contents (length asked.answers) error
    → (error ≡ OutOfMemory) ⊎ ((count : ℕ) × IsNumberAskedWithin from to rrsets count × AreMiscounted contents count error)
fault_of_asked from to rrsets asked is contents error (inl memory) = inl memory
fault_of_asked from to rrsets asked is contents error (inr miscounted) = inr (length asked.answers, number_asked from to rrsets asked is, miscounted)

-- ---- a range of one moment

-- what is asked at some moment of it is asked at this one
pub asked_then : (moment : ℕ) (rrsets : List ReceivedRrset) (entry : Entry) → IsAskedWithin moment moment rrsets entry ↔ IsAsked moment rrsets entry
asked_then moment rrsets entry =
    let itself : moment ≤ moment = omega arith in (
      λ within.
          let begins = within.begins in
          let ends = within.ends in
          let same : within.moment ≡ moment = omega arith in
          subst (λ m. IsAsked m rrsets entry) same within.asked,
      λ asked. record { moment = moment; begins = itself; ends = itself; asked = asked },
    )

pub are_asked_then : (moment : ℕ) (rrsets : List ReceivedRrset) (entries : List Entry) → AreAskedWithin moment moment rrsets entries
    → (entry : Entry) → Contains entries entry ↔ IsAsked moment rrsets entry
are_asked_then moment rrsets entries are entry =
    let then_ = asked_then moment rrsets entry in
    (λ found. then_.0 ((are.members entry).0 found), λ asked. (are.members entry).1 (then_.1 asked))

-- the number asked within it is that of the moment, and the other way round
pub number_then : (moment : ℕ) (rrsets : List ReceivedRrset) (count : ℕ) → IsNumberAskedWithin moment moment rrsets count → IsNumberAsked moment rrsets count
number_then moment rrsets count within = record {
  entries = within.entries;
  rising = within.asked.rising;
  members = are_asked_then moment rrsets within.entries within.asked;
  is = within.is;
}

pub number_from : (moment : ℕ) (rrsets : List ReceivedRrset) (count : ℕ) → IsNumberAsked moment rrsets count → IsNumberAskedWithin moment moment rrsets count
number_from moment rrsets count asked = record {
  entries = asked.entries;
  asked = record {
    rising = asked.rising;
    members = λ entry.
        let then_ = asked_then moment rrsets entry in
        (λ found. then_.1 ((asked.members entry).0 found), λ within. (asked.members entry).1 (then_.0 within));
  };
  is = asked.is;
}

-- so a fault of it is one of the moment
pub fault_then : {T : Type 0} (moment : ℕ) (rrsets : List ReceivedRrset) (contents : AnswersContents) (range : Moments) (result : Result T AnswersError)
    → range ≡ record { from = moment; to = moment }
    → IfErr result (λ error. (error ≡ OutOfMemory) ⊎ ((count : ℕ) × IsNumberAskedWithin range.from range.to rrsets count × AreMiscounted contents count error))
    → IfErr result (λ error. (error ≡ OutOfMemory) ⊎ ((count : ℕ) × IsNumberAsked moment rrsets count × AreMiscounted contents count error))
fault_then moment rrsets contents range (Ok table) one fault = tt
fault_then moment rrsets contents range (Err error) one (inl memory) = inl memory
fault_then moment rrsets contents range (Err error) one (inr (count, asked, miscounted)) =
    inr (count, number_then moment rrsets count (subst (λ (r : Moments). IsNumberAskedWithin r.from r.to rrsets count) one asked), miscounted)
