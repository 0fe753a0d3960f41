-- What a message adds to the evidence.
use Rattle.std.proofs.Common.{◌≡◌, ◌⊎◌, inl, inr, ⊎_elim, ℕ, zero, suc, ◌+◌, ◌-◌, ◌<◌, ◌≤◌, Bool, true, false, cond, List, [], ◌∷◌, ◌++◌, length, get_or, map, refl, sym, ap, ◌∙◌, subst, arith, ◌↔◌, IsTrue}
use Rattle.std.proofs.lemmas.List.{append-nil}
use Rattle.std.proofs.lemmas.Bool.{eqb-true, false≢true}
use Rattle.std.proofs.lemmas.Cmp.{nat_eq_equiv}
use Rattle.std.specs.Prelude.{filter, flat_map, ◌==◌}
use Rattle.std.specs.List.{AllByRecursion, AllZip, enumerate_from}
use Rattle.dnsv_message.specs.declared.record.Record.{Record}
use Rattle.dnsv_message.specs.declared.record.Section.TheVariants.{Answer, Authority, Additional}
use Rattle.dnsv_message.specs.Message.{Contents, records_of}
use Rattle.dnsv_names.specs.PartLaws.{recursion-append}
use Rattle.dnsv_records.specs.declared.nsec3.Nsec3Parameters.{Nsec3Parameters}
use Rattle.dnsv_records.specs.declared.rrsig.Rrsig.{Rrsig}
use Rattle.dnsv_records.specs.Rrsig.{IsRrsig}
use Rattle.dnsv_canonical.specs.Evidence.{AreParameters, Evidence, AtMost, IsWithinLimits, IsSmall, AreParametersAmong, nsec3_rdata, with_message, signatures_at}
use Rattle.dnsv_canonical.specs.Index.Grouping.{IsIndexOf}
use Rattle.dnsv_canonical.specs.Kept.{IsHeld}
use Rattle.dnsv_canonical.specs.Rdata.{IsWellFormed}
use Rattle.dnsv_canonical.specs.Rrsets.{ReceivedRrset, appears_first, first_appearances, rrsets_in, message_rrsets}
use Rattle.dnsv_canonical.proofs.ListLemmas.{each_behind}
use Rattle.dnsv_canonical.proofs.ParameterLemmas.{nsec3_rdata-append, few_pairs}

-- the RRsets of a message's sections are its RRsets
pub drafts_are : (number : ℕ) (message : Contents) (answer authority additional : List Record) (drafts : List ReceivedRrset) → answer ≡ message.answer → authority ≡ message.authority → additional ≡ message.additional
    → drafts ≡ rrsets_in number Answer answer ++ rrsets_in number Authority authority ++ rrsets_in number Additional additional → drafts ≡ message_rrsets number message
drafts_are number message answer authority additional drafts first second third are =
    are ∙ (λ i. rrsets_in number Answer (first i) ++ rrsets_in number Authority (second i) ++ rrsets_in number Additional (third i))

-- ---- each RRset

-- what holds of each element holds of each that appears first
pub first_appearances_kept : {X : Type 0} (same : X → X → Bool) (P : X → Type 0) (xs : List X) → AllByRecursion P xs → AllByRecursion P (first_appearances same xs)
first_appearances_kept {X} same P xs all = chosen_kept (appears_first same xs) 0 xs all where
  chosen_kept : (test : ℕ × X → Bool) (k : ℕ) (ys : List X) → AllByRecursion P ys → AllByRecursion P (map (λ (placed : ℕ × X). placed.1) (filter test (enumerate_from k ys)))
  chosen_kept test k [] all = tt
  chosen_kept test k (y ∷ ys) all = chosen_at (test (k, y)) all.0 (chosen_kept test (k + 1) ys all.1) where
    chosen_at : (first : Bool) → P y → AllByRecursion P (map (λ (placed : ℕ × X). placed.1) (filter test (enumerate_from (k + 1) ys)))
        → AllByRecursion P (map (λ (placed : ℕ × X). placed.1) (cond first ((k, y) ∷ filter test (enumerate_from (k + 1) ys)) (filter test (enumerate_from (k + 1) ys))))
    chosen_at true p rest = (p, rest)
    chosen_at false p rest = rest

-- ---- limits

-- the pairs of the RRsets so far and of more
AreParameters-joined : (old new : List ReceivedRrset) (pairs : List Nsec3Parameters) → AreParameters (nsec3_rdata old ++ nsec3_rdata new) pairs → AreParameters (nsec3_rdata (old ++ new)) pairs
AreParameters-joined old new pairs are =
    subst (λ received. AreParameters received pairs) (sym (nsec3_rdata-append old new)) are

pub pairs_so_far : (old drafts : List ReceivedRrset) (kept lent fresh : List Nsec3Parameters) → AreParameters (nsec3_rdata old) kept → lent ≡ kept
    → ((earlier : List (List ℕ)) → AreParameters earlier lent → AreParameters (earlier ++ nsec3_rdata drafts) (lent ++ fresh)) → AreParameters (nsec3_rdata old ++ nsec3_rdata drafts) (kept ++ fresh)
pairs_so_far old drafts kept lent fresh are same more =
    subst (λ pairs. AreParameters (nsec3_rdata old ++ nsec3_rdata drafts) (pairs ++ fresh)) same (more (nsec3_rdata old) (subst (AreParameters (nsec3_rdata old)) (sym same) are))

pub not_small : (drafts : List ReceivedRrset) (answer : Bool) → (IsTrue answer ↔ AllByRecursion IsSmall drafts) → answer ≡ false → ¬ AllByRecursion IsSmall drafts
not_small drafts answer decides none small = let turned : true ≡ false = sym (decides.1 small) ∙ none in cc

-- what is kept with a message more
pub grown : (messages records total : ℕ) (old : List ReceivedRrset) (message : Contents) (kept fresh : List Nsec3Parameters) (drafts : List ReceivedRrset) (numbers starts more_numbers more_starts : List ℕ)
    → IsHeld (record { messages = messages; records = records; rrsets = old }) kept numbers starts → messages < 64 → total ≤ 4096 → AllByRecursion IsWellFormed drafts → AllByRecursion IsSmall drafts
    → AreParameters (nsec3_rdata old ++ nsec3_rdata drafts) (kept ++ fresh) → length (kept ++ fresh) ≤ 8 → IsIndexOf (old ++ drafts) more_numbers more_starts
    → IsHeld (record { messages = messages + 1; records = total; rrsets = old ++ drafts }) (kept ++ fresh) more_numbers more_starts
grown messages records total old message kept fresh drafts numbers starts more_numbers more_starts held few_messages few_records formed small are few index = record {
  limits = record {
    messages = omega (arith, few_messages);
    records = few_records;
    rrsets = recursion-append IsSmall old drafts held.limits.rrsets small;
    parameters = (few_pairs 8 _ (kept ++ fresh) (AreParameters-joined old drafts (kept ++ fresh) are)).0 few;
  };
  well_formed = recursion-append IsWellFormed old drafts held.well_formed formed;
  parameters = AreParameters-joined old drafts (kept ++ fresh) are;
  index = index;
}

numbered : (held : Evidence) (message : Contents) (drafts : List ReceivedRrset) → drafts ≡ message_rrsets (held.messages + 1) message → drafts ≡ message_rrsets (suc held.messages) message
numbered held message drafts is = is ∙ ap (λ n. message_rrsets n message) (omega arith)

-- a message's RRsets beyond their limits
pub large_refused : (held : Evidence) (message : Contents) (drafts : List ReceivedRrset) → drafts ≡ message_rrsets (held.messages + 1) message → ¬ AllByRecursion IsSmall drafts → ¬ IsWithinLimits (with_message held message)
large_refused held message drafts is large within =
    large (subst (AllByRecursion IsSmall) (sym (numbered held message drafts is)) (each_behind IsSmall held.rrsets (message_rrsets (suc held.messages) message) within.rrsets))

-- too many pairs
pub many_refused : (held : Evidence) (message : Contents) (drafts : List ReceivedRrset) → drafts ≡ message_rrsets (held.messages + 1) message
    → ¬ AtMost 8 (AreParametersAmong (nsec3_rdata held.rrsets ++ nsec3_rdata drafts)) → ¬ IsWithinLimits (with_message held message)
many_refused held message drafts is many within =
    many (subst (λ received. AtMost 8 (AreParametersAmong received)) (nsec3_rdata-append held.rrsets drafts)
    (subst (λ rrsets. AtMost 8 (AreParametersAmong (nsec3_rdata (held.rrsets ++ rrsets)))) (sym (numbered held message drafts is)) within.parameters))

-- the new value, as it is kept and as it is defined
pub grown_is : (messages records total : ℕ) (old : List ReceivedRrset) (message : Contents) (drafts : List ReceivedRrset) → total ≡ records + length (records_of message) → drafts ≡ message_rrsets (messages + 1) message
    → record { messages = messages + 1; records = total; rrsets = old ++ drafts } ≡ with_message (record { messages = messages; records = records; rrsets = old }) message
grown_is messages records total old message drafts counted is =
    let next : messages + 1 ≡ suc messages = omega arith in
    let more : drafts ≡ message_rrsets (suc messages) message = is ∙ ap (λ n. message_rrsets n message) next in
    λ i. record { messages = next i; records = counted i; rrsets = old ++ more i }

-- ---- the signatures of the RRset with a number

module _ (number : ℕ) where
  abbrev has_number : ℕ × ReceivedRrset → Bool
  has_number numbered = numbered.0 == number

  abbrev signatures_from : List (ℕ × ReceivedRrset) → List (List ℕ)
  signatures_from numbered = flat_map (λ (n : ℕ × ReceivedRrset). n.1.signatures) numbered

  none_numbered : (start : ℕ) (rrsets : List ReceivedRrset) → (number < start) ⊎ (start + length rrsets ≤ number) → signatures_from (filter has_number (enumerate_from start rrsets)) ≡ []
  none_numbered start [] outside = refl
  none_numbered start (x ∷ xs) outside = test (none_numbered (start + 1) xs) (start == number) refl where
    test : ((number < start + 1) ⊎ (start + 1 + length xs ≤ number) → signatures_from (filter has_number (enumerate_from (start + 1) xs)) ≡ []) → (is : Bool) → (start == number) ≡ is → signatures_from (cond is ((start, x) ∷ filter has_number (enumerate_from (start + 1) xs)) (filter has_number (enumerate_from (start + 1) xs))) ≡ []
    test later true same = absurd (⊎_elim (λ below. omega (arith, below, eqb-true start number same)) (λ above. omega (arith, above, eqb-true start number same)) outside)
    test later false other = later (⊎_elim (λ below. inl (omega (arith, below))) (λ above. inr (omega (arith, above))) outside)

  numbered_here : (start : ℕ) (rrsets : List ReceivedRrset) (i : ℕ) (d : ReceivedRrset) → i < length rrsets → start + i ≡ number → signatures_from (filter has_number (enumerate_from start rrsets)) ≡ (get_or rrsets i d).signatures
  numbered_here start [] i d within is = absurd (omega (arith, within))
  numbered_here start (x ∷ xs) zero d within is = test (start == number) refl where
    test : (first : Bool) → (start == number) ≡ first → signatures_from (cond first ((start, x) ∷ filter has_number (enumerate_from (start + 1) xs)) (filter has_number (enumerate_from (start + 1) xs))) ≡ x.signatures
    test true same = ap (λ rest. x.signatures ++ rest) (none_numbered (start + 1) xs (inl (omega (arith, is)))) ∙ append-nil x.signatures
    test false other = let same : start ≡ number = omega (arith, is) in absurd (false≢true (sym other ∙ ap (λ n. start == n) (sym same) ∙ nat_eq_equiv.refl start))
  numbered_here start (x ∷ xs) (suc j) d within is = test (numbered_here (start + 1) xs j d (omega (arith, within)) (omega (arith, is))) (start == number) refl where
    test : signatures_from (filter has_number (enumerate_from (start + 1) xs)) ≡ (get_or xs j d).signatures → (first : Bool) → (start == number) ≡ first → signatures_from (cond first ((start, x) ∷ filter has_number (enumerate_from (start + 1) xs)) (filter has_number (enumerate_from (start + 1) xs))) ≡ (get_or xs j d).signatures
    test later true same = absurd (omega (arith, is, eqb-true start number same))
    test later false other = later

pub no_signatures : (rrsets : List ReceivedRrset) (number : ℕ) → (number ≡ 0) ⊎ (length rrsets < number) → AllZip IsRrsig (signatures_at rrsets number) []
no_signatures rrsets number outside =
    subst (λ rdata. AllZip IsRrsig rdata []) (sym (none_numbered number 1 rrsets (⊎_elim (λ none. inl (omega (arith, none))) (λ above. inr (omega (arith, above))) outside))) tt

pub its_signatures : (rrsets : List ReceivedRrset) (number : ℕ) (x : ReceivedRrset) (rrsigs : List Rrsig) → 0 < number → number ≤ length rrsets → x ≡ get_or rrsets (number - 1) x → AllZip IsRrsig x.signatures rrsigs → AllZip IsRrsig (signatures_at rrsets number) rrsigs
its_signatures rrsets zero x rrsigs some within at are = absurd (omega (arith, some))
its_signatures rrsets (suc i) x rrsigs some within at are =
    let here : get_or rrsets i x ≡ x = ap (λ j. get_or rrsets j x) (omega arith) ∙ sym at in
    subst (λ rdata. AllZip IsRrsig rdata rrsigs) (sym (numbered_here (suc i) 1 rrsets i x (omega (arith, within)) (omega arith) ∙ ap (λ (g : ReceivedRrset). g.signatures) here)) are
