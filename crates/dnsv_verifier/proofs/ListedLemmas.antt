-- What is listed for numbers is what is listed for their entry.
use Rattle.std.proofs.Common.{◌≡◌, ℕ, ◌<◌, List, [], ◌∷◌, Option, Some, cond, length, get_or, map, min, true, false, refl, sym, ap, ◌∙◌, subst, arith, unwrap_or}
use Rattle.std.proofs.lemmas.Cmp.{tied_itself}
use Rattle.std.proofs.lemmas.List.{get_or_default, length-map}
use Rattle.std.proofs.lemmas.List.Elements.{Contains-get_or}
use Rattle.std.proofs.lemmas.Slice.Zip.{firsts-zip, get_or-zip, length-zip}
use Rattle.std.specs.List.{Contains, HoldsAt, filter, zip}
use Rattle.std.specs.List.Sorted.{IsStrictlySortedBy}
use Rattle.std.specs.Map.{lookup}
use Rattle.std.specs.Ordering.{is_eq, ordering_reverse}
use Rattle.std.specs.declared.cmp.Ordering.TheVariants.{Less, Equal, Greater}
use Rattle.dnsv_records.specs.declared.number.Algorithm.{Algorithm}
use Rattle.dnsv_canonical.specs.Rrsets.{ReceivedRrset}
use Rattle.dnsv_verifier.specs.Admissible.{DnskeyRecord}
use Rattle.dnsv_verifier.specs.Entry.{entry_cmp}
use Rattle.dnsv_verifier.specs.EntryLaws.{entry_cmp_total, entry_Equal}
use Rattle.dnsv_verifier.specs.Numbers.{AllOfParts, AreNumbersOf, AreOfParts, AreRising, IsPlaceOf, PartLists, answers_of, entry_of, key_cmp, key_of, listed_answer, numbers_cmp, signature_cmp, signature_of}
use Rattle.dnsv_verifier.specs.Table.{IsAnswerAt, TableContents, hoped_answer, hopeful, is_unknown, with_answers}
use Rattle.dnsv_verifier.specs.declared.answer.Answer.{Answer}
use Rattle.dnsv_verifier.specs.declared.answer.Answer.TheVariants.{Unknown}
use Rattle.dnsv_verifier.specs.declared.entry.Entry.{Entry}
use Rattle.dnsv_verifier.specs.declared.entry.parts.EntryNumbers.{EntryNumbers}
use Rattle.dnsv_verifier.specs.declared.entry.parts.KeyPart.{KeyPart}
use Rattle.dnsv_verifier.specs.declared.entry.parts.SignaturePart.{SignaturePart}
use Rattle.dnsv_verifier.specs.declared.table.place.SignaturePlace.{SignaturePlace}
use Rattle.dnsv_verifier.proofs.NumberLemmas.{at_front, contains_from_map, contains_map, further, hoped_answers, less_entry, numbers_Equal, numbers_cmp_total, rising_entries}
use Rattle.dnsv_verifier.proofs.SearchLemmas.{found_at, not_listed, pairs_again}

-- ---- the numbers of a table

entries_by_numbers : (parts : PartLists) (answers : List (EntryNumbers × Answer)) → map (entry_of parts) (map (λ (each : EntryNumbers × Answer). each.0) answers) ≡ map (λ (each : Entry × Answer). each.0) (answers_of parts answers)
entries_by_numbers parts [] = refl
entries_by_numbers parts (a ∷ answers) = ap (λ rest. entry_of parts a.0 ∷ rest) (entries_by_numbers parts answers)

-- the entries rise
pub rising_answers : (parts : PartLists) (answers : List (EntryNumbers × Answer)) → AreRising parts (map (λ (each : EntryNumbers × Answer). each.0) answers) → IsStrictlySortedBy entry_cmp (map (λ (each : Entry × Answer). each.0) (answers_of parts answers))
rising_answers parts answers are =
    subst (IsStrictlySortedBy entry_cmp) (entries_by_numbers parts answers) (rising_entries parts are.keys are.signatures (map (λ (each : EntryNumbers × Answer). each.0) answers) are.within are.rising)

pub rising_table : (parts : PartLists) (numbers : List EntryNumbers) (answers : List Answer) → length answers ≡ length numbers → AreRising parts numbers → IsStrictlySortedBy entry_cmp (map (λ (each : Entry × Answer). each.0) (answers_of parts (zip numbers answers)))
rising_table parts numbers answers each are =
    rising_answers parts (zip numbers answers) (subst (λ (ns : List EntryNumbers). AreRising parts ns) (sym (firsts-zip numbers answers each)) are)

-- hoping for each answer at its place
pub zip_hoped : (numbers : List EntryNumbers) (answers : List Answer) → zip numbers (map hoped_answer answers) ≡ map (λ (each : EntryNumbers × Answer). (each.0, hoped_answer each.1)) (zip numbers answers)
zip_hoped [] answers = refl
zip_hoped (n ∷ numbers) [] = refl
zip_hoped (n ∷ numbers) (a ∷ answers) = ap (λ rest. (n, hoped_answer a) ∷ rest) (zip_hoped numbers answers)

pub hoped_table : (moment : ℕ) (rrsets : List ReceivedRrset) (parts : PartLists) (numbers : List EntryNumbers) (answers : List Answer)
    → record { moment = moment; rrsets = rrsets; answers = answers_of parts (zip numbers (map hoped_answer answers)) } ≡ hopeful (record { moment = moment; rrsets = rrsets; answers = answers_of parts (zip numbers answers) })
hoped_table moment rrsets parts numbers answers =
    let listed = ap (answers_of parts) (zip_hoped numbers answers) ∙ hoped_answers parts (zip numbers answers) in
    λ i. record { moment = moment; rrsets = rrsets; answers = listed i }

-- other answers for the same entries
other_answers : (parts : PartLists) (numbers : List EntryNumbers) (old new : List Answer) → length old ≡ length numbers
    → answers_of parts (zip numbers new) ≡ zip (map (λ (each : Entry × Answer). each.0) (answers_of parts (zip numbers old))) new
other_answers parts [] old new each = refl
other_answers parts (n ∷ numbers) [] new each = absurd (omega (arith, each))
other_answers parts (n ∷ numbers) (a ∷ old) [] each = refl
other_answers parts (n ∷ numbers) (a ∷ old) (b ∷ new) each =
    ap (λ rest. (entry_of parts n, b) ∷ rest) (other_answers parts numbers old new (omega (arith, each)))

pub table_with : (moment : ℕ) (rrsets : List ReceivedRrset) (parts : PartLists) (numbers : List EntryNumbers) (old new : List Answer) → length old ≡ length numbers
    → record { moment = moment; rrsets = rrsets; answers = answers_of parts (zip numbers new) } ≡ with_answers (record { moment = moment; rrsets = rrsets; answers = answers_of parts (zip numbers old) }) new
table_with moment rrsets parts numbers old new each =
    let listed = other_answers parts numbers old new each in
    λ i. record { moment = moment; rrsets = rrsets; answers = listed i }

-- as many answers as the table has entries
pub length_with : (parts : PartLists) (numbers : List EntryNumbers) (old new : List Answer) → length old ≡ length numbers
    → length new ≡ length (answers_of parts (zip numbers old)) → length new ≡ length numbers
length_with parts numbers old new each same =
    let mapped = length-map {B = Entry × Answer} (zip numbers old) (λ (pair : EntryNumbers × Answer). (entry_of parts pair.0, pair.1)) in
    let zipped = length-zip numbers old in omega (arith, mapped, zipped, each, same)

-- a table has an entry for each answer
pub length_listed : (parts : PartLists) (numbers : List EntryNumbers) (answers : List Answer) → length answers ≡ length numbers → length answers ≡ length (answers_of parts (zip numbers answers))
length_listed parts numbers answers each =
    let mapped = length-map {B = Entry × Answer} (zip numbers answers) (λ (pair : EntryNumbers × Answer). (entry_of parts pair.0, pair.1)) in
    let zipped = length-zip numbers answers in omega (arith, mapped, zipped, each)

-- each number with what is said of its entry
pub zip_answered : (meaning : Entry → Answer) (parts : PartLists) (numbers : List EntryNumbers) → zip numbers (map (λ each. meaning (entry_of parts each)) numbers) ≡ map (λ each. (each, meaning (entry_of parts each))) numbers
zip_answered meaning parts [] = refl
zip_answered meaning parts (n ∷ numbers) = ap (λ rest. (n, meaning (entry_of parts n)) ∷ rest) (zip_answered meaning parts numbers)

-- where no answer is Unknown, no entry's is
pub none_unknown : (numbers : List EntryNumbers) (answers : List Answer) → filter is_unknown answers ≡ [] → filter (λ (each : EntryNumbers × Answer). is_unknown each.1) (zip numbers answers) ≡ []
none_unknown [] answers none = refl
none_unknown (n ∷ numbers) [] none = refl
none_unknown (n ∷ numbers) (a ∷ answers) none =
    elim (is_unknown a) as (λ b. cond b (a ∷ filter is_unknown answers) (filter is_unknown answers) ≡ [] → cond b ((n, a) ∷ filter (λ (each : EntryNumbers × Answer). is_unknown each.1) (zip numbers answers)) (filter (λ (each : EntryNumbers × Answer). is_unknown each.1) (zip numbers answers)) ≡ []) [
      | true ↦ λ here. absurd (cc here)
      | false ↦ λ here. none_unknown numbers answers here
    ] none

-- ---- looking for numbers by halves

module _ (numbers : List EntryNumbers) (answers : List Answer) (each : length answers ≡ length numbers) (rising : IsStrictlySortedBy numbers_cmp numbers) (asked : EntryNumbers) where
  pub answer_found : (place : ℕ) (d : Answer) → place < length numbers → HoldsAt (λ n. numbers_cmp n asked ≡ Equal) numbers place
      → get_or answers place d ≡ listed_answer (zip numbers answers) asked
  answer_found place d within holds =
      let inside : place < length answers = omega (arith, within, each) in
      let item : Answer = get_or answers place d in
      let same : get_or answers place item ≡ item = get_or_default answers place item d inside in
      let size : length (zip numbers answers) ≡ min (length numbers) (length answers) = length-zip numbers answers in
      let pair : EntryNumbers × Answer = (asked, item) in
      let here : get_or (zip numbers answers) place pair ≡ (get_or numbers place asked, get_or answers place item) = get_or-zip numbers answers place pair within inside in
      let at : get_or (zip numbers answers) place pair ≡ pair = here ∙ (λ i. (numbers_Equal (get_or numbers place asked) asked (holds asked) i, same i)) in
      let tied : HoldsAt (λ (y : EntryNumbers × Answer). numbers_cmp y.0 asked ≡ Equal) (zip numbers answers) place =
      λ other. ap (λ (y : EntryNumbers × Answer). numbers_cmp y.0 asked) (get_or-zip numbers answers place other within inside) ∙ holds other.0 in
      let found = found_at numbers_cmp numbers_cmp_total numbers_Equal (λ (y : EntryNumbers × Answer). y.0) (λ (y : EntryNumbers × Answer). y.1) (zip numbers answers)
      (subst (IsStrictlySortedBy numbers_cmp) (sym (firsts-zip numbers answers each)) rising) asked place pair (omega (arith, size, within, inside)) (sym at) tied in
      sym (ap (λ (all : List (EntryNumbers × Answer)). unwrap_or (lookup (λ n. is_eq (numbers_cmp asked n)) all) Unknown) (sym (pairs_again (zip numbers answers)))
      ∙ ap (λ (o : Option Answer). unwrap_or o Unknown) found)

  pub answer_absent : (Contains numbers asked → ⊥) → Unknown ≡ listed_answer (zip numbers answers) asked
  answer_absent missing =
      let absent = not_listed numbers_cmp numbers_cmp_total numbers_Equal (λ (y : EntryNumbers × Answer). y.0) (λ (y : EntryNumbers × Answer). y.1) (zip numbers answers) asked
      (λ listed. missing (subst (λ (ns : List EntryNumbers). Contains ns asked) (firsts-zip numbers answers each) listed)) in
      sym (ap (λ (all : List (EntryNumbers × Answer)). unwrap_or (lookup (λ n. is_eq (numbers_cmp asked n)) all) Unknown) (sym (pairs_again (zip numbers answers)))
      ∙ ap (λ (o : Option Answer). unwrap_or o Unknown) absent)

-- ---- what is listed

module _ (parts : PartLists) (keys : IsStrictlySortedBy key_cmp parts.keys) (signatures : IsStrictlySortedBy signature_cmp parts.signatures) where
  same_order : (a b : EntryNumbers) → AreOfParts parts a → AreOfParts parts b → numbers_cmp a b ≡ entry_cmp (entry_of parts a) (entry_of parts b)
  same_order a b of_a of_b =
      elim (numbers_cmp a b) as (λ o. numbers_cmp a b ≡ o → o ≡ entry_cmp (entry_of parts a) (entry_of parts b)) [
        | Less ↦ λ less. sym (less_entry parts keys signatures a b of_b less)
        | Equal ↦ λ tied. sym (ap (λ n. entry_cmp (entry_of parts n) (entry_of parts b)) (numbers_Equal a b tied) ∙ tied_itself entry_cmp_total (entry_of parts b))
        | Greater ↦ λ more.
            let less : numbers_cmp b a ≡ Less = numbers_cmp_total.antisymm b a ∙ ap ordering_reverse more in
            sym (entry_cmp_total.antisymm (entry_of parts a) (entry_of parts b) ∙ ap ordering_reverse (less_entry parts keys signatures b a of_a less))
      ] refl

  same_listed : (numbers : EntryNumbers) → AreOfParts parts numbers → (answers : List (EntryNumbers × Answer)) → AllOfParts parts (map (λ (each : EntryNumbers × Answer). each.0) answers)
      → lookup (λ each. is_eq (numbers_cmp numbers each)) answers ≡ lookup (λ each. is_eq (entry_cmp (entry_of parts numbers) each)) (answers_of parts answers)
  same_listed numbers of_parts [] all = refl
  same_listed numbers of_parts (a ∷ answers) all =
      let rest = map (λ (each : EntryNumbers × Answer). each.0) answers in
      let here = same_order numbers a.0 of_parts (all a.0 (at_front a.0 rest)) in
      let later = same_listed numbers of_parts answers (λ n found. all n (further a.0 rest n found)) in
      λ i. cond (is_eq (here i)) (Some a.1) (later i)

-- what is listed for the numbers of an entry is what is listed for the entry
listed_for : (parts : PartLists) (answers : List (EntryNumbers × Answer)) → AreRising parts (map (λ (each : EntryNumbers × Answer). each.0) answers)
    → (entry : Entry) (numbers : EntryNumbers) → AreNumbersOf parts entry numbers
    → listed_answer answers numbers ≡ unwrap_or (lookup (λ each. is_eq (entry_cmp entry each)) (answers_of parts answers)) Unknown
listed_for parts answers are entry numbers its =
    ap (λ found. unwrap_or found Unknown) (same_listed parts are.keys are.signatures numbers its.within answers are.within)
    ∙ ap (λ (e : Entry). unwrap_or (lookup (λ each. is_eq (entry_cmp e each)) (answers_of parts answers)) Unknown) its.is

-- an entry without numbers isn't listed
unlisted : (parts : PartLists) (answers : List (EntryNumbers × Answer)) → AreRising parts (map (λ (each : EntryNumbers × Answer). each.0) answers)
    → (entry : Entry) → ((numbers : EntryNumbers) → AreNumbersOf parts entry numbers → ⊥)
    → unwrap_or (lookup (λ each. is_eq (entry_cmp entry each)) (answers_of parts answers)) Unknown ≡ Unknown
unlisted parts answers are entry none =
    let entry_at : EntryNumbers × Answer → Entry = λ each. entry_of parts each.0 in
    let missing : Contains (map entry_at answers) entry → ⊥ = λ listed.
    let from = contains_from_map entry_at answers entry listed in
    none from.0.0 (record { within = are.within from.0.0 (contains_map (λ (each : EntryNumbers × Answer). each.0) answers from.0 from.1); is = from.2 }) in
    ap (λ found. unwrap_or found Unknown) (not_listed entry_cmp entry_cmp_total entry_Equal entry_at (λ each. each.1) answers entry missing)

module _ (parts : PartLists) (numbers : List EntryNumbers) (answers : List Answer) (each : length answers ≡ length numbers) (are : AreRising parts numbers) (entry : Entry) where
  again : AreRising parts (map (λ (pair : EntryNumbers × Answer). pair.0) (zip numbers answers))
  again = subst (λ (ns : List EntryNumbers). AreRising parts ns) (sym (firsts-zip numbers answers each)) are

  -- what a table says of an entry whose numbers are these
  pub says_listed : (wanted : EntryNumbers) → AreNumbersOf parts entry wanted
      → listed_answer (zip numbers answers) wanted ≡ unwrap_or (lookup (λ each. is_eq (entry_cmp entry each)) (answers_of parts (zip numbers answers))) Unknown
  says_listed wanted its = listed_for parts (zip numbers answers) again entry wanted its

  -- of one without numbers it knows nothing
  pub says_nothing : ((wanted : EntryNumbers) → AreNumbersOf parts entry wanted → ⊥)
      → Unknown ≡ unwrap_or (lookup (λ each. is_eq (entry_cmp entry each)) (answers_of parts (zip numbers answers))) Unknown
  says_nothing none = sym (unlisted parts (zip numbers answers) again entry none)

-- ---- what is said of a signature at its place

module _ (moment : ℕ) (rrsets : List ReceivedRrset) (parts : PartLists) (numbers : List EntryNumbers) (answers : List Answer)
    (each : length answers ≡ length numbers) (are : AreRising parts numbers) (place : SignaturePlace) (is : IsPlaceOf rrsets parts place)
    (key : DnskeyRecord) where
  abbrev Contents : TableContents
  Contents = record { moment = moment; rrsets = rrsets; answers = answers_of parts (zip numbers answers) }

  abbrev KeyField : KeyPart
  KeyField = record { algorithm = place.algorithm; key = key.dnskey.key }

  -- under a key that is one of the parts
  pub says_at : (k : ℕ) → k < length parts.keys → key_of parts k ≡ KeyField
      → IsAnswerAt Contents place.number key (listed_answer (zip numbers answers) (record { key = k; signature = place.part }))
  says_at k within its =
      let wanted : EntryNumbers = record { key = k; signature = place.part } in
      let entry : Entry = entry_of parts wanted in
      record {
        rrset = is.rrset;
        rrsig = is.rrsig;
        has_number = is.has_number;
        entry = entry;
        asked = record {
          algorithm = ap (λ (part : KeyPart). part.algorithm.0) its ∙ ap (λ (algorithm : Algorithm). algorithm.0) is.algorithm;
          key_field = ap (λ (part : KeyPart). part.key) its;
          signed_data = is.part_of.signed_data;
          signature = is.part_of.signature;
        };
        says = says_listed parts numbers answers each are entry wanted (record { within = record { key = within; signature = is.within }; is = refl });
      }

  -- under a key that is none of them
  pub says_none : (Contains parts.keys KeyField → ⊥) → IsAnswerAt Contents place.number key Unknown
  says_none missing =
      let part : SignaturePart = signature_of parts place.part in
      let entry : Entry = record { algorithm = place.algorithm; key = key.dnskey.key; signed_data = part.signed_data; signature = part.signature } in
      record {
        rrset = is.rrset;
        rrsig = is.rrsig;
        has_number = is.has_number;
        entry = entry;
        asked = record {
          algorithm = ap (λ (algorithm : Algorithm). algorithm.0) is.algorithm;
          key_field = refl;
          signed_data = is.part_of.signed_data;
          signature = is.part_of.signature;
        };
        says = says_nothing parts numbers answers each are entry (λ wanted its.
            let same : key_of parts wanted.key ≡ KeyField = λ i. record { algorithm = (its.is i).algorithm; key = (its.is i).key } in
            missing (subst (λ (part : KeyPart). Contains parts.keys part) same (Contains-get_or parts.keys wanted.key _ its.within.key)));
      }
