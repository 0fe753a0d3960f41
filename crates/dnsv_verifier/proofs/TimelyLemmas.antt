-- Signed data begins with the times of its signature, so what is left of a table at one moment is its table.
use Rattle.std.proofs.Common.{◌≡◌, ◌↔◌, ℕ, ◌+◌, ◌-◌, ◌*◌, ◌/◌, ◌%◌, ◌^◌, ◌<◌, ◌≤◌, ◌&&◌, Bool, true, false, cond, nat_lt, inl, inr, ⊎_elim, List, [], ◌∷◌, ◌++◌, Some, Result, Ok, Err, IfOk, length, get_or, map, take, refl, sym, ap, ◌∙◌, subst, arith, IsTrue}
use Rattle.std.proofs.Math.Nat.{add-mul-mod_self_right, div-div-eq-div-mul, mod-mod}
use Rattle.std.proofs.lemmas.Bool.{true≢false}
use Rattle.std.proofs.lemmas.Bool.Decides.{nat_tests}
use Rattle.std.proofs.lemmas.List.{append-nil, length-map, map-append}
use Rattle.std.proofs.lemmas.List.Elements.{filter_more}
use Rattle.std.proofs.lemmas.List.Kept.{IsStrictlySortedBy-filter}
use Rattle.std.proofs.lemmas.Slice.Zip.{firsts-zip}
use Rattle.std.proofs.lemmas.Nat.{div-add-mod'}
use Rattle.std.specs.Int.{w32, to_be_bytes}
use Rattle.std.specs.Int.Digits.{number_from_digits}
use Rattle.std.specs.List.{Contains, filter, flat_map, zip}
use Rattle.std.specs.List.Sorted.{IsStrictlySortedBy}
use Rattle.dnsv_names.specs.Name.{Labels}
use Rattle.dnsv_names.specs.Octets.{number_at}
use Rattle.dnsv_records.specs.Rrsig.Time.{ValidAt, seconds_on}
use Rattle.dnsv_records.specs.declared.rrsig.Rrsig.{Rrsig}
use Rattle.dnsv_canonical.specs.Rrsets.{ReceivedRrset}
use Rattle.dnsv_canonical.specs.SignedData.{IsSignedData, signed_front, signed_owner, signed_record}
use Rattle.dnsv_canonical.proofs.CanonicalLemmas.{IsMember, IsMember-from_contains, Contains-from_member, rising_unique}
use Rattle.dnsv_timeline.specs.Range.{Moments}
use Rattle.dnsv_verifier.specs.Admissible.{IsAsked}
use Rattle.dnsv_verifier.specs.Entry.{entry_cmp}
use Rattle.dnsv_verifier.specs.EntryLaws.{entry_cmp_total, entry_Equal}
use Rattle.dnsv_verifier.specs.Numbers.{AreRising, PartLists, answers_of, entry_of, is_timely, is_timely_in, numbers_cmp}
use Rattle.dnsv_verifier.specs.Table.{IsTableOf, TableContents}
use Rattle.dnsv_verifier.specs.Within.{IsAskedWithin, IsTableAt, IsTableWithin, IsTimely}
use Rattle.dnsv_verifier.specs.declared.answer.Answer.{Answer}
use Rattle.dnsv_verifier.specs.declared.entry.Entry.{Entry}
use Rattle.dnsv_verifier.specs.declared.entry.parts.EntryNumbers.{EntryNumbers}
use Rattle.dnsv_verifier.proofs.TableLemmas.{answered, rising_filtered}

-- ---- parts of lists

pub filter_mapped : {X Y : Type 0} (f : X → Y) (p : Y → Bool) (xs : List X) → filter p (map f xs) ≡ map f (filter (λ x. p (f x)) xs)
filter_mapped f p [] = refl
filter_mapped f p (x ∷ xs) =
    elim (p (f x)) as (λ b. cond b (f x ∷ filter p (map f xs)) (filter p (map f xs)) ≡ map f (cond b (x ∷ filter (λ y. p (f y)) xs) (filter (λ y. p (f y)) xs))) [
      | true ↦ ap (λ rest. f x ∷ rest) (filter_mapped f p xs)
      | false ↦ filter_mapped f p xs
    ]

-- one more, which is kept or not
module _ {X Y : Type 0} (f : X → Y) (p : X → Bool) (xs : List X) (i : ℕ) (d : X) (within : i < length xs) where
  kept_more : map f (filter p (take (i + 1) xs)) ≡ map f (filter p (take i xs)) ++ map f (cond (p (get_or xs i d)) (get_or xs i d ∷ []) [])
  kept_more =
      ap (map f) (filter_more p xs i d within)
      ∙ map-append f (filter p (take i xs)) (cond (p (get_or xs i d)) (get_or xs i d ∷ []) [])

  pub one_more_kept : p (get_or xs i d) ≡ true → map f (filter p (take i xs)) ++ f (get_or xs i d) ∷ [] ≡ map f (filter p (take (i + 1) xs))
  one_more_kept passes =
      sym (kept_more ∙ ap (λ b. map f (filter p (take i xs)) ++ map f (cond b (get_or xs i d ∷ []) [])) passes)

  pub no_more_kept : p (get_or xs i d) ≡ false → map f (filter p (take i xs)) ≡ map f (filter p (take (i + 1) xs))
  no_more_kept fails =
      sym (kept_more ∙ ap (λ b. map f (filter p (take i xs)) ++ map f (cond b (get_or xs i d ∷ []) [])) fails
      ∙ append-nil (map f (filter p (take i xs))))

module _ {X : Type 0} (p : X → Bool) where
  kept_member : (xs : List X) (x : X) → IsMember x xs → p x ≡ true → IsMember x (filter p xs)
  kept_member [] x member passes = absurd member
  kept_member (y ∷ xs) x member passes =
      elim (p y) as (λ b. p y ≡ b → IsMember x (cond b (y ∷ filter p xs) (filter p xs))) [
        | true ↦ λ _. ⊎_elim (λ (same : x ≡ y). inl same) (λ (later : IsMember x xs). inr (kept_member xs x later passes)) member
        | false ↦ λ fails. ⊎_elim (λ (same : x ≡ y). absurd (true≢false (sym passes ∙ ap p same ∙ fails))) (λ (later : IsMember x xs). kept_member xs x later passes) member
      ] refl

  member_kept : (xs : List X) (x : X) → IsMember x (filter p xs) → IsMember x xs × (p x ≡ true)
  member_kept [] x member = absurd member
  member_kept (y ∷ xs) x member =
      elim (p y) as (λ b. p y ≡ b → IsMember x (cond b (y ∷ filter p xs) (filter p xs)) → IsMember x (y ∷ xs) × (p x ≡ true)) [
        | true ↦ λ passes. ⊎_elim (λ (same : x ≡ y). (inl same, ap p same ∙ passes)) (λ (later : IsMember x (filter p xs)). let both = member_kept xs x later in (inr both.0, both.1))
        | false ↦ λ fails later. let both = member_kept xs x later in (inr both.0, both.1)
      ] refl member

  pub kept_contains : (xs : List X) (x : X) → Contains (filter p xs) x ↔ (Contains xs x × (p x ≡ true))
  kept_contains xs x = (
    λ found. let both = member_kept xs x (IsMember-from_contains (filter p xs) x found) in (Contains-from_member xs x both.0, both.1),
    λ both. Contains-from_member (filter p xs) x (kept_member xs x (IsMember-from_contains xs x both.0) both.1),
  )

-- ---- the test

same_tests : (a b : Bool) → (a ≡ true → b ≡ true) → (b ≡ true → a ≡ true) → a ≡ b
same_tests true b to from = sym (to refl)
same_tests false true to from = from refl
same_tests false false to from = refl

both_pass : (a b : Bool) → (a && b) ≡ true → (a ≡ true) × (b ≡ true)
both_pass true b passes = (refl, passes)
both_pass false b passes = absurd (true≢false (sym passes))

pass_both : (a b : Bool) → a ≡ true → b ≡ true → (a && b) ≡ true
pass_both a b left right = (λ i. left i && right i)

below_is : (a b : ℕ) → nat_lt a b ≡ true → a < b
below_is a b passes = grind (arith, nat_tests)

is_below : (a b : ℕ) → a < b → nat_lt a b ≡ true
is_below a b below = grind (arith, nat_tests)

module _ (moment : ℕ) (entry : Entry) where
  abbrev Begun : ℕ
  Begun = seconds_on (number_at entry.signed_data 12 4) moment

  abbrev Left : ℕ
  Left = seconds_on moment (number_at entry.signed_data 8 4)

  pub timely_by : is_timely moment entry ≡ true → IsTimely moment entry
  timely_by passes =
      let whole = both_pass (nat_lt 15 (length entry.signed_data) && nat_lt Begun (2 ^ 31)) (nat_lt Left (2 ^ 31)) passes in
      let first = both_pass (nat_lt 15 (length entry.signed_data)) (nat_lt Begun (2 ^ 31)) whole.0 in
      record {
        long = below_is 15 (length entry.signed_data) first.0;
        valid = record { begun = below_is Begun (2 ^ 31) first.1; not_over = below_is Left (2 ^ 31) whole.1 };
      }

  pub timely_passes : IsTimely moment entry → is_timely moment entry ≡ true
  timely_passes timely =
      pass_both (nat_lt 15 (length entry.signed_data) && nat_lt Begun (2 ^ 31)) (nat_lt Left (2 ^ 31))
      (pass_both (nat_lt 15 (length entry.signed_data)) (nat_lt Begun (2 ^ 31)) (is_below 15 (length entry.signed_data) timely.long) (is_below Begun (2 ^ 31) timely.valid.begun))
      (is_below Left (2 ^ 31) timely.valid.not_over)

  -- what is too short has no times
  pub short_fails : length entry.signed_data < 16 → false ≡ is_timely moment entry
  short_fails short =
      same_tests false (is_timely moment entry) (λ never. absurd (true≢false (sym never)))
      (λ passes. let long = (timely_by passes).long in absurd (omega (arith, short, long)))

  -- what the times say
  pub tested : (inception expiration : ℕ) (valid : Bool) → 16 ≤ length entry.signed_data
      → inception ≡ number_at entry.signed_data 12 4 → expiration ≡ number_at entry.signed_data 8 4
      → (IsTrue valid ↔ ValidAt inception expiration moment) → valid ≡ is_timely moment entry
  tested inception expiration valid long begins ends says =
      let Valid : ℕ → ℕ → Type 0 = λ i e. ValidAt i e moment in
      let to : ValidAt inception expiration moment → ValidAt (number_at entry.signed_data 12 4) (number_at entry.signed_data 8 4) moment =
      λ v. subst (λ i. Valid i (number_at entry.signed_data 8 4)) begins (subst (λ e. Valid inception e) ends v) in
      let from : ValidAt (number_at entry.signed_data 12 4) (number_at entry.signed_data 8 4) moment → ValidAt inception expiration moment =
      λ v. subst (λ e. Valid inception e) (sym ends) (subst (λ i. Valid i (number_at entry.signed_data 8 4)) (sym begins) v) in
      same_tests valid (is_timely moment entry)
      (λ passes. timely_passes (record { long = long; valid = to (says.0 passes) }))
      (λ passes. says.1 (from (timely_by passes).valid))

-- ---- the times in signed data

rest_of : (n p : ℕ) → n / p ≡ n / p % 256 + n / (p * 256) * 256
rest_of n p = omega (arith, div-div-eq-div-mul n p 256)

-- of a number its four octets keep what is left of 2^32
word_again : (n : ℕ) → number_from_digits 256 (to_be_bytes w32 n) ≡ n % 4294967296
word_again n = omega (arith, rest_of n 256, rest_of n 65536, rest_of n 16777216)

-- distances around a circle of n numbers don't ask for whole rounds
from_rounds : (n a m : ℕ) → (m + (n - a % n % n)) % n ≡ (m + (n - a % n)) % n
from_rounds n a m = ap (λ x. (m + (n - x)) % n) (mod-mod a n)

to_rounds : (n e k : ℕ) → (e % n + k) % n ≡ (e + k) % n
to_rounds n e k =
    let whole = div-add-mod' e n in
    let sums : e + k ≡ (e % n + k) + (e / n) * n = grind arith in
    sym (add-mul-mod_self_right (e % n + k) (e / n) n) ∙ ap (λ x. x % n) (sym sums)

from_word : (i m : ℕ) → seconds_on (i % 4294967296) m ≡ seconds_on i m
from_word i m = from_rounds 4294967296 i m

to_word : (m e : ℕ) → seconds_on m (e % 4294967296) ≡ seconds_on m e
to_word m e = to_rounds 4294967296 e (4294967296 - m % 4294967296)

fields_are : (rrsig : Rrsig) (rest octets : List ℕ) → octets ≡ signed_front rrsig ++ rest
    → (16 ≤ length octets) × (number_at octets 8 4 ≡ rrsig.expiration.0 % 4294967296)
    × (number_at octets 12 4 ≡ rrsig.inception.0 % 4294967296)
fields_are rrsig rest octets is =
    let long : 16 ≤ length (signed_front rrsig ++ rest) = omega arith in (
      subst (λ (xs : List ℕ). 16 ≤ length xs) (sym is) long,
      ap (λ xs. number_at xs 8 4) is ∙ word_again rrsig.expiration.0,
      ap (λ xs. number_at xs 12 4) is ∙ word_again rrsig.inception.0,
    )

-- an entry is timely where its signature is valid
module _ (moment : ℕ) (owner : Labels) (rtype : ℕ) (received : List (List ℕ)) (rrsig : Rrsig) (entry : Entry)
    (is : IsSignedData owner rtype received rrsig (Some entry.signed_data)) where
  fields : (16 ≤ length entry.signed_data) × (number_at entry.signed_data 8 4 ≡ rrsig.expiration.0 % 4294967296)
      × (number_at entry.signed_data 12 4 ≡ rrsig.inception.0 % 4294967296)
  fields = fields_are rrsig (flat_map (signed_record (signed_owner owner rrsig.labels) rtype rrsig.original_ttl.0) is.1) entry.signed_data is.3

  begun_same : seconds_on (number_at entry.signed_data 12 4) moment ≡ seconds_on rrsig.inception.0 moment
  begun_same = ap (λ i. seconds_on i moment) fields.2 ∙ from_word rrsig.inception.0 moment

  left_same : seconds_on moment (number_at entry.signed_data 8 4) ≡ seconds_on moment rrsig.expiration.0
  left_same = ap (λ e. seconds_on moment e) fields.1 ∙ to_word moment rrsig.expiration.0

  pub timely_is : IsTimely moment entry → ValidAt rrsig.inception.0 rrsig.expiration.0 moment
  timely_is timely = record {
    begun = subst (λ s. s < 2 ^ 31) begun_same timely.valid.begun;
    not_over = subst (λ s. s < 2 ^ 31) left_same timely.valid.not_over;
  }

  pub is_timely_where : ValidAt rrsig.inception.0 rrsig.expiration.0 moment → IsTimely moment entry
  is_timely_where valid = record {
    long = fields.0;
    valid = record {
      begun = subst (λ s. s < 2 ^ 31) (sym begun_same) valid.begun;
      not_over = subst (λ s. s < 2 ^ 31) (sym left_same) valid.not_over;
    };
  }

-- ---- the table of a moment

-- an entry that is asked within a range is asked at those moments of it at which it is timely
asked_at : (from to : ℕ) (rrsets : List ReceivedRrset) (moment : ℕ) (entry : Entry) → IsAskedWithin from to rrsets entry
    → IsTimely moment entry → IsAsked moment rrsets entry
asked_at from to rrsets moment entry within timely =
    let asked = within.asked in
    let admissible = asked.admissible in
    record {
      rrset = asked.rrset;
      rrsig = asked.rrsig;
      key = asked.key;
      among = asked.among;
      its = asked.its;
      key_among = asked.key_among;
      admissible = record {
        over = admissible.over;
        timely = timely_is moment asked.rrset.owner asked.rrset.rtype asked.rrset.rdata asked.rrsig entry asked.is.signed_data timely;
        signer = admissible.signer;
        unexpanded = admissible.unexpanded;
        zone_key = admissible.zone_key;
        named = admissible.named;
      };
      is = asked.is;
    }

timely_of : (rrsets : List ReceivedRrset) (moment : ℕ) (entry : Entry) → IsAsked moment rrsets entry → IsTimely moment entry
timely_of rrsets moment entry asked =
    is_timely_where moment asked.rrset.owner asked.rrset.rtype asked.rrset.rdata asked.rrsig entry asked.is.signed_data asked.admissible.timely

-- what is left of a table at a moment
abbrev pub left_at : TableContents → ℕ → TableContents
left_at table moment = record {
  moment = moment;
  rrsets = table.rrsets;
  answers = filter (λ (each : Entry × Answer). is_timely moment each.0) table.answers;
}

pub table_left : (table : TableContents) (moment : ℕ) → IsStrictlySortedBy entry_cmp (map (λ (each : Entry × Answer). each.0) table.answers)
    → IsTableAt table moment (left_at table moment)
table_left table moment rising = record {
  of_moment = refl;
  of_rrsets = refl;
  rising = rising_filtered (λ each. is_timely moment each.0) table.answers rising;
  members = λ each.
      let kept = kept_contains (λ (one : Entry × Answer). is_timely moment one.0) table.answers each in (
        λ found. let both = kept.0 found in (both.0, timely_by moment each.0 both.1),
        λ both. kept.1 (both.0, timely_passes moment each.0 both.1),
      );
}

pub table_within : (meaning : Entry → Answer) (from to : ℕ) (rrsets : List ReceivedRrset) (table : TableContents) (moment : ℕ)
    → IsTableWithin meaning from to rrsets table → from ≤ moment → moment ≤ to
    → IsTableOf meaning moment rrsets (left_at table moment)
table_within meaning from to rrsets table moment is begins ends = record {
  of_moment = refl;
  of_rrsets = is.of_rrsets;
  entries = filter (is_timely moment) is.entries;
  rising = IsStrictlySortedBy-filter entry_cmp (is_timely moment) is.entries is.asked.rising;
  asked = λ entry.
      let kept = kept_contains (is_timely moment) is.entries entry in (
        λ found. let both = kept.0 found in asked_at from to rrsets moment entry ((is.asked.members entry).0 both.0) (timely_by moment entry both.1),
        λ asked. kept.1 ((is.asked.members entry).1 (record { moment = moment; begins = begins; ends = ends; asked = asked }), timely_passes moment entry (timely_of rrsets moment entry asked)),
      );
  answers = ap (filter (λ (each : Entry × Answer). is_timely moment each.0)) is.answers
      ∙ filter_mapped (λ (entry : Entry). (entry, meaning entry)) (λ (each : Entry × Answer). is_timely moment each.0) is.entries;
}

-- by numbers

zip_parts : {X Y : Type 0} (pairs : List (X × Y)) → zip (map (λ (each : X × Y). each.0) pairs) (map (λ (each : X × Y). each.1) pairs) ≡ pairs
zip_parts [] = refl
zip_parts (each ∷ pairs) = ap (λ rest. each ∷ rest) (zip_parts pairs)

module _ (parts : PartLists) (numbers : List EntryNumbers) (answers : List Answer) (each : length answers ≡ length numbers)
    (moment : ℕ) where
  abbrev Kept : List (EntryNumbers × Answer)
  Kept = filter (is_timely_in moment parts) (zip numbers answers)

  left_numbers : map (λ (pair : EntryNumbers × Answer). pair.0) Kept ≡ filter (λ n. is_timely moment (entry_of parts n)) numbers
  left_numbers =
      sym (filter_mapped (λ (pair : EntryNumbers × Answer). pair.0) (λ n. is_timely moment (entry_of parts n)) (zip numbers answers))
      ∙ ap (filter (λ n. is_timely moment (entry_of parts n))) (firsts-zip numbers answers each)

  pub left_rising : AreRising parts numbers → AreRising parts (map (λ (pair : EntryNumbers × Answer). pair.0) Kept)
  left_rising are = subst (λ (ns : List EntryNumbers). AreRising parts ns) (sym left_numbers) (record {
    keys = are.keys;
    signatures = are.signatures;
    within = λ n found. are.within n ((kept_contains (λ m. is_timely moment (entry_of parts m)) numbers n).0 found).0;
    rising = IsStrictlySortedBy-filter numbers_cmp (λ n. is_timely moment (entry_of parts n)) numbers are.rising;
  })

  pub left_each : length (map (λ (pair : EntryNumbers × Answer). pair.1) Kept) ≡ length (map (λ (pair : EntryNumbers × Answer). pair.0) Kept)
  left_each =
      length-map Kept (λ (pair : EntryNumbers × Answer). pair.1) ∙ sym (length-map Kept (λ (pair : EntryNumbers × Answer). pair.0))

  left_table : (before : ℕ) (rrsets : List ReceivedRrset) → record {
    moment = moment;
    rrsets = rrsets;
    answers = answers_of parts (zip (map (λ (pair : EntryNumbers × Answer). pair.0) Kept) (map (λ (pair : EntryNumbers × Answer). pair.1) Kept));
  } ≡ left_at (record { moment = before; rrsets = rrsets; answers = answers_of parts (zip numbers answers) }) moment
  left_table before rrsets =
      let listed = ap (answers_of parts) (zip_parts Kept)
      ∙ sym (filter_mapped (λ (pair : EntryNumbers × Answer). (entry_of parts pair.0, pair.1)) (λ (one : Entry × Answer). is_timely moment one.0) (zip numbers answers)) in
      λ i. record { moment = moment; rrsets = rrsets; answers = listed i }

  pub left_by : (before : ℕ) (rrsets : List ReceivedRrset) (copied : PartLists) (kept : List EntryNumbers) (said : List Answer) (table result : TableContents)
      → copied ≡ parts → kept ≡ map (λ (pair : EntryNumbers × Answer). pair.0) Kept → said ≡ map (λ (pair : EntryNumbers × Answer). pair.1) Kept
      → record { moment = before; rrsets = rrsets; answers = answers_of parts (zip numbers answers) } ≡ table
      → result ≡ record { moment = moment; rrsets = rrsets; answers = answers_of copied (zip kept said) } → result ≡ left_at table moment
  left_by before rrsets copied kept said table result same numbers_are answers_are view is =
      is ∙ (λ i. record { moment = moment; rrsets = rrsets; answers = answers_of (same i) (zip (numbers_are i) (answers_are i)) })
      ∙ left_table before rrsets ∙ ap (λ (t : TableContents). left_at t moment) view

-- a range of one moment
asked_then : (moment : ℕ) (rrsets : List ReceivedRrset) (entry : Entry) → IsAskedWithin moment moment rrsets entry → IsAsked moment rrsets entry
asked_then moment rrsets entry within =
    let begins = within.begins in
    let ends = within.ends in
    let same : within.moment ≡ moment = omega arith in
    subst (λ m. IsAsked m rrsets entry) same within.asked

table_then : (meaning : Entry → Answer) (moment : ℕ) (rrsets : List ReceivedRrset) (table : TableContents)
    → table.moment ≡ moment → IsTableWithin meaning moment moment rrsets table → IsTableOf meaning moment rrsets table
table_then meaning moment rrsets table of_moment is =
    let itself : moment ≤ moment = omega arith in
    record {
      of_moment = of_moment;
      of_rrsets = is.of_rrsets;
      entries = is.entries;
      rising = is.asked.rising;
      asked = λ entry. (
        λ found. asked_then moment rrsets entry ((is.asked.members entry).0 found),
        λ asked. (is.asked.members entry).1 (record { moment = moment; begins = itself; ends = itself; asked = asked }),
      );
      answers = is.answers;
    }

pub ok_then : {E : Type 0} (meaning : Entry → Answer) (moment : ℕ) (rrsets : List ReceivedRrset) (range : Moments) (result : Result TableContents E)
    → range ≡ record { from = moment; to = moment } → IfOk result (λ table. table.moment ≡ range.from)
    → IfOk result (λ table. IsTableWithin meaning range.from range.to rrsets table) → IfOk result (λ table. IsTableOf meaning moment rrsets table)
ok_then meaning moment rrsets range (Ok table) one of_moment is =
    table_then meaning moment rrsets table (of_moment ∙ ap (λ (r : Moments). r.from) one)
    (subst (λ (r : Moments). IsTableWithin meaning r.from r.to rrsets table) one is)
ok_then meaning moment rrsets range (Err error) one of_moment is = tt

-- one list of answers
pub only_within : (meaning : Entry → Answer) (from to : ℕ) (rrsets : List ReceivedRrset) (a b : TableContents)
    → IsTableWithin meaning from to rrsets a → IsTableWithin meaning from to rrsets b → a.answers ≡ b.answers
only_within meaning from to rrsets a b first second =
    let entries : first.entries ≡ second.entries =
    rising_unique entry_cmp entry_cmp_total entry_Equal first.entries second.entries first.asked.rising second.asked.rising
    (λ e m. IsMember-from_contains second.entries e ((second.asked.members e).1 ((first.asked.members e).0 (Contains-from_member first.entries e m))))
    (λ e m. IsMember-from_contains first.entries e ((first.asked.members e).1 ((second.asked.members e).0 (Contains-from_member second.entries e m)))) in
    first.answers ∙ ap (answered meaning) entries ∙ sym second.answers
