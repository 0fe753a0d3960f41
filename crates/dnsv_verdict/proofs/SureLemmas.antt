-- What can't fail to be. Where a thing isn't decided, "it can't be that there is none" stands for "there is one".
pub mod FiniteLemmas
pub mod SomeProof
pub mod SomeVerdict
use Rattle.std.proofs.Common.{◌≡◌, ◌⊎◌, ◌+◌, ◌<◌, ◌≤◌, ℕ, zero, suc, inl, inr, ⊎_elim, sym, ap, ◌∙◌, subst, arith}
use Rattle.std.proofs.lemmas.Bool.{cases_lt}
use Rattle.std.specs.Cmp.{nat_cmp_is}
use Rattle.std.specs.Ordering.{nat_cmp, ordering_then}
use Rattle.std.specs.declared.cmp.Ordering.TheVariants.{Less, Equal, Greater}
use Rattle.dnsv_zones.specs.forms.Parts as parts
use Rattle.dnsv_denial.specs.unsigned_cuts.Cuts.{IsFewest, IsMost}
use Rattle.dnsv_proof_forms.specs.records.Numbers.{number_cmp}
use Rattle.dnsv_canonical.specs.declared.number.RecordNumber.{RecordNumber}
use Rattle.dnsv_verdict.specs.Secure.{IsFirstSuch}

abbrev pub Surely : Type 0 → Type 0
Surely X = (X → ⊥) → ⊥

pub surely : {X : Type 0} → X → Surely X
surely x = λ none. none x

pub and_then : {X Y : Type 0} → Surely X → (X → Surely Y) → Surely Y
and_then some next = λ none. some (λ x. next x none)

-- what holds in both cases
pub by_cases : {Y : Type 0} (X : Type 0) → (X → Surely Y) → ((X → ⊥) → Surely Y) → Surely Y
by_cases X holds fails = λ none. fails (λ x. holds x none) none

-- ---- the least number

fewest_below : (P : ℕ → Type 0) (bound n : ℕ) → n < bound → P n → Surely ((m : ℕ) × IsFewest P m)
fewest_below P zero n below p = absurd (omega (arith, below))
fewest_below P (suc bound) n below p =
    by_cases ((m : ℕ) × (m < n) × P m)
    (λ found. fewest_below P bound found.0 (omega (arith, below, found.1)) found.2)
    (λ none. surely (n, record { holds = p; fewest = λ fewer less q. none (fewer, less, q) }))

pub some_fewest : (P : ℕ → Type 0) (n : ℕ) → P n → Surely ((m : ℕ) × IsFewest P m)
some_fewest P n p = fewest_below P (suc n) n (omega arith) p

-- ---- the greatest of those that a number bounds

most_within : (P : ℕ → Type 0) (bound : ℕ) → ((n : ℕ) → P n → n ≤ bound) → (room n : ℕ) → bound ≤ n + room → P n
    → Surely ((m : ℕ) × IsMost P m)
most_within P bound limit zero n near p =
    surely (n, record { holds = p; most = λ more less q. omega (arith, near, less, limit more q) })
most_within P bound limit (suc room) n near p =
    by_cases ((m : ℕ) × (n < m) × P m)
    (λ found. most_within P bound limit room found.0 (omega (arith, near, found.1)) found.2)
    (λ none. surely (n, record { holds = p; most = λ more less q. none (more, less, q) }))

pub some_most : (P : ℕ → Type 0) (bound : ℕ) → ((n : ℕ) → P n → n ≤ bound) → (n : ℕ) → P n → Surely ((m : ℕ) × IsMost P m)
some_most P bound limit n p = most_within P bound limit bound n (omega arith) p

-- ---- the first pair of numbers

after_first_such : (Such : ℕ → ℕ → Type 0) (k s j r : ℕ) → ((fewer : ℕ) → fewer < k → ((n : ℕ) × Such fewer n) → ⊥)
    → ((fewer : ℕ) → fewer < s → Such k fewer → ⊥) → Such j r → (k < j) ⊎ ((k ≡ j) × (s ≤ r))
after_first_such Such k s j r rows columns other =
    ⊎_elim (λ (less : j < k). absurd (rows j less (r, other)))
    (λ (least : k ≤ j). ⊎_elim (λ (more : k < j). inl more)
    (λ (most : j ≤ k). let same : k ≡ j = omega (arith, least, most) in
    ⊎_elim (λ (below : r < s). absurd (columns r below (subst (λ n. Such n r) (sym same) other)))
    (λ (at_least : s ≤ r). inr (same, at_least)) (cases_lt r s))
    (cases_lt k j))
    (cases_lt j k)

pub some_first_such : (Such : ℕ → ℕ → Type 0) (k s : ℕ) → Such k s → Surely ((j : ℕ) × (r : ℕ) × IsFirstSuch Such j r)
some_first_such Such k s such =
    and_then (some_fewest (λ j. (r : ℕ) × Such j r) k (s, such))
    (λ row. and_then (some_fewest (λ r. Such row.0 r) row.1.holds.0 row.1.holds.1)
    (λ column. surely (
      row.0,
      column.0,
      record {
        such = column.1.holds;
        earliest = λ j r other. after_first_such Such row.0 column.0 j r row.1.fewest column.1.fewest other;
      },
    )))

-- ---- the first record by its number

not_less : (a b : RecordNumber) → (a.rrset < b.rrset) ⊎ ((a.rrset ≡ b.rrset) × (a.place ≤ b.place)) → number_cmp b a ≡ Less → ⊥
not_less a b (inl more) less =
    let order : Greater ≡ nat_cmp b.rrset a.rrset = nat_cmp_is b.rrset a.rrset Greater more in
    let clash : Greater ≡ Less = ap (λ o. ordering_then o (nat_cmp b.place a.place)) order ∙ less in cc
not_less a b (inr (same, at_most)) less =
    let order : Equal ≡ nat_cmp b.rrset a.rrset = nat_cmp_is b.rrset a.rrset Equal (sym same) in
    let places : nat_cmp b.place a.place ≡ Less = ap (λ o. ordering_then o (nat_cmp b.place a.place)) order ∙ less in
    ⊎_elim (λ (more : a.place < b.place). let clash : Greater ≡ Less = nat_cmp_is b.place a.place Greater more ∙ places in cc)
    (λ (least : b.place ≤ a.place).
    let equal : b.place ≡ a.place = omega (arith, at_most, least) in
    let clash : Equal ≡ Less = nat_cmp_is b.place a.place Equal equal ∙ places in cc)
    (cases_lt a.place b.place)

pub some_record : (Says : RecordNumber → Type 0) (number : RecordNumber) → Says number
    → Surely ((first : RecordNumber) × parts.IsFirstToSay number_cmp Says first)
some_record Says number says =
    and_then (some_first_such (λ k p. Says (record { rrset = k; place = p })) number.rrset number.place says)
    (λ found. surely (
      record { rrset = found.0; place = found.1 },
      record {
        says = found.2.such;
        earliest = λ other said. not_less (record { rrset = found.0; place = found.1 }) other (found.2.earliest other.rrset other.place said);
      },
    ))
