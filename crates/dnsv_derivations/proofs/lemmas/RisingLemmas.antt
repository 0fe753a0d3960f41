-- Entries that rise.
use Rattle.std.proofs.Common.{◌≡◌, ◌<◌, ◌≤◌, ◌+◌, ◌-◌, ℕ, List, length, get_or, slice_index_or, arith, sym, ap, ◌∙◌, subst, ⊎_elim}
use Rattle.std.proofs.lemmas.Bool.{cases_lt}
use Rattle.std.proofs.lemmas.Cmp.{tied_itself}
use Rattle.std.specs.List.{Contains}
use Rattle.std.specs.Ordering.{ordering_reverse}
use Rattle.std.specs.declared.cmp.Ordering.TheVariants.{Less, Equal, Greater}
use Rattle.dnsv_verifier.specs.Entry.{entry_cmp}
use Rattle.dnsv_verifier.specs.EntryLaws.{entry_cmp_total}
use Rattle.dnsv_verifier.specs.declared.entry.Entry.{Entry}
use Rattle.dnsv_derivations.specs.Rising.{AreRising, AreRisingTo}

module _ (entries : List Entry) where
  pub rising_none : AreRisingTo entries 1
  rising_none = record { less = λ i j d before below within. absurd (omega (arith, before, below)) }

  abbrev At : ℕ → Entry → Entry
  At i d = get_or entries i d

  -- the one behind the first n, which are not none, is greater than the last of them
  pub rising_more : (n : ℕ) (a b : Entry) → 0 < n → n < length entries → ((other : Entry) → slice_index_or entries (n - 1) other ≡ a)
      → ((other : Entry) → slice_index_or entries n other ≡ b) → entry_cmp a b ≡ Less → AreRisingTo entries n → AreRisingTo entries (n + 1)
  rising_more n a b some inside at next less rising = record {
    less = λ i j d before below within. ⊎_elim
        (λ (earlier : j < n). rising.less i j d before earlier within)
        (λ (last : n ≤ j).
        let place : j ≡ n = omega (arith, below, last) in
        let top : At j d ≡ b = ap (λ (p : ℕ). At p d) place ∙ next d in
        let Under : Entry → Type 0 = λ each. entry_cmp (At i d) each ≡ Less in
        subst Under (sym top)
        (⊎_elim
        (λ (under : i < n - 1).
        let size : n - 1 < length entries = omega (arith, inside) in
        let step : entry_cmp (At i d) (At (n - 1) d) ≡ Less = rising.less i (n - 1) d under (omega (arith, some)) size in
        let Below : Entry → Type 0 = λ each. entry_cmp (At i d) each ≡ Less in
        entry_cmp_total.trans (At i d) a b (subst Below (at d) step) less)
        (λ (adjacent : n - 1 ≤ i).
        let here : i ≡ n - 1 = omega (arith, adjacent, before, place) in
        let Of : Entry → Type 0 = λ each. entry_cmp each b ≡ Less in
        subst Of (sym (ap (λ (p : ℕ). At p d) here ∙ at d)) less)
        (cases_lt i (n - 1))))
        (cases_lt j n);
  }

  -- of those that rise each is less than the next
  pub rising_next : (n : ℕ) (a b : Entry) → 0 < n → n < length entries → ((other : Entry) → slice_index_or entries (n - 1) other ≡ a)
      → ((other : Entry) → slice_index_or entries n other ≡ b) → AreRising entries → entry_cmp a b ≡ Less
  rising_next n a b some inside at next rising =
      let step : entry_cmp (At (n - 1) a) (At n a) ≡ Less = rising.less (n - 1) n a (omega (arith, some)) inside inside in
      let Of : Entry → Type 0 = λ each. entry_cmp each (At n a) ≡ Less in
      let Under : Entry → Type 0 = λ each. entry_cmp a each ≡ Less in
      subst Under (next a) (subst Of (at a) step)

  pub rising_all : (n : ℕ) → length entries ≤ n → AreRisingTo entries n → AreRising entries
  rising_all n past rising = record {
    less = λ i j d before below within. rising.less i j d before (omega (arith, within, past)) within;
  }

  -- ---- by halves

  module _ (wanted : Entry) where
    -- what is before the first place is less, what is from the second on is greater
    pub record LiesBetween (low high : ℕ) : Type 0 where
      pub order : low ≤ high
      pub within : high ≤ length entries
      pub before : (i : ℕ) → i < low → i < length entries → entry_cmp (At i wanted) wanted ≡ Less
      pub behind : (i : ℕ) → high ≤ i → i < length entries → entry_cmp (At i wanted) wanted ≡ Greater

    pub anywhere : (n : ℕ) → n ≡ length entries → LiesBetween 0 n
    anywhere n is = record {
      order = omega arith;
      within = omega (arith, is);
      before = λ i below within. absurd (omega (arith, below));
      behind = λ i above within. absurd (omega (arith, above, within, is));
    }

    pub above_middle : AreRising entries → (low high middle : ℕ) (found : Entry) → middle < high → ((other : Entry) → slice_index_or entries middle other ≡ found)
        → entry_cmp found wanted ≡ Less → LiesBetween low high → LiesBetween (middle + 1) high
    above_middle rising low high middle found inside at less lies = record {
      order = omega (arith, inside);
      within = lies.within;
      before = λ i below within. ⊎_elim
          (λ (under : i < middle).
          let top = lies.within in
          let step : entry_cmp (At i wanted) (At middle wanted) ≡ Less = rising.less i middle wanted under (omega (arith, inside, top)) (omega (arith, inside, top)) in
          let Below : Entry → Type 0 = λ each. entry_cmp (At i wanted) each ≡ Less in
          entry_cmp_total.trans (At i wanted) found wanted (subst Below (at wanted) step) less)
          (λ (last : middle ≤ i).
          let here : i ≡ middle = omega (arith, below, last) in
          let Of : Entry → Type 0 = λ each. entry_cmp each wanted ≡ Less in
          subst Of (sym (ap (λ (p : ℕ). At p wanted) here ∙ at wanted)) less)
          (cases_lt i middle);
      behind = lies.behind;
    }

    greater : (a b c : Entry) → entry_cmp a b ≡ Less → entry_cmp a c ≡ Greater → entry_cmp b c ≡ Greater
    greater a b c less more =
        let under : entry_cmp c a ≡ Less = entry_cmp_total.antisymm c a ∙ ap ordering_reverse more in
        entry_cmp_total.antisymm b c ∙ ap ordering_reverse (entry_cmp_total.trans c a b under less)

    pub below_middle : AreRising entries → (low high middle : ℕ) (found : Entry) → low ≤ middle → middle < high
        → ((other : Entry) → slice_index_or entries middle other ≡ found) → entry_cmp found wanted ≡ Greater → LiesBetween low high
        → LiesBetween low middle
    below_middle rising low high middle found from inside at more lies =
        let top = lies.within in record {
          order = from;
          within = omega (arith, inside, top);
          before = lies.before;
          behind = λ i above within. ⊎_elim
              (λ (over : middle < i).
              let step : entry_cmp (At middle wanted) (At i wanted) ≡ Less = rising.less middle i wanted over within within in
              let Below : Entry → Type 0 = λ each. entry_cmp each (At i wanted) ≡ Less in
              greater found (At i wanted) wanted (subst Below (at wanted) step) more)
              (λ (last : i ≤ middle).
              let here : i ≡ middle = omega (arith, above, last) in
              let Of : Entry → Type 0 = λ each. entry_cmp each wanted ≡ Greater in
              subst Of (sym (ap (λ (p : ℕ). At p wanted) here ∙ at wanted)) more)
              (cases_lt middle i);
        }

    pub nowhere : (low high : ℕ) → high ≤ low → LiesBetween low high → ¬ Contains entries wanted
    nowhere low high past lies there =
        let i = there.0 in
        let tied = tied_itself entry_cmp_total wanted in
        let Is : Entry → Type 0 = λ each. entry_cmp each wanted ≡ Equal in
        let equal : entry_cmp (At i wanted) wanted ≡ Equal = subst Is (sym there.2) tied in
        ⊎_elim
        (λ (under : i < low). let less = lies.before i under there.1 in let clash : Less ≡ Equal = sym less ∙ equal in cc)
        (λ (over : low ≤ i).
        let more = lies.behind i (omega (arith, past, over)) there.1 in let clash : Greater ≡ Equal = sym more ∙ equal in cc)
        (cases_lt i low)
