-- What an NSEC record shows to be a node, it shows of the names above; what it shows to be none, of those below.
use Rattle.std.proofs.Common.{◌≡◌, ◌≢◌, ℕ, ◌+◌, ◌-◌, ◌<◌, ◌≤◌, ◌⊎◌, true, false, List, length, subst, inl, inr, ⊎_elim, arith}
use Rattle.std.proofs.lemmas.Bool.{cases_lt}
use Rattle.std.proofs.lemmas.Bool.Decides.{eqb_tells}
use lib.Dec.{eqb}
use Rattle.std.specs.Prelude.{Some, slice_get}
use Rattle.std.proofs.lemmas.Option.{slice_get_within}
use Rattle.dnsv_names.specs.Name.{Labels, SameName, IsAtOrBelow, rightmost}
use Rattle.dnsv_names.specs.Order.{IsBelow}
use Rattle.dnsv_names.specs.Order.OrderLaws.{canonical_cmp_total}
use Rattle.dnsv_names.specs.Circle.CircleLaws.{gap_cases, gap_without_owner}
use Rattle.dnsv_names.specs.Circle.NameCircleLaws.{same_gap, next_at_or_below}
use Rattle.dnsv_names.specs.Tree.TreeLaws.{at_or_below_cases, at_or_below_trans, either_above, same_labels}
use Rattle.dnsv_names.specs.Tree.AncestorLaws.{rightmost_in_line, rightmost_length}
use Rattle.dnsv_zones.specs.chains.NsecChain.{NsecRecord}
use Rattle.dnsv_zones.specs.forms.Forms.{IsAbove}
use Rattle.dnsv_zones.specs.forms.Nsec.{Covers, IsAbsentBy, IsNoCutAbove, IsNodeBy}
use Rattle.dnsv_proof_forms.specs.forms.EndLimits.{DeniesNoFewer, HoldsOfFirst, ShowsNoMore}
use Rattle.dnsv_proof_forms.specs.records.Record.{read_entry}
use Rattle.dnsv_proof_forms.specs.words.SaidAt.{IsSaidAt}
use Rattle.dnsv_proof_forms.specs.declared.records.entry.NsecEntry.{NsecEntry}

module _ (r : NsecRecord) (a x : Labels) (under : IsAtOrBelow x a) where
  pub node_higher : IsNodeBy r x → IsNodeBy r a
  node_higher node =
      ⊎_elim (λ (owner : IsAtOrBelow r.owner x). inl (at_or_below_trans r.owner x a owner under))
      (λ (next : IsAtOrBelow r.next x). inr (at_or_below_trans r.next x a next under)) node

  covers_deeper : IsAbsentBy r a → Covers r x
  covers_deeper absent =
      ⊎_elim (λ (inside : Covers r x). inside)
      (λ (outside : ¬ Covers r x). absurd (absent.nothing_below (next_at_or_below r.owner r.next a x outside absent.covers under)))
      (gap_cases canonical_cmp_total r.owner r.next x)

  no_cut_deeper : IsAbsentBy r a → IsNoCutAbove r x
  no_cut_deeper absent below =
      ⊎_elim (λ (higher : IsAtOrBelow a r.owner).
      ⊎_elim (λ (same : SameName a r.owner). absurd (gap_without_owner canonical_cmp_total (same_gap r.owner r.next a r.owner same absent.covers)))
      (λ (deeper : IsBelow a r.owner). absent.no_cut_above deeper) (at_or_below_cases a r.owner higher))
      (λ (inside : IsBelow r.owner a). absurd (absent.nothing_below
      (next_at_or_below r.owner r.next a r.owner (λ gap. gap_without_owner canonical_cmp_total gap) absent.covers inside.0)))
      (either_above x a r.owner under below.0)

  pub absent_deeper : IsAbsentBy r a → IsAbsentBy r x
  absent_deeper absent = record {
    covers = covers_deeper absent;
    no_cut_above = no_cut_deeper absent;
    nothing_below = λ below. absent.nothing_below (at_or_below_trans r.next x a below under);
  }

-- ---- of one record

module _ (name : Labels) (entry : NsecEntry) where
  pub shows_no_more : (shown : ℕ) → ¬ IsNodeBy (read_entry entry) (rightmost name (shown + 1)) → ShowsNoMore name shown entry
  shows_no_more shown none labels more within node =
      none (node_higher (read_entry entry) (rightmost name (shown + 1)) (rightmost name labels) (rightmost_in_line name labels (shown + 1) (omega (arith, more))) node)

  pub denies_no_fewer : (absent : ℕ) → 0 < absent → ¬ IsAbsentBy (read_entry entry) (rightmost name (absent - 1)) → DeniesNoFewer name absent entry
  denies_no_fewer absent some none labels fewer denies =
      none (absent_deeper (read_entry entry) (rightmost name labels) (rightmost name (absent - 1)) (rightmost_in_line name (absent - 1) labels (omega (arith, fewer))) denies)

-- ---- of the first records

less : (k n : ℕ) → k < n + 1 → k ≢ n → k < n
less k n small other = omega arith

holds_with : (P Q : NsecEntry → Type 0) (entries : List NsecEntry) (n : ℕ) (entry : NsecEntry) → slice_get entries n ≡ Some entry
    → ((e : NsecEntry) → P e → Q e) → Q entry → HoldsOfFirst P entries n → HoldsOfFirst Q entries (n + 1)
holds_with P Q entries n entry there leads holds before k e small at =
    ⊎_elim (λ (same : (eqb k n ≡ true) × (k ≡ n)). let at_n : slice_get entries n ≡ Some e = subst (λ m. slice_get entries m ≡ Some e) same.1 at in
    let is : entry ≡ e = cc in subst Q is holds)
    (λ (other : (eqb k n ≡ false) × (k ≢ n)). leads e (before k e (less k n small other.1) at))
    (eqb_tells k n)

module _ (name : Labels) (entries : List NsecEntry) (n : ℕ) (entry : NsecEntry) (there : slice_get entries n ≡ Some entry) where
  pub shown_more : (shown more : ℕ) → shown ≤ more → ShowsNoMore name more entry
      → HoldsOfFirst (ShowsNoMore name shown) entries n → HoldsOfFirst (ShowsNoMore name more) entries (n + 1)
  shown_more shown more rising =
      holds_with (ShowsNoMore name shown) (ShowsNoMore name more) entries n entry there (λ e shows labels above. shows labels (omega (arith, rising, above)))

  pub absent_fewer : (absent fewer : ℕ) → fewer ≤ absent → DeniesNoFewer name fewer entry
      → HoldsOfFirst (DeniesNoFewer name absent) entries n → HoldsOfFirst (DeniesNoFewer name fewer) entries (n + 1)
  absent_fewer absent fewer falling =
      holds_with (DeniesNoFewer name absent) (DeniesNoFewer name fewer) entries n entry there (λ e denies labels below. denies labels (omega (arith, falling, below)))

-- ---- of all

module _ (apex name : Labels) (entries : List NsecEntry) (labels : ℕ) (above : IsAbove apex name labels) where
  pub shown_within : (shown : ℕ) → length apex ≤ shown → HoldsOfFirst (ShowsNoMore name shown) entries (length entries)
      → SameName (rightmost name labels) apex ⊎ ((place : ℕ) × IsSaidAt (λ entry. IsNodeBy (read_entry entry) (rightmost name labels)) entries place)
      → labels ≤ shown
  shown_within shown least holds (inl same) =
      omega (arith, least, same_labels (rightmost name labels) apex same, rightmost_length name labels (omega (arith, above.proper)))
  shown_within shown least holds (inr said) =
      ⊎_elim (λ (more : shown < labels). absurd (holds said.0 said.1.entry (slice_get_within entries said.0 said.1.entry said.1.there) said.1.there labels more (omega (arith, above.proper)) said.1.says))
      (λ (fits : labels ≤ shown). fits) (cases_lt shown labels)

  pub absent_within : (absent : ℕ) → HoldsOfFirst (DeniesNoFewer name absent) entries (length entries)
      → ((place : ℕ) × IsSaidAt (λ entry. IsAbsentBy (read_entry entry) (rightmost name (labels + 1))) entries place) → absent ≤ labels + 1
  absent_within absent holds said =
      ⊎_elim (λ (fewer : labels + 1 < absent). absurd (holds said.0 said.1.entry (slice_get_within entries said.0 said.1.entry said.1.there) said.1.there (labels + 1) fewer said.1.says))
      (λ (fits : absent ≤ labels + 1). fits) (cases_lt (labels + 1) absent)
