-- Stretches one after another, and one more at their end.
use Rattle.std.proofs.Common.{◌≡◌, ℕ, ◌+◌, ◌-◌, ◌<◌, ◌≤◌, ◌⊎◌, inl, inr, List, [], ◌∷◌, ◌++◌, refl, sym, ap, ◌∙◌, subst, arith, ⊎_elim}
use Rattle.std.proofs.lemmas.Bool.{cases_lt}
use Rattle.std.specs.Prelude.{◌≢◌}
use Rattle.dnsv_timeline.specs.declared.stretch.Stretch.{Stretch}
use Rattle.dnsv_timeline.specs.Joined.{up_to}
use Rattle.dnsv_timeline.specs.Timeline.{AreSaid, AreWithoutGap, DiffersFrom, IsTimelineBy, NeighboursDiffer, Says}

-- ---- the last one

pub gap_split : {S : Type 0} (from behind : ℕ) (xs : List (Stretch S)) (x : Stretch S) → AreWithoutGap from behind (xs ++ x ∷ [])
    → AreWithoutGap from x.from xs × (x.from ≤ x.to) × (x.to + 1 ≡ behind)
gap_split from behind [] x gap = (sym gap.0, gap.1, gap.2)
gap_split from behind (y ∷ ys) x gap =
    let rest = gap_split (y.to + 1) behind ys x gap.2 in ((gap.0, gap.1, rest.0), rest.1, rest.2)

pub gap_join : {S : Type 0} (from behind : ℕ) (xs : List (Stretch S)) (x : Stretch S) → AreWithoutGap from x.from xs → x.from ≤ x.to
    → x.to + 1 ≡ behind → AreWithoutGap from behind (xs ++ x ∷ [])
gap_join from behind [] x front within end = (sym front, within, end)
gap_join from behind (y ∷ ys) x front within end = (front.0, front.1, gap_join (y.to + 1) behind ys x front.2 within end)

pub said_split : {S : Type 0} (Said : ℕ → S → Type 0) (xs : List (Stretch S)) (x : Stretch S) → AreSaid Said (xs ++ x ∷ [])
    → AreSaid Said xs × Says Said x
said_split Said [] x all = (tt, all.0)
said_split Said (y ∷ ys) x all = let rest = said_split Said ys x all.1 in ((all.0, rest.0), rest.1)

pub said_join : {S : Type 0} (Said : ℕ → S → Type 0) (xs : List (Stretch S)) (x : Stretch S) → AreSaid Said xs → Says Said x
    → AreSaid Said (xs ++ x ∷ [])
said_join Said [] x all last = (last, tt)
said_join Said (y ∷ ys) x all last = (all.0, said_join Said ys x all.1 last)

differs_last : {S : Type 0} (said : S) (xs : List (Stretch S)) (x y : Stretch S) → x.said ≡ y.said → DiffersFrom said (xs ++ x ∷ [])
    → DiffersFrom said (xs ++ y ∷ [])
differs_last said [] x y same d = ((λ e. d.0 (e ∙ sym same)), tt)
differs_last said (z ∷ zs) x y same d = (d.0, differs_last z.said zs x y same d.1)

pub neighbours_last : {S : Type 0} (xs : List (Stretch S)) (x y : Stretch S) → x.said ≡ y.said → NeighboursDiffer (xs ++ x ∷ [])
    → NeighboursDiffer (xs ++ y ∷ [])
neighbours_last [] x y same d = tt
neighbours_last (z ∷ zs) x y same d = differs_last z.said zs x y same d

differs_more : {S : Type 0} (said : S) (xs : List (Stretch S)) (x y : Stretch S) → DiffersFrom said (xs ++ x ∷ []) → x.said ≢ y.said
    → DiffersFrom said ((xs ++ x ∷ []) ++ y ∷ [])
differs_more said [] x y d other = (d.0, (other, tt))
differs_more said (z ∷ zs) x y d other = (d.0, differs_more z.said zs x y d.1 other)

pub neighbours_more : {S : Type 0} (xs : List (Stretch S)) (x y : Stretch S) → NeighboursDiffer (xs ++ x ∷ []) → x.said ≢ y.said
    → NeighboursDiffer ((xs ++ x ∷ []) ++ y ∷ [])
neighbours_more [] x y d other = (other, tt)
neighbours_more (z ∷ zs) x y d other = differs_more z.said zs x y d other

-- ---- what a timeline becomes

-- the last stretch goes on
pub goes_on : {S : Type 0} (Said : ℕ → S → Type 0) (from to : ℕ) (xs : List (Stretch S)) (last : Stretch S)
    → IsTimelineBy Said from last.to (xs ++ last ∷ []) → last.to ≤ to
    → ((moment : ℕ) → last.to ≤ moment → moment ≤ to → Said moment last.said)
    → IsTimelineBy Said from to (xs ++ up_to last to ∷ [])
goes_on Said from to xs last timeline further steady =
    let gap = gap_split from (last.to + 1) xs last timeline.without_gap in
    let each = said_split Said xs last timeline.each in
    let within : last.from ≤ to = omega (arith, gap.1, further) in
    let says : Says Said (up_to last to) = λ moment begins ends.
    ⊎_elim (λ (before : moment < last.to). each.1 moment begins (omega (arith, before)))
    (λ (behind : last.to ≤ moment). steady moment behind ends)
    (cases_lt moment last.to) in
    record {
      without_gap = gap_join from (to + 1) xs (up_to last to) gap.0 within refl;
      each = said_join Said xs (up_to last to) each.0 says;
      differ = neighbours_last xs last (up_to last to) refl timeline.differ;
    }

-- another one begins
pub begins_anew : {S : Type 0} (Said : ℕ → S → Type 0) (from before : ℕ) (xs : List (Stretch S)) (last new : Stretch S)
    → IsTimelineBy Said from before (xs ++ last ∷ []) → new.from ≡ before + 1 → new.to ≡ before + 1 → Said (before + 1) new.said
    → last.said ≢ new.said → IsTimelineBy Said from (before + 1) ((xs ++ last ∷ []) ++ new ∷ [])
begins_anew Said from before xs last new timeline begins ends is other = record {
  without_gap = gap_join from (before + 1 + 1) (xs ++ last ∷ []) new
      (subst (λ (m : ℕ). AreWithoutGap from m (xs ++ last ∷ [])) (sym begins) timeline.without_gap)
      (omega (arith, begins, ends)) (ap (λ (m : ℕ). m + 1) ends);
  each = said_join Said (xs ++ last ∷ []) new timeline.each
      (λ moment start end. let at : before + 1 ≡ moment = omega (arith, start, end, begins, ends) in
      subst (λ (m : ℕ). Said m new.said) at is);
  differ = neighbours_more xs last new timeline.differ other;
}

-- the first moment alone
pub one_moment : {S : Type 0} (Said : ℕ → S → Type 0) (from : ℕ) (only : Stretch S) → only.from ≡ from → only.to ≡ from → Said from only.said
    → IsTimelineBy Said from from (only ∷ [])
one_moment Said from only begins ends is = record {
  without_gap = (begins, omega (arith, begins, ends), ap (λ (m : ℕ). m + 1) ends);
  each = (
    (λ moment start end. let at : from ≡ moment = omega (arith, start, end, begins, ends) in subst (λ (m : ℕ). Said m only.said) at is),
    tt,
  );
  differ = tt;
}
