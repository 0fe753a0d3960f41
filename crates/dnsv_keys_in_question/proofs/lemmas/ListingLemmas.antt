-- Lists of what is so, and loops that make them.
use Rattle.std.proofs.Common.{◌≡◌, ◌<◌, ◌≤◌, ◌+◌, ℕ, List, [], ◌∷◌, ◌++◌, length, take, get_or, refl, sym, ap, ◌∙◌, subst, arith, append_assoc}
use Rattle.std.proofs.lemmas.List.{append-nil, length-take-le, take_all, take_more}
use Rattle.dnsv_derivations.specs.Listing.{AddsThose, AreOfNumbered}
use Rattle.dnsv_lines.specs.declared.line.Line.{Line}

-- ---- a list for each

module _ {X Y : Type 0} (Are : ℕ → X → List Y → Type 0) where
  one_numbered : (k : ℕ) (x : X) (ys : List Y) → Are k x ys → AreOfNumbered Are k (x ∷ []) ys
  one_numbered k x ys are = record { first = ys; second = []; parts = sym (append-nil ys); is_first = are; is_second = refl }

  numbered_more : (k : ℕ) (xs : List X) (x : X) (first last : List Y) → AreOfNumbered Are k xs first
      → Are (k + length xs) x last → AreOfNumbered Are k (xs ++ x ∷ []) (first ++ last)
  numbered_more k [] x first last none are =
      let At : ℕ → Type 0 = λ n. Are n x last in
      let All : List Y → Type 0 = λ front. AreOfNumbered Are k (x ∷ []) (front ++ last) in
      let here : k + 0 ≡ k = omega arith in
      subst All (sym none) (one_numbered k x last (subst At here are))
  numbered_more k (y ∷ xs) x first last each are =
      let At : ℕ → Type 0 = λ n. Are n x last in
      let there : k + length (y ∷ xs) ≡ k + 1 + length xs = omega arith in record {
        first = each.first;
        second = each.second ++ last;
        parts = ap (λ front. front ++ last) each.parts ∙ append_assoc each.first each.second last;
        is_first = each.is_first;
        is_second = numbered_more (k + 1) xs x each.second last each.is_second (subst At there are);
      }

  -- of one more, which stands at place i
  pub numbered_next : (xs : List X) (i : ℕ) (d x : X) (first last : List Y) → i < length xs → x ≡ get_or xs i d
      → AreOfNumbered Are 1 (take i xs) first → Are (i + 1) x last → AreOfNumbered Are 1 (take (i + 1) xs) (first ++ last)
  numbered_next xs i d x first last within at before are =
      let At : ℕ → Type 0 = λ n. Are n x last in
      let All : List X → Type 0 = λ each. AreOfNumbered Are 1 each (first ++ last) in
      let taken : take (i + 1) xs ≡ take i xs ++ x ∷ [] =
      take_more xs i d within ∙ ap (λ y. take i xs ++ y ∷ []) (sym at) in
      let so_many : length (take i xs) ≡ i = length-take-le i xs (omega (arith, within)) in
      let place : i + 1 ≡ 1 + length (take i xs) = omega (arith, so_many) in
      subst All (sym taken) (numbered_more 1 (take i xs) x first last before (subst At place are))

  pub numbered_all : (xs : List X) (n : ℕ) (ys : List Y) → length xs ≤ n → AreOfNumbered Are 1 (take n xs) ys
      → AreOfNumbered Are 1 xs ys
  numbered_all xs n ys past are =
      let All : List X → Type 0 = λ each. AreOfNumbered Are 1 each ys in subst All (take_all n xs past) are

-- ---- lines that are added

-- what was added is such by another name
pub added_as : (Are Others : List Line → Type 0) (old new : List Line) → ((lines : List Line) → Are lines → Others lines)
    → AddsThose Are old new → AddsThose Others old new
added_as Are Others old new leads added = record { more = added.more; is = added.is; says = leads added.more added.says }

module _ {X : Type 0} (Are : ℕ → X → List Line → Type 0) where
  pub next_added : (xs : List X) (i : ℕ) (d x : X) (old mid new : List Line) → i < length xs → x ≡ get_or xs i d
      → AddsThose (AreOfNumbered Are 1 (take i xs)) old mid → AddsThose (Are (i + 1) x) mid new
      → AddsThose (AreOfNumbered Are 1 (take (i + 1) xs)) old new
  next_added xs i d x old mid new within at before one = record {
    more = before.more ++ one.more;
    is = one.is ∙ ap (λ front. front ++ one.more) before.is ∙ append_assoc old before.more one.more;
    says = numbered_next Are xs i d x before.more one.more within at before.says one.says;
  }

  pub all_added : (xs : List X) (n : ℕ) (old new : List Line) → length xs ≤ n
      → AddsThose (AreOfNumbered Are 1 (take n xs)) old new → AddsThose (AreOfNumbered Are 1 xs) old new
  all_added xs n old new past =
      added_as (AreOfNumbered Are 1 (take n xs)) (AreOfNumbered Are 1 xs) old new (λ lines. numbered_all Are xs n lines past)
