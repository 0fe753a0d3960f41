-- Lines that are said one after another.
use Rattle.std.proofs.Common.{◌≡◌, ◌<◌, ◌≤◌, ◌+◌, ℕ, List, [], ◌∷◌, ◌++◌, length, take, get_or, refl, sym, ap, ◌∙◌, subst, append_assoc}
use Rattle.std.proofs.lemmas.List.{append-nil, take_all, take_more}
use Rattle.dnsv_derivations.specs.Saying.{Adds, AreBoth, AreEach}
use Rattle.dnsv_lines.specs.declared.line.Line.{Line}

pub nothing_added : (lines : List Line) (Says : List Line → List Line → Type 0) → Says lines [] → Adds Says lines lines
nothing_added lines Says says = record { more = []; is = sym (append-nil lines); says = says }

pub both_added : (First Second : List Line → List Line → Type 0) (old mid new : List Line) → Adds First old mid → Adds Second mid new
    → Adds (AreBoth First Second) old new
both_added First Second old mid new one two =
    let Then : List Line → Type 0 = λ before. Second before two.more in record {
      more = one.more ++ two.more;
      is = two.is ∙ ap (λ front. front ++ two.more) one.is ∙ append_assoc old one.more two.more;
      says = record { first = one.more; second = two.more; parts = refl; says_first = one.says; says_second = subst Then one.is two.says };
    }

module _ {X : Type 0} (Says : X → List Line → List Line → Type 0) where
  one_each : (x : X) (before lines : List Line) → Says x before lines → AreEach Says (x ∷ []) before lines
  one_each x before lines says = record {
    first = lines;
    second = [];
    parts = sym (append-nil lines);
    says_first = says;
    says_second = refl;
  }

  one_more : (xs : List X) (x : X) (before first last : List Line) → AreEach Says xs before first → Says x (before ++ first) last
      → AreEach Says (xs ++ x ∷ []) before (first ++ last)
  one_more [] x before first last each says =
      let Then : List Line → Type 0 = λ lines. Says x lines last in
      let All : List Line → Type 0 = λ lines. AreEach Says (x ∷ []) before (lines ++ last) in
      subst All (sym each) (one_each x before last (subst Then (ap (λ lines. before ++ lines) each ∙ append-nil before) says))
  one_more (y ∷ xs) x before first last each says =
      let Then : List Line → Type 0 = λ lines. Says x lines last in record {
        first = each.first;
        second = each.second ++ last;
        parts = ap (λ lines. lines ++ last) each.parts ∙ append_assoc each.first each.second last;
        says_first = each.says_first;
        says_second = one_more xs x (before ++ each.first) each.second last each.says_second
            (subst Then (ap (λ lines. before ++ lines) each.parts ∙ sym (append_assoc before each.first each.second)) says);
      }

  -- ---- a loop over them

  pub none_added : (lines : List Line) (xs : List X) → Adds (AreEach Says (take 0 xs)) lines lines
  none_added lines xs = nothing_added lines (AreEach Says []) refl

  pub next_added : (xs : List X) (i : ℕ) (d x : X) (old mid new : List Line) → i < length xs → x ≡ get_or xs i d
      → Adds (AreEach Says (take i xs)) old mid → Adds (Says x) mid new → Adds (AreEach Says (take (i + 1) xs)) old new
  next_added xs i d x old mid new within at before one =
      let Then : List Line → Type 0 = λ lines. Says x lines one.more in
      let Each : List X → Type 0 = λ each. AreEach Says each old (before.more ++ one.more) in
      let taken : take (i + 1) xs ≡ take i xs ++ x ∷ [] =
      take_more xs i d within ∙ ap (λ y. take i xs ++ y ∷ []) (sym at) in record {
        more = before.more ++ one.more;
        is = one.is ∙ ap (λ front. front ++ one.more) before.is ∙ append_assoc old before.more one.more;
        says = subst Each (sym taken) (one_more (take i xs) x old before.more one.more before.says (subst Then before.is one.says));
      }

  pub all_added : (xs : List X) (n : ℕ) (old new : List Line) → length xs ≤ n → Adds (AreEach Says (take n xs)) old new
      → Adds (AreEach Says xs) old new
  all_added xs n old new past added =
      let Each : List X → Type 0 = λ each. Adds (AreEach Says each) old new in subst Each (take_all n xs past) added
