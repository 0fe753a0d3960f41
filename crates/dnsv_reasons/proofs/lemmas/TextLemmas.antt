-- The texts of lines, one after another.
use Rattle.std.proofs.Common.{◌≡◌, ◌<◌, ◌≤◌, ◌+◌, ℕ, List, [], ◌∷◌, ◌++◌, length, get_or, take, ap, subst, sym, ◌∙◌}
use Rattle.std.proofs.lemmas.List.{take_all, take_more}
use Rattle.std.specs.List.{AllByRecursion}
use Rattle.dnsv_lines.specs.declared.line.Line.{Line}
use Rattle.dnsv_mending.specs.Ways.{IsAmong}
use Rattle.dnsv_mending.proofs.AllWays.{all_append}
use Rattle.dnsv_reasons.specs.laws.Once.{TellsItsLine}
use Rattle.dnsv_reasons.proofs.lemmas.kept.KeptTold.{all_among}

-- one member more
pub first_more : {X : Type 0} (P : X → Type 0) (xs : List X) (i : ℕ) (x : X) → i < length xs → get_or xs i x ≡ x
    → AllByRecursion P (take i xs) → P x → AllByRecursion P (take (i + 1) xs)
first_more {X} P xs i x within here are is =
    subst (AllByRecursion P) (sym (take_more xs i x within ∙ ap (λ y. take i xs ++ y ∷ []) here))
    (all_append P (take i xs) (x ∷ []) are (is, tt))

-- all of them
pub first_all : {X : Type 0} (P : X → Type 0) (xs : List X) (n : ℕ) → length xs ≤ n → AllByRecursion P (take n xs) → AllByRecursion P xs
first_all {X} P xs n all are = subst (AllByRecursion P) (take_all n xs all) are

-- each text tells its line from each other
pub each_text : (lines : List Line) → AllByRecursion (λ line. AllByRecursion (TellsItsLine line) lines) lines
    → (x y : Line) → IsAmong x lines → IsAmong y lines → TellsItsLine x y
each_text lines all x y first second =
    all_among (TellsItsLine x) lines y (all_among (λ line. AllByRecursion (TellsItsLine line) lines) lines x all first) second
