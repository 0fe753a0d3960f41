-- Steps that add the same lines each time.
use Rattle.std.proofs.Common.{◌≡◌, ◌∙◌, ⊎_elim, ℕ, ◌≤◌, List, [], ◌∷◌, ◌++◌, arith, sym, subst}
use Rattle.dnsv_derivations.specs.Saying.{AreBoth, AreEach, IsOnce}
use Rattle.dnsv_lines.specs.declared.line.Line.{Line}

-- the step adds the same lines each time
abbrev pub IsOne : (List Line → List Line → Type 0) → Type 0
IsOne Says = (before a b : List Line) → Says before a → Says before b → a ≡ b

pub one_both : (First Second : List Line → List Line → Type 0) → IsOne First → IsOne Second → IsOne (AreBoth First Second)
one_both First Second one_first one_second before a b x y =
    let first : x.first ≡ y.first = one_first before x.first y.first x.says_first y.says_first in
    let There : List Line → Type 0 = λ front. Second (before ++ front) x.second in
    let second : x.second ≡ y.second = one_second (before ++ y.first) x.second y.second (subst There first x.says_second) y.says_second in
    x.parts ∙ (λ i. first i ++ second i) ∙ sym y.parts

pub one_each : {X : Type 0} (Says : X → List Line → List Line → Type 0) → ((x : X) → IsOne (Says x)) → (xs : List X)
    → IsOne (AreEach Says xs)
one_each {X = X} Says one [] before a b x y = x ∙ sym y
one_each {X = X} Says one (each ∷ xs) before a b x y =
    one_both (Says each) (AreEach Says xs) (one each) (one_each Says one xs) before a b x y

-- a line that is said once
once : (IsSaid : List Line → Type 0) (line : Line) → IsOne (IsOnce IsSaid line)
once IsSaid line before a b x y = ⊎_elim
    (λ (said : IsSaid before × (a ≡ [])). ⊎_elim
    (λ (other : IsSaid before × (b ≡ [])). said.1 ∙ sym other.1)
    (λ (other : (¬ IsSaid before) × (b ≡ line ∷ [])). absurd (other.0 said.0)) y)
    (λ (unsaid : (¬ IsSaid before) × (a ≡ line ∷ [])). ⊎_elim
    (λ (other : IsSaid before × (b ≡ [])). absurd (unsaid.0 other.0))
    (λ (other : (¬ IsSaid before) × (b ≡ line ∷ [])). unsaid.1 ∙ sym other.1) y) x

pub one_once : {X : Type 0} (IsSaid : X → List Line → Type 0) (line_of : X → Line) (u v : X) → u ≡ v → (before a b : List Line)
    → IsOnce (IsSaid u) (line_of u) before a → IsOnce (IsSaid v) (line_of v) before b → a ≡ b
one_once {X = X} IsSaid line_of u v same before a b x y =
    let Once : X → Type 0 = λ each. IsOnce (IsSaid each) (line_of each) before a in
    once (IsSaid v) (line_of v) before a b (subst Once same x) y

-- ---- numbers

-- each is at most the other
pub even : (m n : ℕ) → m ≤ n → n ≤ m → m ≡ n
even m n up down = omega (arith, up, down)
