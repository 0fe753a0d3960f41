-- The laws of text files in which each line says a value, for proofs: a file says one list of values or has one first
-- fault, and never both.
use Rattle.std.proofs.Common.{◌≡◌, ℕ, List, [], ◌∷◌, ◌++◌, refl, sym, ap, ◌∙◌, subst, ◌⊎◌, inl, inr}
use Rattle.dnsv_names.specs.Lines.LineFile.{HasFirstFault, SayEach, SaysValues}
use Rattle.dnsv_names.specs.Lines.LineLaws.{HasLines-only}
use Rattle.dnsv_names.specs.Lines.{NumberedLine}

-- What a kind of file has to fulfil: a line says one value and has one fault, and none is at fault where what it says
-- stands in a file.
pub record IsLineFile {Value Fault : Type 0} (Says : List ℕ → Value → Type 0) (MayStand : List Value → Type 0)
    (IsFaultOfLine : Fault → NumberedLine → List Value → Type 0) : Type 0 where
  pub one_value : (line : List ℕ) (a b : Value) → Says line a → Says line b → a ≡ b
  pub one_fault : (line : NumberedLine) (before : List Value) (a b : Fault) → IsFaultOfLine a line before
      → IsFaultOfLine b line before → a ≡ b
  pub no_fault : (line : NumberedLine) (before : List Value) (value : Value) (behind : List Value)
      → Says line.octets value → MayStand (before ++ value ∷ behind) → (fault : Fault) → IsFaultOfLine fault line before → ⊥

-- two places in one list
abbrev Places : List NumberedLine → NumberedLine → List NumberedLine → NumberedLine → Type 0
Places a x b y =
    ((a ≡ b) × (x ≡ y)) ⊎ (((more : List NumberedLine) × (b ≡ a ++ x ∷ more)) ⊎ ((more : List NumberedLine) × (a ≡ b ++ y ∷ more)))

further : (z w x y : NumberedLine) (a b : List NumberedLine) → z ≡ w → Places a x b y → Places (z ∷ a) x (w ∷ b) y
further z w x y a b same (inl here) = inl (ap (λ l. l ∷ a) same ∙ ap (λ ls. w ∷ ls) here.0, here.1)
further z w x y a b same (inr (inl later)) =
    inr (inl (later.0, ap (λ l. l ∷ b) (sym same) ∙ ap (λ ls. z ∷ ls) later.1))
further z w x y a b same (inr (inr earlier)) =
    inr (inr (earlier.0, ap (λ l. l ∷ a) same ∙ ap (λ ls. w ∷ ls) earlier.1))

places : (a b : List NumberedLine) (x y : NumberedLine) (behind_a behind_b : List NumberedLine)
    → a ++ x ∷ behind_a ≡ b ++ y ∷ behind_b → Places a x b y
places [] [] x y behind_a behind_b e = inl (refl, cc)
places [] (w ∷ b) x y behind_a behind_b e = let first : w ≡ x = cc in inr (inl (b, ap (λ l. l ∷ b) first))
places (z ∷ a) [] x y behind_a behind_b e = let first : z ≡ y = cc in inr (inr (a, ap (λ l. l ∷ a) first))
places (z ∷ a) (w ∷ b) x y behind_a behind_b e =
    let first : z ≡ w = cc in
    let rest : a ++ x ∷ behind_a ≡ b ++ y ∷ behind_b = cc in
    further z w x y a b first (places a b x y behind_a behind_b rest)

module _ {Value Fault : Type 0} {Says : List ℕ → Value → Type 0} {MayStand : List Value → Type 0} {IsFaultOfLine : Fault → NumberedLine → List Value → Type 0}
    (kind : IsLineFile Says MayStand IsFaultOfLine) where
  SayEach-only : (lines : List NumberedLine) (a b : List Value) → SayEach Says lines a → SayEach Says lines b → a ≡ b
  SayEach-only [] [] [] first second = refl
  SayEach-only [] [] (y ∷ b) first second = absurd second
  SayEach-only [] (x ∷ a) b first second = absurd first
  SayEach-only (line ∷ lines) [] b first second = absurd first
  SayEach-only (line ∷ lines) (x ∷ a) [] first second = absurd second
  SayEach-only (line ∷ lines) (x ∷ a) (y ∷ b) first second =
      ap (λ z. z ∷ a) (kind.one_value line.octets x y first.0 second.0) ∙ ap (λ zs. y ∷ zs) (SayEach-only lines a b first.1 second.1)

  -- what a line behind others says
  said_behind : (before : List NumberedLine) (line : NumberedLine) (more : List NumberedLine) (first all : List Value)
      → SayEach Says before first → SayEach Says (before ++ line ∷ more) all
      → (value : Value) × (behind : List Value) × (all ≡ first ++ value ∷ behind) × Says line.octets value
  said_behind [] line more [] [] each whole = absurd whole
  said_behind [] line more [] (value ∷ all) each whole = (value, all, refl, whole.0)
  said_behind [] line more (x ∷ first) all each whole = absurd each
  said_behind (l ∷ before) line more [] all each whole = absurd each
  said_behind (l ∷ before) line more (x ∷ first) [] each whole = absurd whole
  said_behind (l ∷ before) line more (x ∷ first) (y ∷ all) each whole =
      let behind = said_behind before line more first all each.1 whole.1 in
      let same = kind.one_value l.octets y x whole.0 each.0 in
      (behind.0, behind.1, ap (λ z. z ∷ all) same ∙ ap (λ zs. x ∷ zs) behind.2, behind.3)

  -- no line of values that may stand in one file is at fault
  none_at_fault : (before : List NumberedLine) (line : NumberedLine) (more : List NumberedLine) (first all : List Value)
      → SayEach Says before first → SayEach Says (before ++ line ∷ more) all → MayStand all → (fault : Fault)
      → IsFaultOfLine fault line first → ⊥
  none_at_fault before line more first all each whole may_stand fault there =
      let (value, behind, parted, says) = said_behind before line more first all each whole in
      kind.no_fault line first value behind says (subst MayStand parted may_stand) fault there

  -- a file says one list of values
  pub SaysValues-only : (text : List ℕ) (a b : List Value) → SaysValues Says MayStand text a → SaysValues Says MayStand text b → a ≡ b
  SaysValues-only text a b first second =
      let Say : List NumberedLine → Type 0 = λ lines. SayEach Says lines b in
      SayEach-only first.lines a b first.each (subst Say (HasLines-only text second.lines first.lines second.has first.has) second.each)

  -- a file that says values has no fault
  pub SaysValues-no_fault : (text : List ℕ) (values : List Value) (fault : Fault) → SaysValues Says MayStand text values
      → HasFirstFault Says MayStand IsFaultOfLine text fault → ⊥
  SaysValues-no_fault text values fault are is =
      let Say : List NumberedLine → Type 0 = λ lines. SayEach Says lines values in
      none_at_fault is.before is.line is.after is.values values is.each
      (subst Say (HasLines-only text are.lines (is.before ++ is.line ∷ is.after) are.has is.has) are.each) are.may_stand fault is.there

  faults_at : (text : List ℕ) (a b : Fault) (first : HasFirstFault Says MayStand IsFaultOfLine text a)
      (second : HasFirstFault Says MayStand IsFaultOfLine text b) → Places first.before first.line second.before second.line → a ≡ b
  faults_at text a b first second (inl here) =
      let Say : List NumberedLine → Type 0 = λ lines. SayEach Says lines second.values in
      let values : first.values ≡ second.values =
      SayEach-only first.before first.values second.values first.each (subst Say (sym here.0) second.each) in
      let AtLine : NumberedLine → Type 0 = λ line. IsFaultOfLine b line second.values in
      let Behind : List Value → Type 0 = λ values. IsFaultOfLine b first.line values in
      kind.one_fault first.line first.values a b first.there (subst Behind (sym values) (subst AtLine (sym here.1) second.there))
  faults_at text a b first second (inr (inl later)) =
      let Say : List NumberedLine → Type 0 = λ lines. SayEach Says lines second.values in
      absurd (none_at_fault first.before first.line later.0 first.values second.values first.each (subst Say later.1 second.each) second.may_stand a first.there)
  faults_at text a b first second (inr (inr earlier)) =
      let Say : List NumberedLine → Type 0 = λ lines. SayEach Says lines first.values in
      absurd (none_at_fault second.before second.line earlier.0 second.values first.values second.each (subst Say earlier.1 first.each) first.may_stand b second.there)

  -- a file has one first fault
  pub HasFirstFault-only : (text : List ℕ) (a b : Fault) → HasFirstFault Says MayStand IsFaultOfLine text a
      → HasFirstFault Says MayStand IsFaultOfLine text b → a ≡ b
  HasFirstFault-only text a b first second =
      faults_at text a b first second
      (places first.before second.before first.line second.line first.after second.after (HasLines-only text (first.before ++ first.line ∷ first.after) (second.before ++ second.line ∷ second.after) first.has second.has))
