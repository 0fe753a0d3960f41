-- Reading a text file in which each line says a value, line by line.
use Rattle.std.proofs.Common.{◌≡◌, ◌⊎◌, inl, inr, ℕ, Result, Err, List, [], ◌∷◌, ◌++◌, refl, sym, ap, ◌∙◌, subst, append_assoc}
use Rattle.std.proofs.lemmas.List.{append-nil}
use Rattle.dnsv_names.specs.Lines.LineFile.{BeginsWithValue, HasFirstFault, SayEach, SaysValues}
use Rattle.dnsv_names.specs.Lines.LineFileLaws.{HasFirstFault-only, IsLineFile}
use Rattle.dnsv_names.specs.Lines.LineLaws.{HasLines-read}
use Rattle.dnsv_names.specs.Lines.LineReading.{lines_in}
use Rattle.dnsv_names.specs.Lines.{HasLines, NumberedLine, kept_from}

-- ---- the lines that were read, and those that are left

pub has_more : (text : List ℕ) (read left rest : List NumberedLine) (line : NumberedLine) → left ≡ line ∷ rest → HasLines text (read ++ left) → HasLines text ((read ++ line ∷ []) ++ rest)
has_more text read left rest line next has =
    let P : List NumberedLine → Type 0 = λ lines. HasLines text lines in
    subst P (ap (λ lines. read ++ lines) next ∙ sym (append_assoc read (line ∷ []) rest)) has

pub has_next : (text : List ℕ) (read left rest : List NumberedLine) (line : NumberedLine) → left ≡ line ∷ rest → HasLines text (read ++ left) → HasLines text (read ++ line ∷ rest)
has_next text read left rest line next has =
    let P : List NumberedLine → Type 0 = λ lines. HasLines text lines in
    subst P (ap (λ lines. read ++ lines) next) has

pub has_all : (text : List ℕ) (read left : List NumberedLine) → left ≡ [] → HasLines text (read ++ left) → HasLines text read
has_all text read left none has =
    let P : List NumberedLine → Type 0 = λ lines. HasLines text lines in
    subst P (ap (λ lines. read ++ lines) none ∙ append-nil read) has

-- ---- what they say

module _ {Value : Type 0} (Says : List ℕ → Value → Type 0) where
  -- one line more, and its value
  pub each_more : (lines : List NumberedLine) (values : List Value) (line : NumberedLine) (value : Value) → SayEach Says lines values
      → Says line.octets value → SayEach Says (lines ++ line ∷ []) (values ++ value ∷ [])
  each_more [] [] line value each says = (says, tt)
  each_more [] (v ∷ values) line value each says = absurd each
  each_more (l ∷ lines) [] line value each says = absurd each
  each_more (l ∷ lines) (v ∷ values) line value each says = (each.0, each_more lines values line value each.1 says)

  -- the first of lines that say values says one
  begins_before : (text : List ℕ) (line : NumberedLine) (lines behind : List NumberedLine) (values : List Value)
      → HasLines text (line ∷ behind) → SayEach Says (line ∷ lines) values → BeginsWithValue Says text
  begins_before text line lines behind [] has each = absurd each
  begins_before text line lines behind (value ∷ values) has each =
      record { line = line; behind = behind; has = has; value = value; says = each.0 }

  pub begins : (text : List ℕ) (before : List NumberedLine) (line : NumberedLine) (after : List NumberedLine) (values : List Value)
      → HasLines text (before ++ line ∷ after) → SayEach Says before values → (value : Value) × Says line.octets value
      → BeginsWithValue Says text
  begins text [] line after values has each is =
      record { line = line; behind = after; has = has; value = is.0; says = is.1 }
  begins text (l ∷ before) line after values has each is = begins_before text l before (before ++ line ∷ after) values has each

-- lines were read as values that may stand in one file
pub record SayTogether {Value : Type 0} (Says : List ℕ → Value → Type 0) (MayStand : List Value → Type 0) (lines : List NumberedLine) (values : List Value) : Type 0 where
  pub each : SayEach Says lines values
  pub may_stand : MayStand values

module _ {Value : Type 0} {Says : List ℕ → Value → Type 0} {MayStand : List Value → Type 0} where
  -- one line more
  pub say_more : {lines : List NumberedLine} {old : List Value} (new : List Value) (line : NumberedLine) → SayTogether Says MayStand lines old
      → (value : Value) × Says line.octets value × MayStand (old ++ value ∷ []) × (new ≡ old ++ value ∷ []) → SayTogether Says MayStand (lines ++ line ∷ []) new
  say_more {lines} {old} new line so_far (value, says, may_stand, same) =
      let Together : List Value → Type 0 = λ values. SayTogether Says MayStand (lines ++ line ∷ []) values in
      subst Together (sym same) (record { each = each_more Says lines old line value so_far.each says; may_stand = may_stand })

  -- all lines of a file
  pub all_say : (text : List ℕ) (lines : List NumberedLine) (values : List Value) → HasLines text lines → SayTogether Says MayStand lines values
      → SaysValues Says MayStand text values
  all_say text lines values has say = record { lines = lines; has = has; each = say.each; may_stand = say.may_stand }

  module _ {Fault : Type 0} {IsFaultOfLine : Fault → NumberedLine → List Value → Type 0} where
    -- a fault of the next line is the file's first
    pub first_fault : (text : List ℕ) (before : List NumberedLine) (line : NumberedLine) (after : List NumberedLine) (values : List Value)
        (error : Fault) → HasLines text (before ++ line ∷ after) → SayTogether Says MayStand before values → IsFaultOfLine error line values
        → HasFirstFault Says MayStand IsFaultOfLine text error
    first_fault text before line after values error has so_far there =
        record { before = before; line = line; after = after; has = has; values = values; each = so_far.each; may_stand = so_far.may_stand; there = there }

    -- the fault of a file is told where a line is refused, unless memory was
    pub first_fault_told : (kind : IsLineFile Says MayStand IsFaultOfLine) {T : Type 0} (out_of_memory : Fault) (text : List ℕ)
        (before : List NumberedLine) (line : NumberedLine) (after : List NumberedLine) (values : List Value) (error : Fault)
        → HasLines text (before ++ line ∷ after) → SayTogether Says MayStand before values
        → ((error ≡ out_of_memory) × ((value : Value) × Says line.octets value)) ⊎ IsFaultOfLine error line values
        → (fault : Fault) → HasFirstFault Says MayStand IsFaultOfLine text fault
        → (◌≡◌ {A = Result T Fault} (Err error) (Err fault)) ⊎ ((◌≡◌ {A = Result T Fault} (Err error) (Err out_of_memory)) × BeginsWithValue Says text)
    first_fault_told kind out_of_memory text before line after values error has so_far (inl (out, says)) fault there =
        inr (ap Err out, begins Says text before line after values has so_far.each says)
    first_fault_told kind out_of_memory text before line after values error has so_far (inr refused) fault there =
        inl (ap Err (HasFirstFault-only kind text error fault (first_fault text before line after values error has so_far refused) there))

-- ---- no file is neither

-- What a kind of file fulfils where no text is without values and without a fault: nothing may stand in a file, and behind
-- values that may, a line says one more that may stand with them, or is at fault.
pub record SaysOrFails {Value Fault : Type 0} (Says : List ℕ → Value → Type 0) (MayStand : List Value → Type 0)
    (IsFaultOfLine : Fault → NumberedLine → List Value → Type 0) : Type 0 where
  pub nothing : MayStand []
  pub next : (line : NumberedLine) (before : List Value) → MayStand before
      → ((value : Value) → Says line.octets value → MayStand (before ++ value ∷ []) → ⊥)
      → ((fault : Fault) → IsFaultOfLine fault line before → ⊥) → ⊥

module _ {Value Fault : Type 0} {Says : List ℕ → Value → Type 0} {MayStand : List Value → Type 0} {IsFaultOfLine : Fault → NumberedLine → List Value → Type 0}
    (kind : SaysOrFails Says MayStand IsFaultOfLine) (text : List ℕ) (none : (values : List Value) → SaysValues Says MayStand text values → ⊥)
    (no_first : (fault : Fault) → HasFirstFault Says MayStand IsFaultOfLine text fault → ⊥) where
  -- lines that say values don't end, and none comes behind them
  no_end : (after before : List NumberedLine) (values : List Value) → HasLines text (before ++ after) → SayEach Says before values → MayStand values → ⊥
  no_end [] before values has each may_stand =
      none values (record { lines = before; has = has_all text before [] refl has; each = each; may_stand = may_stand })
  no_end (line ∷ after) before values has each may_stand =
      kind.next line values may_stand
      (λ value says more. no_end after (before ++ line ∷ []) (values ++ value ∷ []) (has_more text before (line ∷ after) after line refl has)
      (each_more Says before values line value each says) more)
      (λ fault there. no_first fault (record { before = before; line = line; after = after; has = has; values = values; each = each; may_stand = may_stand; there = there }))

  -- a file says values or has a first fault
  pub values_or_fault : ⊥
  values_or_fault = no_end (kept_from 1 (lines_in text)) [] [] (HasLines-read text) tt kind.nothing
