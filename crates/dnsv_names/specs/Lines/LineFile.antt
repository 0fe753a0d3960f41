-- Text files in which each line that counts says a value: what a file says, and its first faulty line. A file of some
-- kind gives what a line says, which values may stand in one file, and what is wrong with a line behind others.
use Rattle.std.specs.Prelude.{ℕ, List, ◌∷◌, ◌++◌}
use Rattle.std.specs.List.{AllZip}
use Rattle.dnsv_names.specs.Lines.{HasLines, NumberedLine}

-- lines say values, one each
abbrev pub SayEach : {Value : Type 0} → (List ℕ → Value → Type 0) → List NumberedLine → List Value → Type 0
SayEach Says lines values = AllZip (λ line value. Says line.octets value) lines values

-- a file says these values, in the order of its lines, and they may stand in one file
pub record SaysValues {Value : Type 0} (Says : List ℕ → Value → Type 0) (MayStand : List Value → Type 0)
    (text : List ℕ) (values : List Value) : Type 0 where
  pub lines : List NumberedLine
  pub has : HasLines text lines
  pub each : SayEach Says lines values
  pub may_stand : MayStand values

-- The first fault of a file. The lines before it say values that may stand in one file, and behind these the line is
-- at fault.
pub record HasFirstFault {Value Fault : Type 0} (Says : List ℕ → Value → Type 0) (MayStand : List Value → Type 0)
    (IsFaultOfLine : Fault → NumberedLine → List Value → Type 0) (text : List ℕ) (fault : Fault) : Type 0 where
  pub before : List NumberedLine
  pub line : NumberedLine
  pub after : List NumberedLine
  pub has : HasLines text (before ++ line ∷ after)
  pub values : List Value
  pub each : SayEach Says before values
  pub may_stand : MayStand values
  pub there : IsFaultOfLine fault line values

-- the first line of a file says a value, so that memory is needed before any fault is found
pub record BeginsWithValue {Value : Type 0} (Says : List ℕ → Value → Type 0) (text : List ℕ) : Type 0 where
  pub line : NumberedLine
  pub behind : List NumberedLine
  pub has : HasLines text (line ∷ behind)
  pub value : Value
  pub says : Says line.octets value
