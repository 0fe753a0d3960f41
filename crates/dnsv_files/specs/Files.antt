-- The files of a run, and what their readers tell of them.
pub mod Anchors
pub mod Answers
pub mod Capture
pub mod Faults
pub mod Questions
pub mod Statements
use Rattle.std.specs.Prelude.{◌≡◌, ◌≢◌, ℕ, List, [], Option, Some, None, unwrap_or}
use Rattle.std.specs.Option.{option_map, option_map_or}
use Rattle.dnsv_message.specs.Streams.Counted.{inner_of, failures_of}
use Rattle.dnsv_message.specs.declared.streams.counted.Counted.{Counted}
use Rattle.dnsv_files.specs.declared.inputs.Inputs.{Inputs}

-- the octets of each file; one that isn't given has none
pub record Files : Type 0 where
  pub capture : List ℕ
  pub anchors : Option (List ℕ)
  pub statements : Option (List ℕ)
  pub answers : Option (List ℕ)
  pub keys : Option (List ℕ)
  pub macs : Option (List ℕ)
  pub questions : Option (List ℕ)

-- the file is given
abbrev pub IsGiven : {T : Type 0} → Option T → Type 0
IsGiven file = file ≢ None

-- the octets of a file, or none where it isn't given
abbrev pub octets_or_none : Option (List ℕ) → List ℕ
octets_or_none octets = unwrap_or octets []

-- the reader of a file that may be given tells these octets
abbrev pub IsToldBy : {R : Type 0} → (R → Option (List ℕ)) → Option (Counted R) → Option (List ℕ) → Type 0
IsToldBy remaining reader octets =
    option_map (λ each. remaining (inner_of each)) reader ≡ option_map (λ each. Some each) octets

-- a file that may be given says this, or nothing where it isn't
abbrev pub MayHave : {T : Type 0} → (List ℕ → T → Type 0) → Option (List ℕ) → Option T → Type 0
MayHave Says None said = said ≡ None
MayHave Says (Some text) None = ⊥
MayHave Says (Some text) (Some said) = Says text said

-- how many calls failed of the reader of a file that may be given
abbrev pub given_failures : {R : Type 0} → Option (Counted R) → ℕ
given_failures reader = option_map_or failures_of reader 0

-- the readers of the files that questions are judged by tell the octets of these
pub record AreToldBeside {R : Type 0} (remaining : R → Option (List ℕ)) (inputs : Inputs R) (files : Files) : Type 0 where
  pub capture : remaining (inner_of inputs.capture) ≡ Some files.capture
  pub anchors : IsToldBy remaining inputs.anchors files.anchors
  pub statements : IsToldBy remaining inputs.statements files.statements
  pub answers : IsToldBy remaining inputs.answers files.answers
  pub keys : IsToldBy remaining inputs.keys files.keys
  pub macs : IsToldBy remaining inputs.macs files.macs

-- and that of questions too
pub record AreTold {R : Type 0} (remaining : R → Option (List ℕ)) (inputs : Inputs R) (files : Files) : Type 0 where
  pub beside : AreToldBeside remaining inputs files
  pub questions : IsToldBy remaining inputs.questions files.questions
