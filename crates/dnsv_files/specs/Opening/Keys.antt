-- Files of keys: what they say, and what they are refused for.
use Rattle.std.specs.Prelude.{◌≡◌, ◌≤◌, ℕ, List, Option, length}
use Rattle.dnsv_message.specs.Streams.Frames.{file_limit}
use Rattle.dnsv_tsig.specs.Key.{SharedKey}
use Rattle.dnsv_tsig.specs.KeyFile.{IsKeyFault, IsRingOf}
use Rattle.dnsv_tsig.specs.declared.error.KeyFileError.{KeyFileError}
use Rattle.dnsv_tsig.specs.declared.error.KeyFileError.TheVariants as key_file
use Rattle.dnsv_files.specs.declared.status.Fault.{Fault}
use Rattle.dnsv_files.specs.declared.status.InputFile.TheVariants.{Keys}
use Rattle.dnsv_files.specs.declared.status.Place.{Place}
use Rattle.dnsv_files.specs.declared.status.Refusal.{Refusal}
use Rattle.dnsv_files.specs.declared.status.Refusal.TheVariants as refusal
use Rattle.dnsv_files.specs.Files.{MayHave}
use Rattle.dnsv_files.specs.Files.Faults.{IsTextFault}
use Rattle.dnsv_files.specs.Files.Statements.{IsAtLine}

-- the keys of a text within the limit
pub record HasKeys (text : List ℕ) (keys : List SharedKey) : Type 0 where
  pub within : length text ≤ file_limit
  pub are : IsRingOf text keys

-- the keys of a file that may be given: none where it isn't
abbrev pub MayHaveKeys : Option (List ℕ) → Option (List SharedKey) → Type 0
MayHaveKeys = MayHave HasKeys

-- a fault of keys is told as this refusal, with the number of the line
abbrev pub TellsKeysError : KeyFileError → Refusal → Place → Type 0
TellsKeysError key_file.OutOfMemory why place = ⊥
TellsKeysError (key_file.Syntax number) why place =
    (why ≡ refusal.KeyLine (key_file.Syntax number)) × IsAtLine number place
TellsKeysError (key_file.DuplicateKey number) why place =
    (why ≡ refusal.KeyLine (key_file.DuplicateKey number)) × IsAtLine number place

-- the text is refused for its first fault
abbrev pub AreKeysRefused : List ℕ → Refusal → Place → Type 0
AreKeysRefused text why place = (error : KeyFileError) × IsKeyFault text error × TellsKeysError error why place

abbrev pub IsFaultOfKeys : List ℕ → Fault → Type 0
IsFaultOfKeys = IsTextFault Keys AreKeysRefused
