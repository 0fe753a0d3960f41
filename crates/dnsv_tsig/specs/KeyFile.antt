-- Files of keys: which keys a text says, and what it is refused for.
use Rattle.std.specs.Prelude.{◌≡◌, List, ℕ, [], ◌∷◌, ◌++◌, None}
use Rattle.base64.specs.Engines.{standard}
use Rattle.base64.specs.GeneralPurpose.{encode_of}
use Rattle.dnsv_names.specs.Lines.LineFile.{BeginsWithValue, HasFirstFault, SaysValues}
use Rattle.dnsv_names.specs.Lines.{AreFields, NumberedLine}
use Rattle.dnsv_names.specs.Name.{IsName}
use Rattle.dnsv_names.specs.Octets.{AreOctets}
use Rattle.dnsv_names.specs.Text.{IsTextOf}
use Rattle.dnsv_tsig.specs.declared.error.KeyFileError.{KeyFileError}
use Rattle.dnsv_tsig.specs.declared.error.KeyFileError.TheVariants.{OutOfMemory, Syntax, DuplicateKey}
use Rattle.dnsv_tsig.specs.Key.{SharedKey, key_named}

-- A line has two fields, the key's name as text, and its octets in base64 with padding (RFC 4648 4). A field has at
-- least one octet, and so has the key.
pub record IsKeyLine (line : List ℕ) (key : SharedKey) : Type 0 where
  pub text : List ℕ
  pub coded : List ℕ
  pub fields : AreFields line (text ∷ coded ∷ [])
  pub is_name : IsName key.name
  pub name : IsTextOf text key.name
  pub octets : AreOctets key.secret
  pub secret : coded ≡ encode_of standard key.secret

-- no key has the name of one before it
abbrev pub HaveOwnNames : List SharedKey → Type 0
HaveOwnNames keys = (before : List SharedKey) (key : SharedKey) (after : List SharedKey) → keys ≡ before ++ key ∷ after
    → key_named key.name before ≡ None

-- what is wrong with a line behind keys
abbrev pub IsFaultOfLine : KeyFileError → NumberedLine → List SharedKey → Type 0
IsFaultOfLine OutOfMemory line before = ⊥
-- it is no key's
IsFaultOfLine (Syntax number) line before =
    (number ≡ line.number) × ((key : SharedKey) → IsKeyLine line.octets key → ⊥)
-- its key's name stood before
IsFaultOfLine (DuplicateKey number) line before =
    (number ≡ line.number)
    × ((key : SharedKey) × IsKeyLine line.octets key × (key_named key.name before ≡ None → ⊥))

-- the keys of a text file
abbrev pub IsRingOf : List ℕ → List SharedKey → Type 0
IsRingOf text ring = SaysValues IsKeyLine HaveOwnNames text ring

-- what a text file is refused for: its first fault
abbrev pub IsKeyFault : List ℕ → KeyFileError → Type 0
IsKeyFault text error = HasFirstFault IsKeyLine HaveOwnNames IsFaultOfLine text error

-- the first line of a text file is a key's, so that memory is needed before any fault is found
abbrev pub BeginsWithKey : List ℕ → Type 0
BeginsWithKey text = BeginsWithValue IsKeyLine text
