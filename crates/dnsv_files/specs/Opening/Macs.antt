-- Files of the MACs of requests: what they say, and what they are refused for.
use Rattle.std.specs.Prelude.{◌≡◌, ◌≤◌, ◌⊎◌, ℕ, List, [], ◌∷◌, Option, Some, None, Ok, codes, length}
use Rattle.hex.specs.Hex.{decode_of}
use Rattle.dnsv_message.specs.Streams.Frames.{file_limit}
use Rattle.dnsv_names.specs.Lines.LineFile.{BeginsWithValue}
use Rattle.dnsv_names.specs.Lines.{HasLines, NumberedLine}
use Rattle.dnsv_files.specs.declared.status.Fault.{Fault}
use Rattle.dnsv_files.specs.declared.status.InputFile.TheVariants.{Macs}
use Rattle.dnsv_files.specs.declared.status.Place.{Place}
use Rattle.dnsv_files.specs.declared.status.Refusal.{Refusal}
use Rattle.dnsv_files.specs.declared.status.Refusal.TheVariants as refusal
use Rattle.dnsv_files.specs.Files.{MayHave}
use Rattle.dnsv_files.specs.Files.Faults.{IsTextFault}
use Rattle.dnsv_files.specs.Files.Statements.{IsAtLine}

-- a line is the MAC of a request (RFC 8945 4.3.1), 32 octets in 64 hex digits of either case, or `-` where the request
-- had none
abbrev pub IsMacLine : List ℕ → Option (List ℕ) → Type 0
IsMacLine line None = line ≡ codes "-"
IsMacLine line (Some mac) = (length line ≡ 64) × (decode_of line ≡ Ok mac)

-- these are what the lines say, one each
abbrev pub SayMacs : List NumberedLine → List (Option (List ℕ)) → Type 0
SayMacs [] [] = Unit {0}
SayMacs [] (mac ∷ macs) = ⊥
SayMacs (line ∷ lines) [] = ⊥
SayMacs (line ∷ lines) (mac ∷ macs) = IsMacLine line.octets mac × SayMacs lines macs

-- a line is refused, as neither of these
abbrev pub IsMacRefused : NumberedLine → Refusal → Place → Type 0
IsMacRefused line why place =
    ((mac : Option (List ℕ)) → IsMacLine line.octets mac → ⊥) × (why ≡ refusal.MacSyntax) × IsAtLine line.number place

-- the first of the lines that is refused, is refused so
abbrev pub IsFirstRefused : List NumberedLine → Refusal → Place → Type 0
IsFirstRefused [] why place = ⊥
IsFirstRefused (line ∷ lines) why place =
    IsMacRefused line why place
    ⊎ ((mac : Option (List ℕ)) × IsMacLine line.octets mac × IsFirstRefused lines why place)

-- the MACs of a text within the limit
pub record HasMacs (text : List ℕ) (macs : List (Option (List ℕ))) : Type 0 where
  pub within : length text ≤ file_limit
  pub lines : List NumberedLine
  pub has : HasLines text lines
  pub say : SayMacs lines macs

-- the MACs of a file that may be given: none where it isn't
abbrev pub MayHaveMacs : Option (List ℕ) → Option (List (Option (List ℕ))) → Type 0
MayHaveMacs = MayHave HasMacs

-- the text is refused for the first of its lines that is at fault
abbrev pub AreMacsRefused : List ℕ → Refusal → Place → Type 0
AreMacsRefused text why place =
    (lines : List NumberedLine) × HasLines text lines × IsFirstRefused lines why place

-- the first line of the text says a MAC, or that there was none, so that memory is needed before any fault is found
abbrev pub BeginsWithMac : List ℕ → Type 0
BeginsWithMac = BeginsWithValue IsMacLine

abbrev pub IsFaultOfMacs : List ℕ → Fault → Type 0
IsFaultOfMacs = IsTextFault Macs AreMacsRefused
