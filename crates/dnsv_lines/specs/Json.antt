-- JSON as it is written here (RFC 8259): without any space, of ASCII alone.
use Rattle.std.specs.Prelude.{◌≡◌, ℕ, ◌<◌, Bool, true, false, List, [], ◌∷◌, ◌++◌, ◌==◌, ◌||◌, if◌then◌else◌, codes}
use Rattle.std.specs.List.{AllByRecursion, flat_map}
use Rattle.dnsv_names.specs.Name.{Labels, lower_case}
use Rattle.dnsv_names.specs.Text.{text_of}

-- ---- strings

-- text between quotation marks
abbrev pub quoted : List ℕ → List ℕ
quoted text = codes "\"" ++ text ++ codes "\""

-- an octet in a string: a quotation mark (34) and a backslash (92) stand behind a backslash
abbrev pub escaped : ℕ → List ℕ
escaped octet = if octet == 34 || octet == 92 then 92 ∷ octet ∷ [] else octet ∷ []

-- each is an octet of ASCII
abbrev pub AreAscii : List ℕ → Type 0
AreAscii octets = AllByRecursion (λ octet. octet < 128) octets

-- a text that may have such octets
abbrev pub string_json : List ℕ → List ℕ
string_json text = quoted (flat_map escaped text)

-- a name in lower case
abbrev pub name_json : Labels → List ℕ
name_json name = string_json (text_of (lower_case name))

-- ---- objects and arrays

-- values or members, with a comma before each but the first of all
abbrev pub parted : Bool → List (List ℕ) → List ℕ
parted first [] = []
parted true (value ∷ values) = value ++ parted false values
parted false (value ∷ values) = codes "," ++ value ++ parted false values

-- the comma before a value
abbrev pub comma : Bool → List ℕ
comma true = []
comma false = codes ","

-- whether what follows these values is still the first
abbrev pub still_first : {X : Type 0} → Bool → List X → Bool
still_first first [] = first
still_first first (value ∷ values) = false

abbrev pub array : List (List ℕ) → List ℕ
array values = codes "[" ++ parted true values ++ codes "]"

-- a member: its key and its value
abbrev pub member : List ℕ → List ℕ → List ℕ
member key value = quoted key ++ codes ":" ++ value

abbrev pub object : List (List ℕ) → List ℕ
object members = codes "{" ++ parted true members ++ codes "}"

-- the text grows by these members, behind others
pub record AddsMembers (members : List (List ℕ)) (before after : List ℕ) : Type 0 where
  pub text : after ≡ before ++ parted false members
