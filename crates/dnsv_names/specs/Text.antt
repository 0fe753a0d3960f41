-- Names as text (RFC 1035 5.1, RFC 4343 2.1). A text is octets: 46 is the dot, 92 the backslash, 48 to 57
-- are the digits, and 33 to 126 what is graphic, that is 0x21 to 0x7e.
pub mod Reading
use Rattle.std.specs.Prelude.{◌≡◌, ◌≢◌, ℕ, ◌+◌, ◌-◌, ◌*◌, ◌/◌, ◌%◌, ◌<◌, ◌≤◌, ◌⊎◌, ◌==◌, ◌||◌, if◌then◌else◌, List, [], ◌∷◌, ◌++◌, length}
use Rattle.std.specs.List.{flat_map}
use Rattle.std.specs.Char.{is_ascii_graphic, IsAsciiGraphic, IsAsciiDigit}
use Rattle.dnsv_names.specs.Name.{Labels, IsName, wire}
use Rattle.dnsv_names.specs.declared.error.NameError.{NameError}
use Rattle.dnsv_names.specs.declared.error.NameError.TheVariants.{BadEscape, EmptyLabel, LongLabel, LongName, NotAbsolute}

-- An octet is spelled by itself, by a backslash and itself, or by a backslash and its three decimal digits.
abbrev pub SpellsOctet : List ℕ → ℕ → Type 0
SpellsOctet (c ∷ []) octet = IsAsciiGraphic c × (c ≢ 46) × (c ≢ 92) × (octet ≡ c)
SpellsOctet (b ∷ c ∷ []) octet = (b ≡ 92) × IsAsciiGraphic c × ¬ IsAsciiDigit c × (octet ≡ c)
SpellsOctet (b ∷ x ∷ y ∷ z ∷ []) octet =
    (b ≡ 92) × IsAsciiDigit x × IsAsciiDigit y × IsAsciiDigit z
    × (octet ≡ 100 * (x - 48) + 10 * (y - 48) + (z - 48)) × (octet < 256)
SpellsOctet _ octet = ⊥

-- a label is spelled by its octets, one after another
abbrev pub SpellsLabel : List ℕ → List ℕ → Type 0
SpellsLabel text [] = text ≡ []
SpellsLabel text (octet ∷ label) =
    (front : List ℕ) × (rest : List ℕ) × (text ≡ front ++ rest) × SpellsOctet front octet × SpellsLabel rest label

-- labels are spelled one after another, a dot behind each
abbrev pub SpellsLabels : List ℕ → Labels → Type 0
SpellsLabels text [] = text ≡ []
SpellsLabels text (label ∷ labels) =
    (front : List ℕ) × (rest : List ℕ) × (text ≡ front ++ 46 ∷ rest) × SpellsLabel front label
    × SpellsLabels rest labels

-- the text spells the name: the root by a dot, any other name by its labels
abbrev pub IsTextOf : List ℕ → Labels → Type 0
IsTextOf text [] = text ≡ 46 ∷ []
IsTextOf text (label ∷ labels) = SpellsLabels text (label ∷ labels)

-- Of the texts of an octet, the one that is written: the dot and the backslash behind a backslash, what else
-- is graphic as it is, all others by three digits.
abbrev pub octet_text : ℕ → List ℕ
octet_text octet =
    if octet == 46 || octet == 92 then 92 ∷ octet ∷ []
    else (if is_ascii_graphic octet then octet ∷ []
    else 92 ∷ (48 + octet / 100) ∷ (48 + octet / 10 % 10) ∷ (48 + octet % 10) ∷ [])

abbrev pub label_text : List ℕ → List ℕ
label_text label = flat_map octet_text label

-- of the texts of a name, the one that is written
abbrev pub text_of : Labels → List ℕ
text_of [] = 46 ∷ []
text_of (label ∷ labels) = flat_map (λ each. label_text each ++ 46 ∷ []) (label ∷ labels)

abbrev pub BeginsDot : List ℕ → Type 0
BeginsDot text = (rest : List ℕ) × (text ≡ 46 ∷ rest)

abbrev pub BeginsOctet : List ℕ → Type 0
BeginsOctet text = (front : List ℕ) × (rest : List ℕ) × (octet : ℕ) × (text ≡ front ++ rest) × SpellsOctet front octet

-- What is wrong at a place of a text. Before it stand whole labels with their dots, and octets of a label
-- that has begun; the rest of the text stands from there on.
abbrev pub IsFaultAt : NameError → Labels → List ℕ → List ℕ → Type 0
-- neither an octet nor a dot
IsFaultAt BadEscape whole begun rest = (rest ≢ []) × ¬ BeginsDot rest × ¬ BeginsOctet rest
-- a dot behind no octet
IsFaultAt EmptyLabel whole begun rest = BeginsDot rest × (begun ≡ [])
-- an octet behind 63
IsFaultAt LongLabel whole begun rest = BeginsOctet rest × (length begun ≡ 63)
-- a dot behind a label with which the wire form passes 255 octets
IsFaultAt LongName whole begun rest = BeginsDot rest × (begun ≢ []) × (255 < length (wire (whole ++ begun ∷ [])))
-- the end, and no dot right before it
IsFaultAt NotAbsolute whole begun rest = (rest ≡ []) × ((begun ≢ []) ⊎ (whole ≡ []))

-- Nothing is wrong in the front of a text: it spells whole labels with their dots, and then octets of a
-- label that has begun.
pub record SpellsSoFar (front : List ℕ) (whole : Labels) (begun : List ℕ) : Type 0 where
  pub name : IsName whole
  pub at_most_63 : length begun ≤ 63
  pub dotted : List ℕ
  pub ending : List ℕ
  pub form : front ≡ dotted ++ ending
  pub labels : SpellsLabels dotted whole
  pub octets : SpellsLabel ending begun

-- The first fault of a text, from the left: up to its place nothing is wrong. A dot alone is the root.
pub record FirstFault (text : List ℕ) (fault : NameError) : Type 0 where
  pub not_root : text ≢ 46 ∷ []
  pub front : List ℕ
  pub rest : List ℕ
  pub whole : Labels
  pub begun : List ℕ
  pub form : text ≡ front ++ rest
  pub so_far : SpellsSoFar front whole begun
  pub there : IsFaultAt fault whole begun rest
