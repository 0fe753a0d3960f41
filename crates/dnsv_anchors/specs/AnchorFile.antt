-- Files of trust anchors: which anchors a text says, and what it is refused for.
use Rattle.std.specs.Prelude.{◌≡◌, ◌<◌, ◌≤◌, ℕ, List, [], ◌∷◌, Some, codes, length}
use Rattle.std.specs.Fmt.{decimal}
use Rattle.base64.specs.Engines.{standard}
use Rattle.base64.specs.GeneralPurpose.{encode_of}
use Rattle.dnsv_names.specs.Name.{Labels, IsName}
use Rattle.dnsv_names.specs.Octets.{AreOctets}
use Rattle.dnsv_names.specs.Text.{IsTextOf}
use Rattle.dnsv_names.specs.Lines.LineFile.{BeginsWithValue, HasFirstFault, SaysValues}
use Rattle.dnsv_names.specs.Lines.{AreFields, NumberedLine}
use Rattle.dnsv_records.specs.Dnskey.{IsDnskey}
use Rattle.dnsv_records.specs.declared.dnskey.Dnskey.{Dnskey}
use Rattle.dnsv_records.specs.declared.ds.Ds.{Ds}
use Rattle.dnsv_anchors.specs.HexField.{hex_value}
use Rattle.dnsv_anchors.specs.declared.anchor.Anchor.{Anchor}
use Rattle.dnsv_anchors.specs.declared.anchor.Anchor.TheVariants as anchor
use Rattle.dnsv_anchors.specs.declared.anchors.AnchorsError.{AnchorsError}
use Rattle.dnsv_anchors.specs.declared.anchors.AnchorsError.TheVariants.{OutOfMemory, Syntax, TooMany}

-- the text spells the name
pub record Spells (text : List ℕ) (name : Labels) : Type 0 where
  pub is_name : IsName name
  pub spelling : IsTextOf text name

-- the text is the decimal digits of the number, which is below the limit
pub record IsNumber (text : List ℕ) (number limit : ℕ) : Type 0 where
  pub digits : text ≡ decimal number
  pub fits : number < limit

-- a DS record as text: its key tag, algorithm and digest type, and its digest in hex digits (RFC 4034 5.3)
pub record IsDsText (key_tag algorithm digest_type digest : List ℕ) (ds : Ds) : Type 0 where
  pub key_tag_is : IsNumber key_tag ds.key_tag.0 65536
  pub algorithm_is : IsNumber algorithm ds.algorithm.0 256
  pub digest_type_is : IsNumber digest_type ds.digest_type.0 256
  pub digest_is : hex_value digest ≡ Some ds.digest

-- the RDATA of a DNSKEY record as text: its flags, protocol and algorithm, and its key in base64 with padding
-- (RFC 4034 2.2, RFC 4648 4)
pub record IsDnskeyText (flags protocol algorithm key : List ℕ) (rdata : List ℕ) : Type 0 where
  pub octets : AreOctets rdata
  pub dnskey : Dnskey
  pub is : IsDnskey rdata dnskey
  pub flags_are : IsNumber flags dnskey.flags.0 65536
  pub protocol_is : IsNumber protocol dnskey.protocol 256
  pub algorithm_is : IsNumber algorithm dnskey.algorithm.0 256
  pub key_is : key ≡ encode_of standard dnskey.key

-- Six fields say an anchor: `DS` or `KEY`, the owner, and the four of the record. A field has at least one octet, and
-- so has a key.
abbrev pub SaysAnchor : List (List ℕ) → Anchor → Type 0
SaysAnchor (word ∷ name ∷ first ∷ second ∷ third ∷ last ∷ []) (anchor.Ds owner ds) =
    (word ≡ codes "DS") × Spells name owner × IsDsText first second third last ds
SaysAnchor (word ∷ name ∷ first ∷ second ∷ third ∷ last ∷ []) (anchor.Key owner rdata) =
    (word ≡ codes "KEY") × Spells name owner × IsDnskeyText first second third last rdata
SaysAnchor _ _ = ⊥

-- a line says an anchor
pub record IsAnchorLine (line : List ℕ) (anchor : Anchor) : Type 0 where
  pub fields : List (List ℕ)
  pub parted : AreFields line fields
  pub says : SaysAnchor fields anchor

-- a file has at most 64 anchors
abbrev pub AreFew : List Anchor → Type 0
AreFew anchors = length anchors ≤ 64

-- the anchors of a text file, in the order of its lines
abbrev pub AreAnchorsOf : List ℕ → List Anchor → Type 0
AreAnchorsOf text anchors = SaysValues IsAnchorLine AreFew text anchors

-- the first line of a text file says an anchor, so that memory is needed before any fault is found
abbrev pub BeginsWithAnchor : List ℕ → Type 0
BeginsWithAnchor text = BeginsWithValue IsAnchorLine text

-- what is wrong with a line behind anchors
abbrev pub IsFaultOfLine : AnchorsError → NumberedLine → List Anchor → Type 0
IsFaultOfLine OutOfMemory line before = ⊥
-- it says no anchor
IsFaultOfLine (Syntax number) line before =
    (number ≡ line.number) × ((anchor : Anchor) → IsAnchorLine line.octets anchor → ⊥)
-- it says one, behind 64
IsFaultOfLine (TooMany number) line before =
    (number ≡ line.number) × ((anchor : Anchor) × IsAnchorLine line.octets anchor) × (length before ≡ 64)

-- the first fault of a text file
abbrev pub IsFaultOf : List ℕ → AnchorsError → Type 0
IsFaultOf text fault = HasFirstFault IsAnchorLine AreFew IsFaultOfLine text fault
