-- The text of `list --all`: what each signature of a capture signs.
use Rattle.std.specs.Prelude.{◌≡◌, ℕ, suc, Bool, List, [], ◌∷◌, ◌++◌, Option, Some, None, codes, map}
use Rattle.std.specs.Fmt.{decimal}
use Rattle.std.specs.List.{flat_map}
use Rattle.hex.specs.Hex.{encode_lower}
use Rattle.dnsv_records.specs.declared.rrsig.Rrsig.{Rrsig}
use Rattle.dnsv_records.specs.Rrsig.{IsRrsig}
use Rattle.dnsv_canonical.specs.Rrsets.{ReceivedRrset}
use Rattle.dnsv_canonical.specs.SignedData.{IsSignedData}
use Rattle.dnsv_questions.specs.declared.format.Format.{Format}
use Rattle.dnsv_questions.specs.declared.format.Format.TheVariants.{Json, Lines}
use Rattle.dnsv_lines.specs.Json.{array, member, object, quoted}
use Rattle.dnsv_evidence_texts.specs.Json.{object_line, octets_json}
use Rattle.dnsv_evidence_texts.specs.Parts.{part}

-- ---- what is listed

-- the number of an RRset, the number of its signature, and what that signs, if it signs anything
pub record SignedOctets : Type 0 where
  pub rrset : ℕ
  pub signature : ℕ
  pub octets : Option (List ℕ)

-- the list has each of these signatures over the RRset, the first of which has the number
abbrev pub ListsSignatures : ℕ → ReceivedRrset → ℕ → List (List ℕ) → List SignedOctets → Type 0
ListsSignatures number rrset signature [] listed = listed ≡ []
ListsSignatures number rrset signature (rdata ∷ others) listed =
    (rrsig : Rrsig) × (octets : Option (List ℕ)) × (rest : List SignedOctets) × IsRrsig rdata rrsig
    × IsSignedData rrset.owner rrset.rtype rrset.rdata rrsig octets
    × ListsSignatures number rrset (suc signature) others rest
    × (listed ≡ record { rrset = number; signature = signature; octets = octets } ∷ rest)

-- the list has each signature of these RRsets, the first of which has the number
abbrev pub ListsRrsets : ℕ → List ReceivedRrset → List SignedOctets → Type 0
ListsRrsets number [] listed = listed ≡ []
ListsRrsets number (rrset ∷ rrsets) listed =
    (front : List SignedOctets) × (rest : List SignedOctets) × ListsSignatures number rrset 1 rrset.signatures front
    × ListsRrsets (suc number) rrsets rest × (listed ≡ front ++ rest)

-- ---- its text

-- octets in lower case hex, and `-` for none
abbrev pub data_text : Option (List ℕ) → List ℕ
data_text None = codes "-"
data_text (Some octets) = encode_lower octets

-- a line: the number of the RRset, the number of its signature, and what that signs
abbrev pub data_line : SignedOctets → List ℕ
data_line signed =
    codes "data " ++ decimal signed.rrset ++ codes " " ++ decimal signed.signature ++ codes " " ++ data_text signed.octets
    ++ codes "\n"

-- octets in lower case hex, and null for none
abbrev pub octets_or_null : Option (List ℕ) → List ℕ
octets_or_null None = codes "null"
octets_or_null (Some octets) = octets_json octets

-- the object of the same
abbrev pub data_json : SignedOctets → List ℕ
data_json signed = object (member (codes "rrset") (decimal signed.rrset)
    ∷ member (codes "signature") (decimal signed.signature) ∷ member (codes "data") (octets_or_null signed.octets) ∷ [])

-- lines, or JSON
abbrev pub listing_text : Format → ℕ → List SignedOctets → List ℕ
listing_text Lines moment listed = flat_map data_line listed
listing_text Json moment listed = object_line (member (codes "command") (quoted (codes "list"))
    ∷ member (codes "moment") (decimal moment) ∷ member (codes "data") (array (map data_json listed)) ∷ [])

-- a part of either: behind others, or as the first
abbrev pub listed_part : Format → Bool → List SignedOctets → List ℕ
listed_part format first listed = part data_line data_json format first listed
